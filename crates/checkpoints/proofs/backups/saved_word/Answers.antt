use Rattle.std.proofs.Common.{◌%◌, ◌≢◌, refl, rules, arith}
use Rattle.rules.specs.declared.State.TheVariants.{Clean, PreHidden}
use Rattle.rules.specs.Checkpoints.{saved}
use Rattle.copies.proofs.Words.{made_clean, made_free, not_saved}
use Rattle.checkpoints.proofs.backups.saved_word.Goals as goal

pub returns-in-1 : goal.returns-in-1
unfolding saved
returns-in-1 c = made_clean saved c.args.word _ Clean c.in-1.is refl (omega arith)

pub returns-in-4 : goal.returns-in-4
unfolding saved
returns-in-4 c = made_clean saved c.args.word _ PreHidden c.in-4.is refl (omega arith)

pub returns-in_default : goal.returns-in_default
returns-in_default c =
    let word = c.args.word in
    let one : word % 256 ≢ 1 = search rules in
    let four : word % 256 ≢ 4 = search rules in
    made_free saved word (not_saved (word % 256) one four)
