use Rattle.std.proofs.Common.{◌%◌, ◌≢◌, refl, rules, arith}
use Rattle.rules.specs.declared.State.TheVariants.{Clean, Dirty, PreDirty}
use Rattle.rules.specs.Checkpoints.{begun}
use Rattle.copies.proofs.Words.{made_clean, made_free, not_begun}
use Rattle.copies.proofs.begun_word.Goals as goal

pub returns-in-1 : goal.returns-in-1
unfolding begun
returns-in-1 c = made_clean begun c.args.word _ Clean c.in-1.is refl (omega arith)

pub returns-in-2 : goal.returns-in-2
unfolding begun
returns-in-2 c = made_clean begun c.args.word _ Dirty c.in-2.is refl (omega arith)

pub returns-in-5 : goal.returns-in-5
unfolding begun
returns-in-5 c = made_clean begun c.args.word _ PreDirty c.in-5.is refl (omega arith)

pub returns-in_default : goal.returns-in_default
returns-in_default c =
    let word = c.args.word in
    let one : word % 256 ≢ 1 = search rules in
    let two : word % 256 ≢ 2 = search rules in
    let five : word % 256 ≢ 5 = search rules in
    made_free begun word (not_begun (word % 256) one two five)
