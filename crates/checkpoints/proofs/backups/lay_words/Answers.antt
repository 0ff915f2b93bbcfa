use mathlib.Core.Path.{ap, ◌∙◌}
use mathlib.Core.List.{map}
use Prim.Native.Nat.{◌-◌}
use native.Mathlib.Omega.{arith}
use lib.ListN.{take, drop}
use lib.ListN.{length-map}
use Rattle.words.specs.Words.{lay}
use Rattle.rules.specs.TableWords.{changed}
use Rattle.rules.specs.Checkpoints.{saved}
use Rattle.checkpoints.specs.Backups.{backup_list}
use Rattle.checkpoints.proofs.Lists.{length_list, lays_words, to_start, to_next}
use Rattle.checkpoints.proofs.backups.lay_words.Goals as goal

pub loop-index-init : goal.loop-index-init
loop-index-init c =
    let a = c.args in
    to_start (backup_list a.place a.mark a.registers.now (map (changed saved) a.table.now)) a.count a.part.now

pub loop-index-preserved : goal.loop-index-preserved
loop-index-preserved c =
    let a = c.args in
    let l = c.loop-index in
    let list = backup_list a.place a.mark a.registers.now (map (changed saved) a.table.now) in
    c.lay_word.ensures ∙ ap (lay (take 1 (drop l.index list))) l.invariant ∙ to_next list a.count l.index a.part.now (omega arith)

pub returns : goal.returns
returns c =
    let a = c.args in
    let l = c.loop-index in
    let t = map (changed saved) a.table.now in
    lays_words a.p a.words a.count (l.index - a.count) (backup_list a.place a.mark a.registers.now t)
    (omega (arith, length_list a.place a.mark a.registers.now t, length-map a.table.now (changed saved), c.requires.1))
    (omega (arith, c.min.ensures, c.loop-index-test.false)) l.invariant
