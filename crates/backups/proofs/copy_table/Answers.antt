use mathlib.Core.Path.{◌∙◌}
use native.Mathlib.Omega.{arith}
use lib.ListN.{length-set}
use Rattle.backups.proofs.Sound.{table_turn, table_copied}
use Rattle.backups.proofs.copy_table.Goals as goal

pub loop-slot-preserved : goal.loop-slot-preserved
loop-slot-preserved c =
    let a = c.args in
    let l = c.loop-slot in
    (simp length-set l.invariant.0, rw (l.invariant.1, c.number_at.ensures) (table_turn a.table.now a.part.now l.slot (omega arith)))

pub returns : goal.returns
returns c =
    let a = c.args in
    let l = c.loop-slot in
    l.invariant.1 ∙ table_copied a.table.now a.part.now l.slot (omega arith)
