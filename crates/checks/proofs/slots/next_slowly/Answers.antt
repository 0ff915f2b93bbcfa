use Rattle.checks.specs.Tables.{NextOf, of_block}
use Rattle.checks.proofs.Walking.{among, next_none, next_some}
use Rattle.std.proofs.Common.{refl, length, ◌-◌, arith, sym, subst}
use Rattle.checks.proofs.slots.next_slowly.Goals as goal

pub returns-in_err-offset : goal.returns-in_err-offset
returns-in_err-offset c =
    let a = c.args in
    let rest = length a.table.now - a.start in
    let q = c.requires in
    subst (NextOf (of_block a.block) a.table.now a.start) (sym c.from_residual.ensures)
    (next_none (of_block a.block) a.table.now a.start rest (omega arith)
    (among (of_block a.block) a.table.now a.start rest refl (omega arith) c.in_err-offset.ensures))

pub returns : goal.returns
returns c =
    let a = c.args in
    let rest = length a.table.now - a.start in
    let q = c.requires in
    next_some (of_block a.block) a.table.now a.start rest c.in_ok-offset.offset (omega arith)
    (among (of_block a.block) a.table.now a.start rest refl (omega arith) c.in_ok-offset.ensures)
