use Rattle.checks.proofs.Walking.{wanted_here, not_here, nowhere}
use Rattle.std.proofs.Common.{refl, sym, ◌∙◌, arith}
use Rattle.checks.proofs.slots.slot_of.Goals as goal

pub returns-then-vacancy : goal.returns-then-vacancy
returns-then-vacancy c =
    let a = c.args in
    let l = c.loop-slot in
    let n = c.in-Some.ensures in
    wanted_here a.block a.free a.table.now l.start c.in-Some.slot l.invariant.1 n.0 n.1 (sym c.vacancy.ensures ∙ c.if-vacancy.true)

pub loop-slot-preserved : goal.loop-slot-preserved
loop-slot-preserved c =
    let a = c.args in
    let l = c.loop-slot in
    let n = c.in-Some.ensures in
    let h = n.1 in
    (omega arith, not_here a.block a.free a.table.now l.start c.in-Some.slot l.invariant.1 n.0 h (sym c.vacancy.ensures ∙ c.if-vacancy.false))

pub returns : goal.returns
returns c =
    let a = c.args in
    let l = c.loop-slot in
    nowhere a.block a.free a.table.now l.start _ l.invariant.1 c.in_default.ensures refl
