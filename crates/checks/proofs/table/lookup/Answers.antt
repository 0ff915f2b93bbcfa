use Rattle.checks.proofs.Walking.{named_here, found, none_found}
use Rattle.std.proofs.Common.{length, arith, ◌∙◌}
use Rattle.checks.proofs.table.lookup.Goals as goal

pub returns-in_err-slot : goal.returns-in_err-slot
returns-in_err-slot c =
    let a = c.args in
    let q = c.requires in
    c.from_residual.ensures ∙ none_found a.block (length a.table.now) a.table.now q.1 q.0 c.in_err-slot.ensures (omega arith)

pub state_of-state-requires : goal.state_of-state-requires
state_of-state-requires c =
    let a = c.args in
    let q = c.requires in
    let l = c.in_ok-slot.ensures in
    let n = named_here a.block c.in_ok-slot.slot a.table.now q.1 q.0 l.0 l.1 in
    (n.low, n.high)

pub returns : goal.returns
returns c =
    let a = c.args in
    let q = c.requires in
    let l = c.in_ok-slot.ensures in
    found a.block c.in_ok-slot.slot a.table.now q.1 q.0 l.0 c.state_of-state.result l.1 c.state_of-state.ensures
