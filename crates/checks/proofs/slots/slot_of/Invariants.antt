use Rattle.checks.specs.Tables.{Skipped, wanted}
use Rattle.std.proofs.Common.{◌-◌, ◌≤◌, length}
use Rattle.checks.proofs.slots.slot_of.Given as goal

abbrev pub invariant-loop-slot : goal.invariant-loop-slot
invariant-loop-slot l = (l.start ≤ length l.table) × Skipped (wanted l.block l.free) l.table 0 l.start

abbrev pub decreases-loop-slot : goal.decreases-loop-slot
decreases-loop-slot l = length l.table - l.start
