use Rattle.checks.specs.Tables.{of_block, Skipped}
use Rattle.std.proofs.Common.{◌≡◌, ◌+◌, ◌-◌, ◌*◌, ◌/◌, ◌≤◌, length}
use Rattle.checks.proofs.slots.next_of.Given as goal

abbrev pub invariant-loop-done : goal.invariant-loop-done
invariant-loop-done l = (l.fours ≡ (length l.table - l.start) / 4) × Skipped (of_block l.block) l.table l.start (l.start + 4 * l.done)
