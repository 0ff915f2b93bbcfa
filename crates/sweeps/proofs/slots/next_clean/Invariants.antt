use Rattle.checks.specs.Tables.{Skipped}
use Rattle.sweeps.specs.Entries.{is_clean}
use Rattle.sweeps.proofs.slots.next_clean.Given as goal

abbrev pub invariant-loop-slot : goal.invariant-loop-slot
invariant-loop-slot l = Skipped is_clean l.table l.start l.slot
