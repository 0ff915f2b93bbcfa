use mathlib.Core.Path.{◌≡◌}
use Prim.Native.Nat.{◌-◌, ◌≤◌}
use lib.ListN.{length}
use lib.Seq.{paste}
use Rattle.words.specs.Words.{numbers}
use Rattle.backups.proofs.copy_table.Given as goal

abbrev pub invariant-loop-slot : goal.invariant-loop-slot
invariant-loop-slot l = (length l.table ≡ length l.initial.table) × (l.table ≡ paste l.initial.table 0 (numbers l.part 8 (length l.initial.table)) l.slot)
