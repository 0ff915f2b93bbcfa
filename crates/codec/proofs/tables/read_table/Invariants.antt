use Rattle.words.specs.Words.{numbers}
use lib.Seq.{paste}
use lib.ListN.{length}
use mathlib.Core.Path.{◌≡◌}
use Rattle.codec.proofs.tables.read_table.Given as goal

abbrev pub invariant-loop-slot : goal.invariant-loop-slot
invariant-loop-slot l = (length l.table ≡ length l.initial.table) × (l.table ≡ paste l.initial.table 0 (numbers l.bytes 0 (length l.initial.table)) l.slot)
