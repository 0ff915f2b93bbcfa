use Rattle.words.specs.Words.{number_bytes}
use lib.ListN.{length, take, drop}
use Prim.Native.Nat.{◌*◌}
use mathlib.Core.List.{◌++◌}
use mathlib.Core.Path.{◌≡◌}
use Rattle.codec.proofs.tables.write_table.Given as goal

abbrev pub invariant-loop-slot : goal.invariant-loop-slot
invariant-loop-slot l = (length l.bytes ≡ length l.initial.bytes) × (l.bytes ≡ number_bytes (take l.slot l.table) ++ drop (8 * l.slot) l.initial.bytes)
