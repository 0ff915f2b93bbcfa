use mathlib.Core.Path.{◌≡◌}
use Prim.Native.Nat.{◌*◌, ◌-◌, ◌≤◌}
use lib.ListN.{length, take}
use Rattle.words.specs.Words.{lay, block_at, bytes_to}
use Rattle.merges.proofs.copy_within.Given as goal

abbrev pub invariant-loop-k : goal.invariant-loop-k
invariant-loop-k l = (length l.part ≡ length l.initial.part) × (l.part ≡ lay (take l.k (bytes_to (8 * l.to) 8 (block_at l.initial.part l.from))) l.initial.part)
