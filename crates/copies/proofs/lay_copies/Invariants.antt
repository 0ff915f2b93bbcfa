use Prim.Native.Nat.{◌*◌, ◌≤◌}
use lib.ListN.{take}
use Rattle.words.specs.Words.{Lays}
use Rattle.rules.specs.Checkpoints.{copies}
use Rattle.copies.proofs.lay_copies.Given as goal

abbrev pub invariant-loop-slot : goal.invariant-loop-slot
invariant-loop-slot l = (l.done ≤ 8 * l.slot) × Lays l.p (copies l.g l.cache 0 (take l.slot l.table)) l.initial.memory l.memory l.done
