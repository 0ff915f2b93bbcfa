use mathlib.Core.Path.{◌≡◌}
use Prim.Native.Nat.{◌*◌}
use Rattle.rules.specs.Sweeps.{hidden}
use Rattle.sweeps.proofs.Entries.{met}
use Rattle.sweeps.proofs.Walks.{Walked}
use Rattle.sweeps.proofs.slots.sweep_slots.Given as goal

abbrev pub invariant-loop-swept : goal.invariant-loop-swept
invariant-loop-swept l = Walked l.g l.initial.memory l.initial.table (8 * l.entries) l.entries l.memory l.slot l._swept × (l.table ≡ hidden (met l.initial.table l.slot) l.initial.table)
