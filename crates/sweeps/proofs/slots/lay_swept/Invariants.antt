use Rattle.sweeps.proofs.Walks.{Walked}
use Rattle.sweeps.proofs.slots.lay_swept.Given as goal

abbrev pub invariant-loop-done : goal.invariant-loop-done
invariant-loop-done l = Walked l.g l.initial.memory l.table l.p l.entries l.memory l.slot l.done
