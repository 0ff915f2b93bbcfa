use mathlib.Core.Path.{◌≡◌}
use lib.ListN.{take}
use Rattle.words.specs.Words.{lay}
use Rattle.rules.specs.TableWords.{changed}
use Rattle.rules.specs.Checkpoints.{copies, begun}
use Rattle.copies.proofs.Slots.{changedTo}
use Rattle.copies.proofs.begin_slots.Given as goal

abbrev pub invariant-loop-slot : goal.invariant-loop-slot
invariant-loop-slot l = (l.memory ≡ lay (copies l.g l.cache 0 (take l.slot l.initial.table)) l.initial.memory) × (l.table ≡ changedTo (changed begun) l.slot l.initial.table)
