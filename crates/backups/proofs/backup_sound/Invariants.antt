use mathlib.Core.Path.{◌≡◌}
use mathlib.Core.Bool.{true}
use lib.ListN.{drop}
use Rattle.words.specs.Words.{numbers}
use Rattle.rules.specs.Starts.{sound}
use Rattle.backups.specs.Sets.{Marks}
use Rattle.backups.proofs.backup_sound.Given as goal

abbrev pub invariant-loop-slot : goal.invariant-loop-slot
invariant-loop-slot l = (sound l.g (drop l.slot (numbers l.part 8 l.g.slots)) ≡ true) × Marks l.set.words (drop l.slot (numbers l.part 8 l.g.slots))
