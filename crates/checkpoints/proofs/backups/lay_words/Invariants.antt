use mathlib.Core.Path.{◌≡◌}
use mathlib.Core.List.{map}
use Prim.Native.Nat.{◌-◌}
use lib.ListN.{take, drop}
use Rattle.words.specs.Words.{lay}
use Rattle.rules.specs.TableWords.{changed}
use Rattle.rules.specs.Checkpoints.{saved}
use Rattle.checkpoints.specs.Backups.{backup_list}
use Rattle.checkpoints.proofs.backups.lay_words.Given as goal

abbrev pub invariant-loop-index : goal.invariant-loop-index
invariant-loop-index l = (l.part ≡ lay (take (l.index - l.count) (drop l.count (backup_list l.place l.mark l.registers (map (changed saved) l.table)))) l.initial.part)
