use mathlib.Core.Path.{refl}
use Rattle.codec.specs.Places.{is_backup}
use Rattle.codec.proofs.is_backup.Goals as goal

pub returns : goal.returns
unfolding is_backup
returns c = refl
