use mathlib.Core.Path.{refl}
use Rattle.sweeps.specs.Entries.{is_clean}
use Rattle.sweeps.proofs.slots.is_clean.Goals as goal

pub returns : goal.returns
unfolding is_clean
returns c = refl
