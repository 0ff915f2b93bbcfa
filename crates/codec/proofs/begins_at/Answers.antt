use mathlib.Core.Path.{refl}
use Rattle.codec.specs.Places.{begins_at}
use Rattle.codec.proofs.begins_at.Goals as goal

pub returns : goal.returns
unfolding begins_at
returns c = refl
