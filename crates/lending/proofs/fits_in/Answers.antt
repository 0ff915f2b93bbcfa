use mathlib.Core.Path.{refl}
use Rattle.lending.specs.Lending.{fits}
use Rattle.lending.proofs.fits_in.Goals as goal

pub returns : goal.returns
unfolding fits
returns c = refl
