use Rattle.rules.specs.Loads.{spot_of}
use Rattle.placing.proofs.spot_of.Goals as goal

pub returns-in-Some : goal.returns-in-Some
unfolding spot_of
returns-in-Some c = rw (c.in-Some.is, ← c.place_of-place.ensures) c.spot_in.ensures

pub returns-in-None : goal.returns-in-None
unfolding spot_of
returns-in-None c = rw c.in-None.is

pub spot_in-requires : goal.spot_in-requires
spot_in-requires c = c.requires _ _ c.in-Some.is
