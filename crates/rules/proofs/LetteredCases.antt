-- The ten lettered cases hold: one test, computed over the whole table.
use lib.Dec.{T}
use Rattle.rules.specs.Lettered.{lettered, all_hold}

pub lettered_cases : T (all_hold lettered)
unfolding all_hold lettered
lettered_cases = tt
