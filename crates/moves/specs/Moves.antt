-- The code's moves, as those of the rules.
use Rattle.std.specs.Prelude.{Bool, true, false}
use Rattle.rules.specs.Stores as S
use Rattle.moves.specs.declared.Move.{Move}
use Rattle.moves.specs.declared.Move.TheVariants.{To, InPlace, NotWellFormed}

abbrev pub move_of : Move → S.Move
move_of (To place state) = S.to place state
move_of (InPlace place state) = S.to place state
move_of NotWellFormed = S.not_well_formed

abbrev pub short_of : Move → Bool
short_of (To place state) = false
short_of (InPlace place state) = true
short_of NotWellFormed = false
