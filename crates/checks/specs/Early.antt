-- The checks that read no word of the table.
use Rattle.std.specs.Prelude.{Bool, List, [], ◌∷◌, take}
use Rattle.rules.specs.Board.{Board}
use Rattle.rules.specs.declared.Geometry.{Geometry}
use Rattle.rules.specs.declared.Phase.{Phase}
use Rattle.rules.specs.declared.Number.TheVariants as No
use Rattle.rules.specs.Numbers.{Check, ◌⇒◌, over_count, is_off, common_checks}

-- the checks 1 to 4
unfoldable pub early_checks : Board → Bool → List Check
unfolding common_checks
early_checks board unfit = take 4 (common_checks board unfit)

-- the checks 3 and 4
unfoldable pub phase_checks : Geometry → Phase → List Check
unfolding over_count
phase_checks g phase = (over_count g phase ⇒ No.Record) ∷ (is_off phase ⇒ No.Off) ∷ []
