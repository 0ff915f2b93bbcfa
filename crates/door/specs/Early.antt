-- What a door refuses before it reads the table, as its number (document 02, No. 4). For the code only.
use Rattle.std.specs.Prelude.{◌≡◌, ℕ, Result, MatchResult}
use Rattle.door.specs.declared.early.Early.{Early}
use Rattle.door.specs.declared.early.Early.TheVariants.{RecordBytes, Geometry, Buffer}

abbrev pub number_of_early : Early → ℕ
number_of_early RecordBytes = 12
number_of_early Geometry = 1
number_of_early Buffer = 2

-- the number is 0 and the value is found, or the number is the refusal's
abbrev pub Finds : {A : Type 0} → ℕ → A → Result A Early → Type 0
Finds number value r = MatchResult r (λ found. (number ≡ 0) × (found ≡ value)) (λ early. number ≡ number_of_early early)
