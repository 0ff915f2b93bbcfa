-- What a chain of checks answers as a Result: Ok where none applies, else the number of the first that does.
use Rattle.std.specs.Prelude.{◌≡◌, ◌≢◌, Result, MatchResult}
use Rattle.rules.specs.declared.Number.{Number}
use Rattle.rules.specs.Numbers.{number_of}

abbrev pub Judged : {A : Type 0} → Number → Result A Number → Type 0
Judged first r = MatchResult r (λ passed. number_of first ≡ 0) (λ number. (number ≡ first) × (number_of number ≢ 0))
