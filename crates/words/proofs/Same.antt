-- False is not true.
use mathlib.Core.Path.{◌≡◌}
use mathlib.Core.Bool.{true, false}
use Rattle.std.proofs.lemmas.Bool.{false≢true}

pub false_is_true : false ≡ true → ⊥
false_is_true = false≢true
