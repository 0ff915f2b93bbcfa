-- The lengths of values, and the numbers in them.
use mathlib.Core.Path.{◌≡◌}
use mathlib.Core.Bool.{◌&&◌, cond}
use mathlib.Core.List.{List, [], ◌∷◌}
use Prim.Native.Nat.{ℕ, ◌+◌, ◌≤◌, ◌<◌}
use native.Mathlib.Omega.{arith}
use lib.Dec.{leb}
use lib.ListN.{length, get_or}
use borrow.Author.Tests.{eq-eqb, ne_eqb, le-leb, lt-leb}
use Rattle.fields.specs.Fields.{big_number}
use Rattle.fields.proofs.Numbers.{two_at}
use Rattle.asking.specs.declared.Asked.{Asked}
use Rattle.asking.specs.declared.Asked.TheVariants.{Bad}
use Rattle.asking.specs.Asking.{number_at, sized}

pub too_few : (n : ℕ) (value : List ℕ) (asks : Asked) → length value < n → Bad ≡ sized n value asks
unfolding sized
too_few n value asks h = rw (ne_eqb (length value) n (omega arith))

pub too_many : (n : ℕ) (value : List ℕ) (asks : Asked) → n < length value → Bad ≡ sized n value asks
unfolding sized
too_many n value asks h = rw (ne_eqb (length value) n (omega arith))

pub right_size : (n : ℕ) (value : List ℕ) {r asks : Asked} → n ≤ length value → length value ≤ n → r ≡ asks → r ≡ sized n value asks
unfolding sized
right_size n value h k q = rw (eq-eqb (length value) n (omega arith)) q

pub too_short : (n : ℕ) (asks : Asked) → n < 4 → Bad ≡ cond (leb 4 n && leb n 67) asks Bad
too_short n asks h = rw (lt-leb 4 n h)

pub too_long : (n : ℕ) (asks : Asked) → 4 ≤ n → 67 < n → Bad ≡ cond (leb 4 n && leb n 67) asks Bad
too_long n asks h k = rw (le-leb 4 n h, lt-leb n 67 k)

pub within_sizes : (n : ℕ) {r asks : Asked} → 4 ≤ n → n ≤ 67 → r ≡ asks → r ≡ cond (leb 4 n && leb n 67) asks Bad
within_sizes n h k q = rw (le-leb 4 n h, le-leb n 67 k) q

-- a number of two bytes that a pattern names
pub named : (value : List ℕ) (start : ℕ) {n : ℕ} → start + 2 ≤ length value
    → n ≡ big_number (get_or value start 0 ∷ get_or value (start + 1) 0 ∷ []) → n ≡ number_at value start
unfolding number_at
named value start h e = rw (two_at value start h) e
