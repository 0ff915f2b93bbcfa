-- A line put piece by piece, and two lines of the bench trace worked out.
use mathlib.Core.Path.{◌≡◌, refl}
use mathlib.Core.List.{List, [], ◌∷◌}
use Prim.Native.Nat.{ℕ}
use Rattle.lines.specs.Puts.{Puts}
use Rattle.lines.specs.Lines.{decimal, digits, hex_bytes, hex_byte, hex_digit, line}
use Rattle.lines.proofs.Places.{puts_then}

pub line_ends : {piece slice slice' slice'' : List ℕ} {start place r : ℕ} → Puts piece start slice slice' place → Puts (10 ∷ []) place slice' slice'' r
    → Puts (line (piece ∷ [])) start slice slice'' r
unfolding line
line_ends p q = puts_then p q

pub line_goes_on : {piece slice slice' slice'' slice''' : List ℕ} {start place place' r : ℕ} (next : List ℕ) (pieces : List (List ℕ))
    → Puts piece start slice slice' place → Puts (32 ∷ []) place slice' slice'' place' → Puts (line (next ∷ pieces)) place' slice'' slice''' r
    → Puts (line (piece ∷ (next ∷ pieces))) start slice slice''' r
unfolding line
line_goes_on next pieces p q t = puts_then p (puts_then q t)

-- `10 0 0 00`
tenth : line (decimal 10 ∷ (decimal 0 ∷ (decimal 0 ∷ (hex_bytes (0 ∷ []) ∷ [])))) ≡ 49 ∷ (48 ∷ (32 ∷ (48 ∷ (32 ∷ (48 ∷ (32 ∷ (48 ∷ (48 ∷ (10 ∷ [])))))))))
unfolding line decimal digits hex_bytes hex_byte hex_digit
tenth = refl

-- `eeee`, the bytes of the eleventh line
eleventh : hex_bytes (238 ∷ (238 ∷ [])) ≡ 101 ∷ (101 ∷ (101 ∷ (101 ∷ [])))
unfolding hex_bytes hex_byte hex_digit
eleventh = refl
