-- Lines of text as bytes: numbers in decimal, bytes in hex with small letters, single spaces between (document 01: The bench trace).
use Rattle.std.specs.Prelude.{cond, List, [], ◌∷◌, ◌++◌, ℕ, zero, suc, ◌+◌, ◌/◌, ◌%◌, ltb}

-- ---- decimal

-- the last n decimal digits of x, the highest first, or all of them where there are fewer
unfoldable pub digits : ℕ → ℕ → List ℕ
digits zero x = []
digits (suc n) x = cond (ltb x 10) ((48 + x) ∷ []) (digits n (x / 10) ++ ((48 + x % 10) ∷ []))

-- the decimal digits of x: it has at most x + 1, so none is left out
unfoldable pub decimal : ℕ → List ℕ
unfolding digits
decimal x = digits (suc x) x

-- ---- hex

-- a digit below 16: 0 to 9, then a to f
unfoldable pub hex_digit : ℕ → ℕ
hex_digit d = cond (ltb d 10) (48 + d) (87 + d)

unfoldable pub hex_byte : ℕ → List ℕ
unfolding hex_digit
hex_byte b = hex_digit (b / 16) ∷ (hex_digit (b % 16) ∷ [])

unfoldable pub hex_bytes : List ℕ → List ℕ
unfolding hex_byte
hex_bytes [] = []
hex_bytes (b ∷ bytes) = hex_byte b ++ hex_bytes bytes

-- ---- a line

-- pieces with one space between, and a newline at the end
unfoldable pub line : List (List ℕ) → List ℕ
line [] = 10 ∷ []
line (piece ∷ []) = piece ++ (10 ∷ [])
line (piece ∷ next ∷ pieces) = piece ++ (32 ∷ line (next ∷ pieces))
