-- A number's bytes as the library's conversions give and take them: the same as little_endian and number say.
use mathlib.Core.Path.{◌≡◌, refl, ap, ◌∙◌, sym}
use mathlib.Core.List.{List, ◌∷◌}
use Prim.Native.Nat.{ℕ, zero, suc, ◌/◌, ◌%◌, ◌^◌}
use native.Mathlib.Omega.{arith}
use native.Mathlib.Nat.{pow-succ', div-div-eq-div-mul}
use lib.ListN.{length}
use lib.Seq.{take_all}
use Rattle.std.specs.Int.{w64, byte_at, bytes_low_first, to_le_bytes, from_le_bytes}
use Rattle.words.specs.Words.{number, little_endian}
use Rattle.words.proofs.Laying.{eight}

next_byte : (i x : ℕ) → byte_at (suc i) x ≡ byte_at i (x / 256)
next_byte zero x = refl
next_byte (suc i) x =
    ap (λ (z : ℕ). x / z % 256) (pow-succ' 256 (suc i))
    ∙ ap (λ (z : ℕ). z % 256) (sym (div-div-eq-div-mul x 256 (256 ^ suc i)))

next_bytes : (i n x : ℕ) → bytes_low_first (suc i) n x ≡ bytes_low_first i n (x / 256)
next_bytes i zero x = refl
next_bytes i (suc n) x = ap (λ (b : ℕ). b ∷ bytes_low_first (suc (suc i)) n x) (next_byte i x) ∙ ap (λ (bytes : List ℕ). byte_at i (x / 256) ∷ bytes) (next_bytes (suc i) n x)

low_first : (n x : ℕ) → bytes_low_first 0 n x ≡ little_endian n x
unfolding little_endian
low_first zero x = refl
low_first (suc n) x = ap (λ (bytes : List ℕ). x % 256 ∷ bytes) (next_bytes 0 n x ∙ low_first n (x / 256))

pub word_written : (x : ℕ) → to_le_bytes w64 x ≡ little_endian 8 x
word_written x = low_first 8 x

pub word_read : (bytes : List ℕ) → length bytes ≡ 8 → from_le_bytes w64 bytes ≡ number bytes
unfolding number
word_read bytes e = rw (← take_all 8 bytes (omega arith), eight bytes 0 (omega arith)) (omega arith)
