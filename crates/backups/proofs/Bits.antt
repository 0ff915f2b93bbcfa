-- The bits of a word: one bit of a word changed, and a set of blocks with one block more.
use mathlib.Core.Path.{◌≡◌, refl, sym, ap, ◌∙◌}
use mathlib.Core.Logic.{◌≢◌}
use mathlib.Core.Bool.{false, ◌||◌}
use mathlib.Core.List.{List}
use Prim.Native.Nat.{ℕ, zero, suc, ◌+◌, ◌*◌, ◌/◌, ◌%◌, ◌^◌, ◌<◌}
use native.Mathlib.Omega.{arith}
use native.Mathlib.Nat.{pow-succ', div-one, div-div-eq-div-mul, one-mul}
use native.Mathlib.Decide.{ℕ_discrete}
use lib.Dec.{eqb}
use lib.Pow.{shl_exact}
use lib.ListN.{length, get_or, set, replicate, get_or-replicate}
use lib.Seq.{get_or-set_same, get_or-set_other}
use borrow.Author.Tests.{eqb-false, eq-eqb, ne_eqb}
use Rattle.backups.specs.Sets.{has}

-- ---- one bit

-- bit j, by halving j times
unfoldable bit : ℕ → ℕ → ℕ
bit x zero = x % 2
bit x (suc j) = bit (x / 2) j

bit_is : (x j : ℕ) → x / 2 ^ j % 2 ≡ bit x j
unfolding bit
bit_is x zero = ap (λ (z : ℕ). z % 2) (div-one x)
bit_is x (suc j) = ap (λ (z : ℕ). z % 2) (ap (λ (z : ℕ). x / z) (pow-succ' 2 j) ∙ sym (div-div-eq-div-mul x 2 (2 ^ j))) ∙ bit_is (x / 2) j

bit_zero : (j : ℕ) → bit 0 j ≡ 0
unfolding bit
bit_zero zero = refl
bit_zero (suc j) = bit_zero j

-- a bit that is 0 can be added within the word
bit_room : (n j x : ℕ) → j < n → x < 2 ^ n → bit x j ≡ 0 → x + 2 ^ j < 2 ^ n
unfolding bit
bit_room zero j x h l e = absurd (omega arith)
bit_room (suc n) zero x h l e = let l' : x < 2 * 2 ^ n = rw (pow-succ' 2 n) at l in rw (pow-succ' 2 n) (omega arith)
bit_room (suc n) (suc j) x h l e =
    let l' : x < 2 * 2 ^ n = rw (pow-succ' 2 n) at l in
    let q : x / 2 + 2 ^ j < 2 ^ n = bit_room n j (x / 2) (omega arith) (omega arith) e in
    rw (pow-succ' 2 n, pow-succ' 2 j) (omega arith)

half : (x j : ℕ) → (x + 2 ^ suc j) / 2 ≡ x / 2 + 2 ^ j
half x j = rw (pow-succ' 2 j) (omega arith)

bit_same : (j x : ℕ) → bit x j ≡ 0 → bit (x + 2 ^ j) j ≡ 1
unfolding bit
bit_same zero x e = omega arith
bit_same (suc j) x e = rw (half x j) (bit_same j (x / 2) e)

bit_other : (j i x : ℕ) → bit x j ≡ 0 → j ≢ i → bit (x + 2 ^ j) i ≡ bit x i
unfolding bit
bit_other zero zero x e ne = absurd (ne refl)
bit_other zero (suc i) x e ne = let z : (x + 1) / 2 ≡ x / 2 = omega arith in ap (λ (y : ℕ). bit y i) z
bit_other (suc j) zero x e ne = rw (pow-succ' 2 j) (omega arith)
bit_other (suc j) (suc i) x e ne = rw (half x j) (bit_other j i (x / 2) e (λ z. ne (ap suc z)))

low_bit : (x j : ℕ) → eqb (x / 2 ^ j % 2) 1 ≡ false → bit x j ≡ 0
low_bit x j e = let q : x / 2 ^ j % 2 ≢ 1 = eqb-false (x / 2 ^ j % 2) 1 e in sym (bit_is x j) ∙ (omega arith)

-- a shift of 1 within 64 bits
pub power_is : (j : ℕ) → j < 64 → (1 * 2 ^ j) % 18446744073709551616 ≡ 2 ^ j
power_is j h = shl_exact {a = 1} 1 j 64 (omega arith) (omega arith) ∙ one-mul (2 ^ j)

-- ---- the set

pub set_none : (k : ℕ) → k < 4096 → has (replicate 64 0) k ≡ false
unfolding has
set_none k h = rw (get_or-replicate {A = ℕ} 64 (k / 64) 0 0 (omega arith), bit_is 0 (k % 64), bit_zero (k % 64))

module _ (s : List ℕ) (k : ℕ) (e : has s k ≡ false) where
  pub set_room : get_or s (k / 64) 0 < 2 ^ 64 → get_or s (k / 64) 0 + 2 ^ (k % 64) < 2 ^ 64
  unfolding has
  set_room h = bit_room 64 (k % 64) (get_or s (k / 64) 0) (omega arith) h (low_bit (get_or s (k / 64) 0) (k % 64) e)

  pub set-put : k / 64 < length s → (i : ℕ) → has (set s (k / 64) (get_or s (k / 64) 0 + 2 ^ (k % 64))) i ≡ eqb k i || has s i
  unfolding has
  set-put h i = go (ℕ_discrete (i / 64) (k / 64)) (ℕ_discrete (k % 64) (i % 64))
    where
      go : Dec (i / 64 ≡ k / 64) → Dec (k % 64 ≡ i % 64) → has (set s (k / 64) (get_or s (k / 64) 0 + 2 ^ (k % 64))) i ≡ eqb k i || has s i
      go (no ne) d =
          rw (
            get_or-set_other s (k / 64) (i / 64) (get_or s (k / 64) 0 + 2 ^ (k % 64)) 0 ne,
            ne_eqb k i (λ (z : k ≡ i). ne (ap (λ (y : ℕ). y / 64) (sym z))),
          )
      go (yes q) (yes r) =
          let z : k ≡ i = omega arith in
          rw (
            ← z,
            get_or-set_same s (k / 64) (get_or s (k / 64) 0 + 2 ^ (k % 64)) 0 h,
            eq-eqb k k refl,
            bit_is (get_or s (k / 64) 0 + 2 ^ (k % 64)) (k % 64),
            bit_same (k % 64) (get_or s (k / 64) 0) (low_bit (get_or s (k / 64) 0) (k % 64) e),
          )
      go (yes q) (no ne) =
          rw (
            q,
            get_or-set_same s (k / 64) (get_or s (k / 64) 0 + 2 ^ (k % 64)) 0 h,
            ne_eqb k i (λ (z : k ≡ i). ne (ap (λ (y : ℕ). y % 64) z)),
            bit_is (get_or s (k / 64) 0 + 2 ^ (k % 64)) (i % 64),
            bit_other (k % 64) (i % 64) (get_or s (k / 64) 0) (low_bit (get_or s (k / 64) 0) (k % 64) e) ne,
            ← bit_is (get_or s (k / 64) 0) (i % 64),
          )
