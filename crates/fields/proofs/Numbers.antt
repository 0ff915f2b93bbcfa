-- Big-endian numbers: how many bytes they take, and that they read back.
use mathlib.Core.Path.{◌≡◌, refl, ap, ◌∙◌}
use mathlib.Core.List.{List, [], ◌∷◌, ◌++◌}
use Prim.Native.Nat.{ℕ, zero, suc, ◌+◌, ◌*◌, ◌/◌, ◌%◌, ◌^◌, ◌≤◌, ◌<◌}
use native.Mathlib.Omega.{arith}
use native.Mathlib.Nat.{mul_left_comm, pow-succ'}
use native.Mathlib.Numerals.{add-one}
use lib.ListN.{length, take, drop, get_or, length-append}
use lib.Seq.{drop-cons}
use Rattle.fields.specs.Fields.{big_endian, big_number}

pub length-big_endian : (n x : ℕ) → length (big_endian n x) ≡ n
unfolding big_endian
length-big_endian zero x = refl
length-big_endian (suc n) x = length-append (big_endian n (x / 256)) ((x % 256) ∷ []) ∙ ap (λ (k : ℕ). k + 1) (length-big_endian n (x / 256)) ∙ add-one n

-- a byte more at the end
pub number_back : (bytes : List ℕ) (b : ℕ) → big_number (bytes ++ (b ∷ [])) ≡ 256 * big_number bytes + b
unfolding big_number
number_back [] b = omega arith
number_back (x ∷ bytes) b =
    let e : length (bytes ++ (b ∷ [])) ≡ suc (length bytes) = length-append bytes (b ∷ []) ∙ add-one (length bytes) in
    let m : x * (256 * 256 ^ length bytes) ≡ 256 * (x * 256 ^ length bytes) = mul_left_comm x 256 (256 ^ length bytes) in
    rw (e, pow-succ' 256 (length bytes), m, number_back bytes b) (omega arith)

pub number_of_bytes : (n x : ℕ) → x < 256 ^ n → big_number (big_endian n x) ≡ x
unfolding big_endian big_number
number_of_bytes zero x h = omega arith
number_of_bytes (suc n) x h =
    number_back (big_endian n (x / 256)) (x % 256)
    ∙ omega (arith, number_of_bytes n (x / 256) (omega (arith, pow-succ' 256 n)))

-- the two bytes at a place
pub two_at : (bytes : List ℕ) (start : ℕ) → start + 2 ≤ length bytes → take 2 (drop start bytes) ≡ get_or bytes start 0 ∷ (get_or bytes (start + 1) 0 ∷ [])
two_at bytes start h = rw (add-one, drop-cons bytes start 0 (omega arith), drop-cons bytes (suc start) 0 (omega arith))
