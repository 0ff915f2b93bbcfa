-- The header's 16 bytes: no two sizes share them. What the two words of a memory say.
use mathlib.Core.Path.{◌≡◌, refl, sym, ap, ◌∙◌, subst}
use mathlib.Core.Logic.{◌≢◌}
use mathlib.Core.Bool.{Bool, true, false}
use mathlib.Core.List.{List, [], ◌∷◌}
use Prim.Native.Nat.{ℕ, ◌*◌, ◌-◌, ◌/◌, ◌%◌}
use native.Mathlib.Omega.{arith}
use lib.Dec.{eqb}
use lib.ListN.{length, take, drop, get_or}
use lib.Seq.{take-take}
use borrow.Author.Tests.{eqb-true, eq-eqb}
use Rattle.words.specs.Words.{word, words}
use Rattle.words.proofs.Makers.{words_part}
use Rattle.words.proofs.Parts.{tail_part}
use Rattle.rules.specs.declared.Geometry.{Geometry}
use Rattle.rules.proofs.Clashes.{false_true, and_left, and_right}
use Rattle.fields.specs.Fields.{big_endian, field, fields_of}
use Rattle.forms.specs.declared.Header.{Header}
use Rattle.forms.specs.declared.Header.TheVariants.{Missing, Fits, Other}
use Rattle.forms.specs.Stored.{header_bytes, header_start, same, zero_word, header_of}
use Rattle.forms.specs.Promises.{TwoBytes, OneHeader}

-- ---- bytes compared

same_equal : (xs ys : List ℕ) → same xs ys ≡ true → xs ≡ ys
unfolding same
same_equal [] [] e = refl
same_equal [] (y ∷ ys) e = absurd (false_true e)
same_equal (x ∷ xs) [] e = absurd (false_true e)
same_equal (x ∷ xs) (y ∷ ys) e =
    let head : x ≡ y = eqb-true x y (and_left (eqb x y) (same xs ys) e) in
    let tail : xs ≡ ys = same_equal xs ys (and_right (eqb x y) (same xs ys) e) in
    rw (head, tail)

same_itself : (xs : List ℕ) → same xs xs ≡ true
unfolding same
same_itself [] = refl
same_itself (x ∷ xs) = rw (eq-eqb x x refl, same_itself xs)

equal_same : (xs ys : List ℕ) → xs ≡ ys → same xs ys ≡ true
equal_same xs ys e = ap (same xs) (sym e) ∙ same_itself xs

unequal_same : (xs ys : List ℕ) → xs ≢ ys → same xs ys ≡ false
unequal_same xs ys ne = go (same xs ys) refl
  where
    go : (b : Bool) → same xs ys ≡ b → same xs ys ≡ false
    go true e = absurd (ne (same_equal xs ys e))
    go false e = e

-- ---- the header's bytes

pub header_length : (g : Geometry) → length (header_bytes g) ≡ 16
unfolding header_bytes fields_of field big_endian
header_length g = refl

-- the 16 bytes, each by itself
pub header_laid : (g : Geometry)
    → 1 ∷ 0 ∷ 1 ∷ 2 ∷ 2 ∷ 0 ∷ 2 ∷ g.blocks / 256 % 256 ∷ g.blocks % 256 ∷ 3 ∷ 0 ∷ 2 ∷ g.slots / 256 % 256 ∷ g.slots % 256 ∷ 0 ∷ 0 ∷ [] ≡ header_bytes g
unfolding header_bytes fields_of field big_endian
header_laid g = refl

-- the same of sizes of two bytes each
pub header_sixteen : (g : Geometry) → TwoBytes g
    → 1 ∷ 0 ∷ 1 ∷ 2 ∷ 2 ∷ 0 ∷ 2 ∷ g.blocks / 256 ∷ g.blocks % 256 ∷ 3 ∷ 0 ∷ 2 ∷ g.slots / 256 ∷ g.slots % 256 ∷ 0 ∷ 0 ∷ [] ≡ header_bytes g
unfolding header_bytes fields_of field big_endian
header_sixteen g two =
    let blocks : g.blocks / 256 ≡ g.blocks / 256 % 256 = omega (arith, two.blocks) in
    let slots : g.slots / 256 ≡ g.slots / 256 % 256 = omega (arith, two.slots) in
    ap (λ (high : ℕ). 1 ∷ 0 ∷ 1 ∷ 2 ∷ 2 ∷ 0 ∷ 2 ∷ high ∷ g.blocks % 256 ∷ 3 ∷ 0 ∷ 2 ∷ g.slots / 256 ∷ g.slots % 256 ∷ 0 ∷ 0 ∷ []) blocks
    ∙ ap (λ (high : ℕ). 1 ∷ 0 ∷ 1 ∷ 2 ∷ 2 ∷ 0 ∷ 2 ∷ g.blocks / 256 % 256 ∷ g.blocks % 256 ∷ 3 ∷ 0 ∷ 2 ∷ high ∷ g.slots % 256 ∷ 0 ∷ 0 ∷ []) slots

-- the bytes from the ninth on are the second word's
pub second_part : (g : Geometry) (header : List ℕ) → header ≡ header_bytes g → take 8 (drop 8 header) ≡ drop 8 (header_bytes g)
unfolding header_bytes fields_of field big_endian
second_part g header e = ap (λ (bytes : List ℕ). take 8 (drop 8 bytes)) e

-- byte 0 is tag 1
pub first_not_zero : (g : Geometry) → take 8 (header_bytes g) ≢ zero_word
unfolding header_bytes fields_of field big_endian
first_not_zero g e = let z : ◌≡◌ {A = ℕ} 1 0 = ap (λ (bytes : List ℕ). get_or bytes 0 0) e in omega (arith, z)

pub one_header : OneHeader
unfolding OneHeader header_bytes fields_of field big_endian
one_header g h two two' e =
    let n1 : g.blocks / 256 % 256 ≡ h.blocks / 256 % 256 = ap (λ (bytes : List ℕ). get_or bytes 7 0) e in
    let n2 : g.blocks % 256 ≡ h.blocks % 256 = ap (λ (bytes : List ℕ). get_or bytes 8 0) e in
    let b1 : g.slots / 256 % 256 ≡ h.slots / 256 % 256 = ap (λ (bytes : List ℕ). get_or bytes 12 0) e in
    let b2 : g.slots % 256 ≡ h.slots % 256 = ap (λ (bytes : List ℕ). get_or bytes 13 0) e in
    let blocks : g.blocks ≡ h.blocks = omega (arith, n1, n2, two.blocks, two'.blocks) in
    let slots : g.slots ≡ h.slots = omega (arith, b1, b2, two.slots, two'.slots) in
    λ i. record { blocks = blocks i; slots = slots i }

-- ---- what two words say

-- the first of the two words is the first 8 of their bytes
pub word_of_two : (memory : List ℕ) (place : ℕ) → word memory place ≡ take 8 (words memory place 2)
unfolding word
word_of_two memory place = sym (ap (take 8) (words_part memory 2 place) ∙ take-take 8 16 (drop (8 * place) memory) (omega arith))

pub fits_not_zero : (g : Geometry) (memory : List ℕ) → words memory (header_start g) 2 ≡ header_bytes g → word memory (header_start g) ≢ zero_word
fits_not_zero g memory e z = first_not_zero g (sym (word_of_two memory (header_start g) ∙ ap (take 8) e) ∙ z)

pub says_missing : (g : Geometry) (memory : List ℕ) → word memory (header_start g) ≡ zero_word → header_of g memory ≡ Missing
unfolding header_of
says_missing g memory e = rw (equal_same (word memory (header_start g)) zero_word e)

pub says_fits : (g : Geometry) (memory : List ℕ) → words memory (header_start g) 2 ≡ header_bytes g → header_of g memory ≡ Fits
unfolding header_of
says_fits g memory e =
    rw (unequal_same (word memory (header_start g)) zero_word (fits_not_zero g memory e), equal_same (words memory (header_start g) 2) (header_bytes g) e)

pub says_other : (g : Geometry) (memory : List ℕ) → word memory (header_start g) ≢ zero_word → words memory (header_start g) 2 ≢ header_bytes g → header_of g memory ≡ Other
unfolding header_of
says_other g memory ne ne' =
    rw (unequal_same (word memory (header_start g)) zero_word ne, unequal_same (words memory (header_start g) 2) (header_bytes g) ne')

pub data Says (g : Geometry) (memory : List ℕ) : Header → Type 0 where
  missing : word memory (header_start g) ≡ zero_word → Says g memory Missing
  fits : words memory (header_start g) 2 ≡ header_bytes g → Says g memory Fits
  other : word memory (header_start g) ≢ zero_word → words memory (header_start g) 2 ≢ header_bytes g → Says g memory Other

pub says : (g : Geometry) (memory : List ℕ) → Says g memory (header_of g memory)
says g memory = go (same (word memory (header_start g)) zero_word) refl (same (words memory (header_start g) 2) (header_bytes g)) refl
  where
    differ : (xs ys : List ℕ) → same xs ys ≡ false → xs ≢ ys
    differ xs ys e q = false_true (sym e ∙ equal_same xs ys q)

    go : (a : Bool) → same (word memory (header_start g)) zero_word ≡ a → (b : Bool) → same (words memory (header_start g) 2) (header_bytes g) ≡ b
        → Says g memory (header_of g memory)
    go true e b q =
        let z = same_equal (word memory (header_start g)) zero_word e in
        subst (Says g memory) (sym (says_missing g memory z)) (missing z)
    go false e true q =
        let z = same_equal (words memory (header_start g) 2) (header_bytes g) q in
        subst (Says g memory) (sym (says_fits g memory z)) (fits z)
    go false e false q =
        let ne = differ (word memory (header_start g)) zero_word e in
        let ne' = differ (words memory (header_start g) 2) (header_bytes g) q in
        subst (Says g memory) (sym (says_other g memory ne ne')) (other ne ne')

-- ---- read from the part of the memory that starts after the mark

module _ (memory : List ℕ) (place start : ℕ) (e : start ≡ 8 * place) where
  abbrev part : List ℕ
  part = take (length memory - start) (drop start memory)

  at_part : part ≡ drop (8 * place) memory
  at_part = tail_part start memory ∙ ap (λ (n : ℕ). drop n memory) e

  pub word_in_part : take 8 part ≡ word memory place
  unfolding word
  word_in_part = ap (take 8) at_part

  pub two_in_part : take 16 part ≡ words memory place 2
  two_in_part = ap (take 16) at_part ∙ sym (words_part memory 2 place)
