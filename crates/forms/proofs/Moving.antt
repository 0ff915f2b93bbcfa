-- What a move leaves of the memory, stopped after any of its words: the old part, and two words that are no other board's header.
use mathlib.Core.Path.{◌≡◌, refl, sym, ap, ◌∙◌, subst}
use mathlib.Core.Logic.{inl, inr}
use mathlib.Core.List.{List, [], ◌∷◌, ◌++◌}
use Prim.Native.Nat.{ℕ, zero, suc, ◌+◌, ◌*◌}
use lib.ListN.{length, take, drop, take-append-drop}
use lib.Seq.{take-nil}
use Rattle.words.specs.Words.{word, words, put, Store, lay, bytes_to, fill_to}
use Rattle.rules.specs.declared.Geometry.{Geometry}
use Rattle.forms.specs.Stored.{header_bytes, header_start, long_words, zero_word, without, first_zeroed, header_to, zeros_to}
use Rattle.forms.specs.Runs.{Clear}
use Rattle.forms.proofs.Long.{Parts, joined, with_first, with_second, parts_of, parts_are, joined_length, old_is, first_is, both_is, put_first, put_second}

-- ---- the two words of a header

abbrev pub first_word : Geometry → List ℕ
first_word g = take 8 (header_bytes g)

abbrev pub second_word : Geometry → List ℕ
second_word g = drop 8 (header_bytes g)

pub first_eight : (g : Geometry) → length (first_word g) ≡ 8
unfolding header_bytes
first_eight g = refl

pub second_eight : (g : Geometry) → length (second_word g) ≡ 8
unfolding header_bytes
second_eight g = refl

pub both_words : (g : Geometry) → first_word g ++ second_word g ≡ header_bytes g
both_words g = take-append-drop 8 (header_bytes g)

-- ---- the lists, on a memory in its three parts

pair : (a b : Store) (p : ℕ) (memory : List ℕ) → lay (take (suc (suc p)) (a ∷ b ∷ [])) memory ≡ put (put memory a.place a.bytes) b.place b.bytes
unfolding lay
pair a b p memory = ap (λ (stores : List Store). lay stores (put (put memory a.place a.bytes) b.place b.bytes)) (take-nil p)

module _ {g : Geometry} (parts : Parts g) where
  -- the two words as a header, and as zeros
  abbrev pub with-header : Parts g
  with-header = with_first (with_second parts (second_word g) (second_eight g)) (first_word g) (first_eight g)

  abbrev pub with-zeros : Parts g
  with-zeros = with_second (with_first parts zero_word refl) zero_word refl

  pub lay_zeroed : lay (first_zeroed g) (joined parts) ≡ joined (with_first parts zero_word refl)
  unfolding first_zeroed fill_to bytes_to lay
  lay_zeroed = put_first parts zero_word refl

  pub up_one : lay (take 1 (header_to g)) (joined parts) ≡ joined (with_second parts (second_word g) (second_eight g))
  unfolding header_to bytes_to lay
  up_one = put_second parts (second_word g) (second_eight g)

  pub up_two : (p : ℕ) → lay (take (suc (suc p)) (header_to g)) (joined parts) ≡ joined with-header
  unfolding header_to bytes_to
  up_two p =
      pair (record { place = header_start g + 1; bytes = second_word g }) (record { place = header_start g; bytes = first_word g }) p (joined parts)
      ∙ ap (λ (memory : List ℕ). put memory (header_start g) (first_word g)) (put_second parts (second_word g) (second_eight g))
      ∙ put_first (with_second parts (second_word g) (second_eight g)) (first_word g) (first_eight g)

  back_one : lay (take 1 (zeros_to g)) (joined parts) ≡ joined (with_first parts zero_word refl)
  unfolding zeros_to first_zeroed fill_to bytes_to lay
  back_one = put_first parts zero_word refl

  back_two : (p : ℕ) → lay (take (suc (suc p)) (zeros_to g)) (joined parts) ≡ joined with-zeros
  unfolding zeros_to first_zeroed fill_to bytes_to
  back_two p =
      pair (record { place = header_start g; bytes = zero_word }) (record { place = header_start g + 1; bytes = zero_word }) p (joined parts)
      ∙ ap (λ (memory : List ℕ). put memory (header_start g + 1) zero_word) (put_first parts zero_word refl)
      ∙ put_second (with_first parts zero_word refl) zero_word refl

  -- whole
  pub up_whole : lay (header_to g) (joined parts) ≡ joined with-header
  unfolding header_to
  up_whole = up_two 0

  pub back_whole : lay (zeros_to g) (joined parts) ≡ joined with-zeros
  unfolding zeros_to first_zeroed fill_to bytes_to
  back_whole = back_two 0

-- ---- what such a list leaves

-- the old part stands, and the two words are no other board's header
pub record Left (g : Geometry) (old memory : List ℕ) : Type 0 where
  pub same : without memory ≡ old
  pub size : length memory ≡ 8 * long_words g
  pub clear : Clear g memory

module _ {g : Geometry} {memory : List ℕ} (parts : Parts g) (e : memory ≡ joined parts) where
  left : Clear g (joined parts) → Left g parts.old memory
  left clear = subst (Left g parts.old) (sym e) (record { same = old_is parts; size = joined_length parts; clear = clear })

  pub left_missing : parts.first ≡ zero_word → Left g parts.old memory
  unfolding Clear
  left_missing z = left (inl (first_is parts ∙ z))

  pub left_header : parts.first ++ parts.second ≡ header_bytes g → Left g parts.old memory
  unfolding Clear
  left_header h = left (inr (both_is parts ∙ h))

-- ---- both moves, stopped after any of their words

module _ (g : Geometry) (memory : List ℕ) (size : length memory ≡ 8 * long_words g) where
  abbrev parts : Parts g
  parts = parts_of g memory size

  are : memory ≡ joined parts
  are = parts_are g memory size

  pub old_part : without memory ≡ parts.old
  old_part = ap without are ∙ old_is parts

  pub both_parts : words memory (header_start g) 2 ≡ parts.first ++ parts.second
  both_parts = ap (λ (z : List ℕ). words z (header_start g) 2) are ∙ both_is parts

  first_zero : word memory (header_start g) ≡ zero_word → parts.first ≡ zero_word
  first_zero z = sym (ap (λ (m : List ℕ). word m (header_start g)) are ∙ first_is parts) ∙ z

  -- a list laid in the memory is laid in its parts
  laid : (stores : List Store) {memory' : List ℕ} → lay stores (joined parts) ≡ memory' → lay stores memory ≡ memory'
  laid stores e = ap (lay stores) are ∙ e

  at_old : {memory' : List ℕ} → Left g parts.old memory' → Left g (without memory) memory'
  at_old {memory'} l = subst (λ (old : List ℕ). Left g old memory') (sym old_part) l

  pub up_left : word memory (header_start g) ≡ zero_word → (p : ℕ) → Left g (without memory) (lay (take p (header_to g)) memory)
  unfolding lay
  up_left z zero = at_old (left_missing parts are (first_zero z))
  up_left z (suc zero) = at_old (left_missing (with_second parts (second_word g) (second_eight g)) (laid (take 1 (header_to g)) (up_one parts)) (first_zero z))
  up_left z (suc (suc p)) = at_old (left_header (with-header parts) (laid (take (suc (suc p)) (header_to g)) (up_two parts p)) (both_words g))

  pub back_left : Clear g memory → (p : ℕ) → Left g (without memory) (lay (take p (zeros_to g)) memory)
  unfolding lay
  back_left c zero = record { same = refl; size = size; clear = c }
  back_left c (suc zero) = at_old (left_missing (with_first parts zero_word refl) (laid (take 1 (zeros_to g)) (back_one parts)) refl)
  back_left c (suc (suc p)) = at_old (left_missing (with-zeros parts) (laid (take (suc (suc p)) (zeros_to g)) (back_two parts p)) refl)
