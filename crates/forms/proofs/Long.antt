-- The longer memory as its three parts: the old one and two words. What is read of it, and what stores leave of it.
use mathlib.Core.Path.{◌≡◌, refl, sym, ap, ◌∙◌, subst}
use mathlib.Core.List.{List, [], ◌∷◌, ◌++◌, append_assoc, append-nil}
use Prim.Native.Nat.{ℕ, ◌+◌, ◌*◌, ◌-◌, ◌≤◌}
use native.Mathlib.Omega.{arith}
use lib.ListN.{length, take, drop, length-append, length-drop, take-append-drop}
use lib.Seq.{length-take-le, take_at, drop_at, take-append-le, drop-append-le}
use Rattle.words.specs.Words.{word, words, put, Store, lay}
use Rattle.words.proofs.All.{All, also}
use Rattle.words.proofs.Lists.{Fit}
use Rattle.words.proofs.Puts.{length-put}
use Rattle.words.proofs.Makers.{words_part}
use Rattle.rules.specs.declared.Geometry.{Geometry}
use Rattle.rules.specs.Geometry.{memory_words}
use Rattle.forms.specs.Stored.{header_start, long_words, without}

-- ---- the three parts

pub record Parts (g : Geometry) : Type 0 where
  pub old : List ℕ
  pub first : List ℕ
  pub second : List ℕ
  pub old_length : length old ≡ 8 * memory_words g
  pub first_length : length first ≡ 8
  pub second_length : length second ≡ 8

abbrev pub joined : {g : Geometry} → Parts g → List ℕ
joined parts = parts.old ++ (parts.first ++ parts.second)

-- another old memory, first word or second word
abbrev pub with_old : {g : Geometry} → Parts g → (old : List ℕ) → length old ≡ 8 * memory_words g → Parts g
with_old parts old e = record {
  old = old;
  first = parts.first;
  second = parts.second;
  old_length = e;
  first_length = parts.first_length;
  second_length = parts.second_length;
}

abbrev pub with_first : {g : Geometry} → Parts g → (first : List ℕ) → length first ≡ 8 → Parts g
with_first parts first e = record {
  old = parts.old;
  first = first;
  second = parts.second;
  old_length = parts.old_length;
  first_length = e;
  second_length = parts.second_length;
}

abbrev pub with_second : {g : Geometry} → Parts g → (second : List ℕ) → length second ≡ 8 → Parts g
with_second parts second e = record {
  old = parts.old;
  first = parts.first;
  second = second;
  old_length = parts.old_length;
  first_length = parts.first_length;
  second_length = e;
}

-- ---- a memory of the longer form has them

module _ (g : Geometry) (memory : List ℕ) (size : length memory ≡ 8 * long_words g) where
  rest : List ℕ
  rest = drop (8 * memory_words g) memory

  rest_length : length rest ≡ 16
  unfolding rest
  rest_length = simp length-drop (omega (arith, size))

  pub parts_of : Parts g
  parts_of = record {
    old = take (8 * memory_words g) memory;
    first = take 8 rest;
    second = drop 8 rest;
    old_length = length-take-le (8 * memory_words g) memory (omega (arith, size));
    first_length = length-take-le 8 rest (omega (arith, rest_length));
    second_length = simp length-drop (omega (arith, rest_length));
  }

  pub parts_are : memory ≡ joined parts_of
  unfolding parts_of rest
  parts_are =
      sym
      (ap (λ (z : List ℕ). take (8 * memory_words g) memory ++ z) (take-append-drop 8 (drop (8 * memory_words g) memory))
      ∙ take-append-drop (8 * memory_words g) memory)

-- ---- reading

module _ {g : Geometry} (parts : Parts g) where
  abbrev two : List ℕ
  two = parts.first ++ parts.second

  pub joined_length : length (joined parts) ≡ 8 * long_words g
  joined_length = simp length-append (omega (arith, parts.old_length, parts.first_length, parts.second_length))

  pub old_is : without (joined parts) ≡ parts.old
  unfolding without
  old_is = take_at parts.old two (length (joined parts) - 16) (omega (arith, parts.old_length, joined_length))

  pub first_is : word (joined parts) (header_start g) ≡ parts.first
  unfolding word
  first_is = ap (take 8) (drop_at parts.old two (8 * memory_words g) parts.old_length) ∙ take_at parts.first parts.second 8 parts.first_length

  pub both_is : words (joined parts) (header_start g) 2 ≡ parts.first ++ parts.second
  both_is =
      words_part (joined parts) 2 (header_start g)
      ∙ ap (take 16) (drop_at parts.old two (8 * memory_words g) parts.old_length)
      ∙ ap (take 16) (sym (append-nil two))
      ∙ take_at two [] 16 (simp length-append (omega (arith, parts.first_length, parts.second_length)))

  -- ---- one store

  pub put_first : (bytes : List ℕ) (e : length bytes ≡ 8) → put (joined parts) (header_start g) bytes ≡ joined (with_first parts bytes e)
  unfolding put
  put_first bytes e =
      let place = 8 * memory_words g in
      let front : take place (joined parts) ≡ parts.old = take_at parts.old two place parts.old_length in
      let back : drop (place + 8) (joined parts) ≡ parts.second =
      ap (drop (place + 8)) (sym (append_assoc parts.old parts.first parts.second))
      ∙ drop_at (parts.old ++ parts.first) parts.second (place + 8) (simp length-append (omega (arith, parts.old_length, parts.first_length)))
      in
      rw (front, back) (append_assoc parts.old bytes parts.second)

  pub put_second : (bytes : List ℕ) (e : length bytes ≡ 8) → put (joined parts) (header_start g + 1) bytes ≡ joined (with_second parts bytes e)
  unfolding put
  put_second bytes e =
      let place = 8 * (memory_words g + 1) in
      let fore = parts.old ++ parts.first in
      let front : take place (joined parts) ≡ fore =
      ap (take place) (sym (append_assoc parts.old parts.first parts.second))
      ∙ take_at fore parts.second place (simp length-append (omega (arith, parts.old_length, parts.first_length)))
      in
      let back : drop (place + 8) (joined parts) ≡ [] =
      ap (drop (place + 8)) (sym (append-nil (joined parts))) ∙ drop_at (joined parts) [] (place + 8) (omega (arith, joined_length))
      in
      rw (front, back) (append-nil (fore ++ bytes) ∙ append_assoc parts.old parts.first bytes)

-- ---- stores that fit in the old memory

put_front : (old after : List ℕ) (place : ℕ) (bytes : List ℕ) → 8 * place + 8 ≤ length old → put (old ++ after) place bytes ≡ put old place bytes ++ after
unfolding put
put_front old after place bytes h =
    rw (take-append-le (8 * place) old after (omega arith), drop-append-le (8 * place + 8) old after h) (simp append_assoc)

pub lay_front : (stores : List Store) (old after : List ℕ) → All (Fit (length old)) stores → lay stores (old ++ after) ≡ lay stores old ++ after
unfolding lay
lay_front [] old after fits = refl
lay_front (s ∷ stores) old after (also fit fits) =
    ap (lay stores) (put_front old after s.place s.bytes fit.room)
    ∙ lay_front stores (put old s.place s.bytes) after
    (subst (λ (n : ℕ). All (Fit n) stores) (sym (length-put old s.place s.bytes fit.room fit.eight)) fits)
