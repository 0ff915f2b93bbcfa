-- The table's words and its bytes: each read from the other, one by one, and back.
use mathlib.Core.Path.{◌≡◌, refl, sym, ap, ◌∙◌}
use mathlib.Core.List.{List, [], ◌∷◌, ◌++◌, append-nil}
use Prim.Native.Nat.{ℕ, zero, suc, ◌+◌, ◌*◌, ◌/◌, ◌%◌, ◌^◌, ◌≤◌, ◌<◌}
use native.Mathlib.Omega.{arith}
use native.Mathlib.Nat.{add-zero, zero-add}
use native.Mathlib.Numerals.{add-one}
use lib.ListN.{length, take, drop, set, get_or, length-drop, drop_of_length-le}
use lib.Seq.{take-suc, take_all, take_at, drop-drop, drop-append-add, get_or-drop, paste, length-take-le}
use Rattle.words.specs.Words.{Lays, lay, put, number, word, words, little_endian, number_bytes, numbers, numbers_to, bytes_to}
use Rattle.words.proofs.Makers.{length-numbers, length-number_bytes, words_part, number_little_endian}
use Rattle.words.proofs.Parts.{numbers_of_part}
use Rattle.words.proofs.Laying.{paste_turn, copy_whole}
use Rattle.codec.specs.Promises.{Bytes, TableBack, TableBytesBack}

-- ---- read

numbers_get : (bytes : List ℕ) (n place i : ℕ) → i < n → get_or (numbers bytes place n) i 0 ≡ number (word bytes (place + i))
unfolding numbers
numbers_get bytes zero place i h = absurd (omega arith)
numbers_get bytes (suc n) place zero h = rw add-zero
numbers_get bytes (suc n) place (suc i) h = let e : suc place + i ≡ place + suc i = omega arith in numbers_get bytes n (suc place) i (omega arith) ∙ (rw e)

module _ (table bytes : List ℕ) (slot : ℕ) where
  pub read_turn : slot < length table → set (paste table 0 (numbers bytes 0 (length table)) slot) slot (number (word bytes slot)) ≡ paste table 0 (numbers bytes 0 (length table)) (slot + 1)
  read_turn h =
      let e : 0 + slot ≡ slot = zero-add slot in
      let w : get_or (numbers bytes 0 (length table)) slot 0 ≡ number (word bytes slot) = numbers_get bytes (length table) 0 slot h ∙ ap (λ (k : ℕ). number (word bytes k)) e in
      rw (← w) (simp zero-add (simp zero-add at (paste_turn table 0 (numbers bytes 0 (length table)) slot (omega arith) (omega (arith, length-numbers bytes (length table) 0)))))

  pub all_read : slot ≡ length table → paste table 0 (numbers bytes 0 (length table)) slot ≡ numbers bytes 0 (length table)
  all_read e =
      rw e (copy_whole table (numbers bytes 0 (length table)) ∙ take_all (length table) (numbers bytes 0 (length table)) (omega (arith, length-numbers bytes (length table) 0)))

-- ---- written

bytes_append : (xs ys : List ℕ) → number_bytes (xs ++ ys) ≡ number_bytes xs ++ number_bytes ys
unfolding number_bytes
bytes_append [] ys = refl
bytes_append (x ∷ xs) ys = ap (λ (rest : List ℕ). little_endian 8 x ++ rest) (bytes_append xs ys)

module _ (table bytes bytes' : List ℕ) (slot : ℕ) (whole : length bytes ≡ 8 * length table) where
  pub write_turn : {bytes'' : List ℕ} {r : ℕ} → slot < length table → bytes' ≡ number_bytes (take slot table) ++ drop (8 * slot) bytes
      → Lays 1 (numbers_to slot (get_or table slot 0 ∷ [])) bytes' bytes'' r → bytes'' ≡ number_bytes (take (slot + 1) table) ++ drop (8 * (slot + 1)) bytes
  unfolding lay put numbers_to bytes_to number_bytes
  write_turn {bytes''} {r} h e l =
      let x = get_or table slot 0 in
      let front = number_bytes (take slot table) in
      let size : length front ≡ 8 * slot = length-number_bytes (take slot table) ∙ ap (λ (k : ℕ). 8 * k) (length-take-le slot table (omega arith)) in
      let on : 8 * slot + 8 ≡ 8 * (slot + 1) = omega arith in
      let before : take (8 * slot) bytes' ≡ front = ap (take (8 * slot)) e ∙ take_at front (drop (8 * slot) bytes) (8 * slot) size in
      let after : drop (8 * slot + 8) bytes' ≡ drop (8 * (slot + 1)) bytes =
      ap (drop (8 * slot + 8)) e
      ∙ ap (λ (k : ℕ). drop (k + 8) (front ++ drop (8 * slot) bytes)) (sym size)
      ∙ drop-append-add front (drop (8 * slot) bytes) 8
      ∙ drop-drop 8 (8 * slot) bytes
      ∙ ap (λ (k : ℕ). drop k bytes) on in
      let more : number_bytes (take (slot + 1) table) ≡ front ++ little_endian 8 x =
      ap (λ (k : ℕ). number_bytes (take k table)) (add-one slot)
      ∙ ap number_bytes (take-suc table slot 0 h)
      ∙ bytes_append (take slot table) (x ∷ []) in
      l.bytes
      ∙ ap (λ (z : List ℕ). z ++ little_endian 8 x ++ drop (8 * slot + 8) bytes') before
      ∙ ap (λ (z : List ℕ). front ++ little_endian 8 x ++ z) after
      ∙ ap (λ (z : List ℕ). z ++ drop (8 * (slot + 1)) bytes) (sym more)

  pub all_written : length table ≤ slot → slot ≤ length table → bytes' ≡ number_bytes (take slot table) ++ drop (8 * slot) bytes → bytes' ≡ number_bytes table
  all_written h k e =
      let all : take slot table ≡ table = take_all slot table h in
      let past : length bytes ≤ 8 * slot = omega (arith, whole) in
      let none : drop (8 * slot) bytes ≡ [] = drop_of_length-le bytes past in
      e ∙ (rw (all, none, append-nil (number_bytes table)))

-- ---- and back

pub no_bytes : (bytes : List ℕ) → length bytes ≡ 0 → Bytes bytes
no_bytes [] e i = omega arith
no_bytes (b ∷ bytes) e i = absurd (omega (arith, e))

-- a number's bytes, where it was read from bytes
bytes_of_number : (bytes : List ℕ) → Bytes bytes → little_endian (length bytes) (number bytes) ≡ bytes
unfolding little_endian number
bytes_of_number [] below = refl
bytes_of_number (b ∷ bytes) below =
    let rest : little_endian (length bytes) (number bytes) ≡ bytes = bytes_of_number bytes (λ i. below (suc i)) in
    let low : (b + 256 * number bytes) % 256 ≡ b = omega (arith, below 0) in
    let high : (b + 256 * number bytes) / 256 ≡ number bytes = omega (arith, below 0) in
    rw (low, high, rest)

bytes_take : (n : ℕ) (bytes : List ℕ) → Bytes bytes → Bytes (take n bytes)
bytes_take zero bytes below i = omega arith
bytes_take (suc n) [] below i = omega arith
bytes_take (suc n) (b ∷ bytes) below zero = below 0
bytes_take (suc n) (b ∷ bytes) below (suc i) = bytes_take n bytes (λ j. below (suc j)) i

bytes_drop : (n : ℕ) (bytes : List ℕ) → Bytes bytes → Bytes (drop n bytes)
bytes_drop n bytes below i = rw (get_or-drop n bytes i 0) (below (n + i))

-- the bytes of a word that was read
word_back : (bytes : List ℕ) (place : ℕ) → Bytes bytes → 8 * place + 8 ≤ length bytes → little_endian 8 (number (word bytes place)) ≡ word bytes place
unfolding word
word_back bytes place below h =
    let size : length (take 8 (drop (8 * place) bytes)) ≡ 8 = length-take-le 8 (drop (8 * place) bytes) (simp length-drop (omega arith)) in
    let small : Bytes (take 8 (drop (8 * place) bytes)) = bytes_take 8 (drop (8 * place) bytes) (bytes_drop (8 * place) bytes below) in
    ap (λ (k : ℕ). little_endian k (number (take 8 (drop (8 * place) bytes)))) (sym size) ∙ bytes_of_number (take 8 (drop (8 * place) bytes)) small

words_back : (bytes : List ℕ) (n place : ℕ) → Bytes bytes → 8 * (place + n) ≤ length bytes → number_bytes (numbers bytes place n) ≡ words bytes place n
unfolding number_bytes numbers words
words_back bytes zero place below h = refl
words_back bytes (suc n) place below h =
    ap (λ (w : List ℕ). w ++ number_bytes (numbers bytes (suc place) n)) (word_back bytes place below (omega arith))
    ∙ ap (λ (rest : List ℕ). word bytes place ++ rest) (words_back bytes n (suc place) below (omega arith))

pub table_bytes_back : TableBytesBack
unfolding TableBytesBack
table_bytes_back bytes slots below size =
    words_back bytes slots 0 below (omega (arith, size)) ∙ words_part bytes slots 0 ∙ take_all (8 * slots) bytes (omega (arith, size))

-- words from their bytes, behind as many bytes as there are words before
numbers_back : (table : List ℕ) → ((i : ℕ) → get_or table i 0 < 256 ^ 8) → numbers (number_bytes table) 0 (length table) ≡ table
unfolding numbers word number_bytes
numbers_back [] below = refl
numbers_back (x ∷ table) below =
    let first : number (little_endian 8 x) ≡ x = number_little_endian 8 x (below 0) in
    let rest : numbers (number_bytes (x ∷ table)) 1 (length table) ≡ table =
    sym (numbers_of_part 1 (length table) 0 (number_bytes (x ∷ table))) ∙ numbers_back table (λ i. below (suc i)) in
    ap (λ (n : ℕ). n ∷ numbers (number_bytes (x ∷ table)) 1 (length table)) first ∙ ap (λ (ys : List ℕ). x ∷ ys) rest

pub table_back : TableBack
unfolding TableBack
table_back = numbers_back
