-- The list of a checkpoint word by word, and as it lies in the part that starts with the backup.
use mathlib.Core.Path.{◌≡◌, refl, sym, ap, ◌∙◌, subst}
use mathlib.Core.List.{List, [], ◌∷◌, ◌++◌, map}
use Prim.Native.Nat.{ℕ, zero, suc, ◌+◌, ◌*◌, ◌-◌, ◌≤◌, ◌<◌, min}
use native.Mathlib.Omega.{arith}
use native.Mathlib.Nat.{add-zero, zero-add}
use lib.ListN.{length, take, drop, get_or, length-append, length-drop, length-take, length-map}
use lib.Seq.{drop-drop, drop-append-add, drop-append-le, take-append-le}
use Rattle.words.specs.Words.{Store, Lays, lay, bytes_to, numbers_to, number_bytes, little_endian}
use Rattle.words.proofs.Laying.{take_least, one_more}
use Rattle.words.proofs.All.{All, all_take, all_drop, all_append}
use Rattle.words.proofs.Lists.{Fit}
use Rattle.words.proofs.Makers.{bytes_to_laid, numbers_to_laid}
use Rattle.words.proofs.Parts.{tail_part, moved, shifted, take_shifted, shifted_bytes_to, lays_part}
use Rattle.rules.specs.declared.Geometry.{Geometry}
use Rattle.rules.specs.declared.Backup.{Backup}
use Rattle.rules.specs.Geometry.{backup_start, mark_start, memory_words}
use Rattle.rules.specs.TableWords.{changed}
use Rattle.rules.specs.Checkpoints.{saved, mark_of, checkpoint_list}
use Rattle.rules.proofs.Changing.{changed_get}
use Rattle.rules.proofs.Saving.{mark_high}
use Rattle.checkpoints.specs.Backups.{backup_list, Room}

-- ---- lengths

length-bytes_to : (n place : ℕ) (bytes : List ℕ) → length (bytes_to place n bytes) ≡ n
unfolding bytes_to
length-bytes_to zero place bytes = refl
length-bytes_to (suc n) place bytes = ap suc (length-bytes_to n (suc place) (drop 8 bytes))

length-numbers_to : (place : ℕ) (xs : List ℕ) → length (numbers_to place xs) ≡ length xs
unfolding numbers_to
length-numbers_to place xs = length-bytes_to (length xs) place (number_bytes xs)

-- the registers, the table and the mark
length_three : (a b c mark : ℕ) (registers table : List ℕ)
    → length ((bytes_to a 8 registers ++ numbers_to b table) ++ numbers_to c (mark ∷ [])) ≡ length table + 9
length_three a b c mark registers table = simp (length-append, length-bytes_to, length-numbers_to) (omega arith)

pub length_checkpoint : (g : Geometry) (backup : Backup) (registers table : List ℕ) → length (checkpoint_list g backup registers table) ≡ length table + 9
unfolding checkpoint_list
length_checkpoint g backup registers table = length_three (backup_start g backup) (backup_start g backup + 8) (mark_start g) (mark_of backup) registers table

-- ---- the words from c on up to one index, and one word further

pub to_start : (stores : List Store) (c : ℕ) (memory : List ℕ) → memory ≡ lay (take (c - c) (drop c stores)) memory
unfolding lay
to_start stores c memory = let e : c - c ≡ 0 = omega arith in rw e refl

pub to_next : (stores : List Store) (c i : ℕ) (memory : List ℕ) → c ≤ i
    → lay (take 1 (drop i stores)) (lay (take (i - c) (drop c stores)) memory) ≡ lay (take (i + 1 - c) (drop c stores)) memory
to_next stores c i memory h =
    let e : c + (i - c) ≡ i = omega arith in
    let f : i + 1 - c ≡ i - c + 1 = omega arith in
    rw f (rw e at (one_more stores c (i - c) memory))

-- ---- one word of a run

one_of_front : (xs ys : List Store) (i : ℕ) → i < length xs → take 1 (drop i (xs ++ ys)) ≡ take 1 (drop i xs)
one_of_front xs ys i h = rw (drop-append-le i xs ys (omega arith)) (take-append-le 1 (drop i xs) ys (simp length-drop (omega arith)))

one_of_back : (xs ys : List Store) (i j : ℕ) → i ≡ length xs + j → take 1 (drop i (xs ++ ys)) ≡ take 1 (drop j ys)
one_of_back xs ys i j e = rw e (ap (take 1) (drop-append-add xs ys j))

one_of_bytes : (n i place : ℕ) (bytes : List ℕ) → i < n → take 1 (drop i (bytes_to place n bytes)) ≡ bytes_to (place + i) 1 (drop (8 * i) bytes)
unfolding bytes_to
one_of_bytes zero i place bytes h = absurd (omega arith)
one_of_bytes (suc n) zero place bytes h = rw add-zero
one_of_bytes (suc n) (suc i) place bytes h =
    let x : suc place + i ≡ place + suc i = omega arith in
    let y : 8 + 8 * i ≡ 8 * suc i = omega arith in
    one_of_bytes n i (suc place) (drop 8 bytes) (omega arith) ∙ (rw (drop-drop (8 * i) 8 bytes, x, y))

one_of_numbers : (xs : List ℕ) (i place : ℕ) → i < length xs → take 1 (drop i (numbers_to place xs)) ≡ numbers_to (place + i) (get_or xs i 0 ∷ [])
unfolding numbers_to number_bytes bytes_to little_endian
one_of_numbers [] i place h = absurd (omega arith)
one_of_numbers (x ∷ xs) zero place h = rw add-zero
one_of_numbers (x ∷ xs) (suc i) place h =
    let e : suc place + i ≡ place + suc i = omega arith in
    one_of_numbers xs i (suc place) (omega arith) ∙ (rw e)

one_bytes : (place : ℕ) (bytes : List ℕ) → take 1 (bytes_to place 1 bytes) ≡ bytes_to place 1 bytes
unfolding bytes_to
one_bytes place bytes = refl

one_number : (place x : ℕ) → take 1 (numbers_to place (x ∷ [])) ≡ numbers_to place (x ∷ [])
unfolding numbers_to bytes_to
one_number place x = refl

-- ---- one word of the list: what lays it lays the next word

module _ (place mark : ℕ) (registers table : List ℕ) where
  length_front : length (bytes_to 0 8 registers ++ numbers_to 8 table) ≡ 8 + length table
  length_front = simp (length-append, length-bytes_to, length-numbers_to)

  pub length_list : length (backup_list place mark registers table) ≡ length table + 9
  unfolding backup_list
  length_list = length_three 0 8 place mark registers table

  register_word : (i : ℕ) → i < 8 → take 1 (drop i (backup_list place mark registers table)) ≡ bytes_to i 1 (drop (8 * i) registers)
  unfolding backup_list
  register_word i h =
      one_of_front (bytes_to 0 8 registers ++ numbers_to 8 table) (numbers_to place (mark ∷ [])) i (omega (arith, length_front))
      ∙ one_of_front (bytes_to 0 8 registers) (numbers_to 8 table) i (omega (arith, length-bytes_to 8 0 registers))
      ∙ one_of_bytes 8 i 0 registers h
      ∙ ap (λ (z : ℕ). bytes_to z 1 (drop (8 * i) registers)) (zero-add i)

  table_word : (i : ℕ) → 8 ≤ i → i - 8 < length table → take 1 (drop i (backup_list place mark registers table)) ≡ numbers_to i (get_or table (i - 8) 0 ∷ [])
  unfolding backup_list
  table_word i h k =
      let y : 8 + (i - 8) ≡ i = omega arith in
      one_of_front (bytes_to 0 8 registers ++ numbers_to 8 table) (numbers_to place (mark ∷ [])) i (omega (arith, length_front))
      ∙ one_of_back (bytes_to 0 8 registers) (numbers_to 8 table) i (i - 8) (omega (arith, length-bytes_to 8 0 registers))
      ∙ one_of_numbers table (i - 8) 8 k
      ∙ ap (λ (z : ℕ). numbers_to z (get_or table (i - 8) 0 ∷ [])) y

  mark_word : (i : ℕ) → i ≡ 8 + length table → take 1 (drop i (backup_list place mark registers table)) ≡ numbers_to place (mark ∷ [])
  unfolding backup_list
  mark_word i h =
      one_of_back (bytes_to 0 8 registers ++ numbers_to 8 table) (numbers_to place (mark ∷ [])) i 0 (omega (arith, length_front))
      ∙ one_number place mark

  pub lays_register : (i n : ℕ) {part part' : List ℕ} {r : ℕ} → i < 8 → n ≡ length registers
      → Lays 1 (bytes_to i 1 (take (n - 8 * i) (drop (8 * i) registers))) part part' r
      → part' ≡ lay (take 1 (drop i (backup_list place mark registers table))) part
  lays_register i n {part} h e l =
      l.bytes
      ∙ ap (λ (z : List Store). lay z part)
      (one_bytes i _ ∙ ap (bytes_to i 1) (ap (λ (k : ℕ). take (k - 8 * i) (drop (8 * i) registers)) e ∙ tail_part (8 * i) registers) ∙ sym (register_word i h))

  pub lays_mark : (i : ℕ) {part part' : List ℕ} {r : ℕ} → i ≡ 8 + length table → Lays 1 (numbers_to place (mark ∷ [])) part part' r
      → part' ≡ lay (take 1 (drop i (backup_list place mark registers table))) part
  lays_mark i {part} h l = l.bytes ∙ ap (λ (z : List Store). lay z part) (one_number place mark ∙ sym (mark_word i h))

pub lays_saved : (place mark : ℕ) (registers table : List ℕ) (i x : ℕ) {part part' : List ℕ} {r : ℕ} → 8 ≤ i → i - 8 < length table
    → x ≡ changed saved (get_or table (i - 8) 0) → Lays 1 (numbers_to i (x ∷ [])) part part' r
    → part' ≡ lay (take 1 (drop i (backup_list place mark registers (map (changed saved) table)))) part
lays_saved place mark registers table i x {part} h k e l =
    l.bytes
    ∙ ap (λ (z : List Store). lay z part)
    (one_number i x
    ∙ ap (λ (z : ℕ). numbers_to i (z ∷ [])) (e ∙ sym (changed_get saved table (i - 8)))
    ∙ sym (table_word place mark registers (map (changed saved) table) i h (omega (arith, length-map table (changed saved)))))

-- ---- several words

-- a loop that has laid as many words as the allowance leaves
pub lays_words : (p words count done : ℕ) (stores : List Store) {part part' : List ℕ} → count + words ≤ length stores → done ≡ min p words
    → part' ≡ lay (take done (drop count stores)) part → Lays p (take words (drop count stores)) part part' words
lays_words p words count done stores {part} h e q =
    record {
      words = simp (length-take, length-drop) (omega arith);
      bytes = q ∙ ap (λ (z : List Store). lay z part) (ap (λ (n : ℕ). take n (drop count stores)) e ∙ sym (take_least p words (drop count stores)));
    }

-- ---- the part and the memory

drop_shifted : (a p : ℕ) (stores : List Store) → drop p (shifted a stores) ≡ shifted a (drop p stores)
unfolding shifted
drop_shifted a zero stores = refl
drop_shifted a (suc p) [] = refl
drop_shifted a (suc p) (s ∷ stores) = drop_shifted a p stores

shifted_append : (a : ℕ) (xs ys : List Store) → shifted a (xs ++ ys) ≡ shifted a xs ++ shifted a ys
unfolding shifted
shifted_append a [] ys = refl
shifted_append a (x ∷ xs) ys = ap (λ (z : List Store). moved a x ∷ z) (shifted_append a xs ys)

shifted_numbers : (a place : ℕ) (xs : List ℕ) → shifted a (numbers_to place xs) ≡ numbers_to (a + place) xs
unfolding numbers_to
shifted_numbers a place xs = shifted_bytes_to a (length xs) place (number_bytes xs)

module _ (g : Geometry) (backup : Backup) (start place mark : ℕ) (registers table : List ℕ)
    (s : start ≡ backup_start g backup) (e : place ≡ mark_start g - start) (m : mark ≡ mark_of backup) where
  shifted_list : shifted start (backup_list place mark registers table) ≡ checkpoint_list g backup registers table
  unfolding backup_list checkpoint_list
  shifted_list =
      let high = mark_high g backup in
      let x : start + 0 ≡ backup_start g backup = omega arith in
      let y : start + 8 ≡ backup_start g backup + 8 = omega arith in
      let z : start + place ≡ mark_start g = omega arith in
      rw (shifted_append, shifted_append, shifted_bytes_to, shifted_numbers, shifted_numbers, x, y, z, m)

  module _ (memory : List ℕ) (exact : length memory ≡ 8 * memory_words g) (slots : length table ≡ g.slots) where
    pub room : Room place (length table) (length memory - 8 * start)
    room = let high = mark_high g backup in record { table = omega arith; mark = omega arith }

    list_fits : length registers ≡ 64 → All (Fit (length memory - 8 * start)) (backup_list place mark registers table)
    unfolding backup_list
    list_fits eight =
        let k : ℕ = length memory - 8 * start in
        all_append
        (all_append (bytes_to_laid 8 0 registers k (omega arith) (omega (arith, room.table))).fits
        (numbers_to_laid table 8 k (omega (arith, room.table))).fits)
        (numbers_to_laid (mark ∷ []) place k (omega (arith, room.mark))).fits

    pub lays_backup : {p r : ℕ} {part' : List ℕ} (count words : ℕ) → length registers ≡ 64
        → Lays p (take words (drop count (backup_list place mark registers table))) (take (length memory - 8 * start) (drop (8 * start) memory)) part' r
        → Lays p (take words (drop count (checkpoint_list g backup registers table))) memory
        (take (8 * start) memory ++ (part' ++ drop (length memory - 8 * start) (drop (8 * start) memory))) r
    lays_backup {p} {r} {part'} count words eight l =
        let high = mark_high g backup in
        subst (λ (z : List Store). Lays p z memory (take (8 * start) memory ++ (part' ++ drop (length memory - 8 * start) (drop (8 * start) memory))) r)
        (sym (take_shifted start words (drop count (backup_list place mark registers table)))
        ∙ ap (take words) (sym (drop_shifted start count (backup_list place mark registers table)) ∙ ap (drop count) shifted_list))
        (lays_part memory (8 * start) start (length memory - 8 * start) refl (omega arith) (all_take words (all_drop count (list_fits eight))) l)
