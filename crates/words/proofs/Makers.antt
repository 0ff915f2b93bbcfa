-- Runs of words: reading them, and the lists of stores that lay them.
use mathlib.Core.Path.{◌≡◌, refl, ap, ◌∙◌}
use mathlib.Core.List.{List, [], ◌∷◌, ◌++◌}
use Prim.Native.Nat.{ℕ, zero, suc, ◌+◌, ◌*◌, ◌/◌, ◌^◌, ◌≤◌, ◌<◌, min}
use native.Mathlib.Omega.{arith}
use native.Mathlib.Nat.{le_refl, min-zero, zero-min, suc-min-suc}
use lib.ListN.{length, replicate, length-replicate, take, drop, length-append, length-take, length-drop, take-append-drop}
use lib.Seq.{take-add, length-take-le, drop-drop, take-nil}
use Rattle.words.specs.Words.{word, words, Store, lay, bytes_to, fill_to, number, little_endian, number_bytes, numbers_to, numbers}
use Rattle.words.proofs.All.{All, done, also, all_append}
use Rattle.words.proofs.Lists.{Fit}
use Rattle.words.proofs.Rising.{Held, Rising, flat, up, rising_append, rising_held, In, in_wider, in_below}

-- ---- reading runs of words

pub words_agree : (memory memory' : List ℕ) (n place : ℕ) → ((j : ℕ) → place ≤ j → j < place + n → word memory' j ≡ word memory j)
    → words memory' place n ≡ words memory place n
unfolding words
words_agree memory memory' zero place h = refl
words_agree memory memory' (suc n) place h =
    rw (h place (le_refl place) (omega arith), words_agree memory memory' n (suc place) (λ j a b. h j (omega arith) (omega arith)))

pub numbers_agree : (memory memory' : List ℕ) (n place : ℕ) → ((j : ℕ) → place ≤ j → j < place + n → word memory' j ≡ word memory j)
    → numbers memory' place n ≡ numbers memory place n
unfolding numbers
numbers_agree memory memory' zero place h = refl
numbers_agree memory memory' (suc n) place h =
    rw (h place (le_refl place) (omega arith), numbers_agree memory memory' n (suc place) (λ j a b. h j (omega arith) (omega arith)))

-- a run of words is a part of the memory
pub words_part : (memory : List ℕ) (n place : ℕ) → words memory place n ≡ take (8 * n) (drop (8 * place) memory)
unfolding words word
words_part memory zero place = refl
words_part memory (suc n) place =
    let e : 8 * suc n ≡ 8 + 8 * n = omega arith in
    let f : 8 * suc place ≡ 8 * place + 8 = omega arith in
    rw (words_part memory n (suc place), e, take-add 8 (8 * n) (drop (8 * place) memory), drop-drop 8 (8 * place) memory, f)

pub length-words : (memory : List ℕ) (n place : ℕ) → 8 * (place + n) ≤ length memory → length (words memory place n) ≡ 8 * n
length-words memory n place h = rw (words_part memory n place) (simp (length-take, length-drop) (omega arith))

pub length-numbers : (memory : List ℕ) (n place : ℕ) → length (numbers memory place n) ≡ n
unfolding numbers
length-numbers memory zero place = refl
length-numbers memory (suc n) place = ap suc (length-numbers memory n (suc place))

-- ---- a run of n stores from a place on, inside a memory of so many bytes

pub record Laid (place n size : ℕ) (stores : List Store) : Type 0 where
  pub fits : All (Fit size) stores
  pub rises : Rising place stores
  pub inside : All (In place (place + n)) stores
  pub count : length stores ≡ n

pub bytes_to_laid : (n place : ℕ) (bytes : List ℕ) (size : ℕ) → 8 * n ≤ length bytes → 8 * (place + n) ≤ size → Laid place n size (bytes_to place n bytes)
unfolding bytes_to
bytes_to_laid zero place bytes size e h = record { fits = done; rises = flat; inside = done; count = refl }
bytes_to_laid (suc n) place bytes size e h =
    let rest = bytes_to_laid n (suc place) (drop 8 bytes) size (simp length-drop (omega arith)) (omega arith) in
    let first : Store = record { place = place; bytes = take 8 bytes } in
    record {
      fits = also {x = first} (record { room = omega arith; eight = length-take-le 8 bytes (omega arith) }) rest.fits;
      rises = up (le_refl place) rest.rises;
      inside = also {x = first} (record { low = le_refl place; high = omega arith }) (in_wider (omega arith) (omega arith) rest.inside);
      count = ap suc rest.count;
    }

-- two runs, the second from where the first ends
pub laid-append : {place n k size : ℕ} {xs ys : List Store} → Laid place n size xs → Laid (place + n) k size ys → Laid place (n + k) size (xs ++ ys)
laid-append {place} {n} {k} {size} {xs} {ys} a b = record {
  fits = all_append a.fits b.fits;
  rises = rising_append (omega arith) a.rises (in_below (le_refl (place + n)) a.inside) b.rises;
  inside = all_append (in_wider (omega arith) (omega arith) a.inside) (in_wider (omega arith) (omega arith) b.inside);
  count = length-append xs ys ∙ (rw (a.count, b.count));
}

pub fill_to_laid : (n place fill size : ℕ) → 8 * (place + n) ≤ size → Laid place n size (fill_to place n fill)
unfolding fill_to
fill_to_laid n place fill size h = bytes_to_laid n place (replicate (8 * n) fill) size (rw length-replicate (le_refl (8 * n))) h

pub length-number_bytes : (xs : List ℕ) → length (number_bytes xs) ≡ 8 * length xs
unfolding number_bytes
length-number_bytes [] = refl
length-number_bytes (x ∷ xs) = let e = length-number_bytes xs in omega arith

pub numbers_to_laid : (xs : List ℕ) (place size : ℕ) → 8 * (place + length xs) ≤ size → Laid place (length xs) size (numbers_to place xs)
unfolding numbers_to
numbers_to_laid xs place size h = bytes_to_laid (length xs) place (number_bytes xs) size (omega (arith, length-number_bytes xs)) h

-- ---- what stands in the memory is what is read there

pub held_bytes : (memory : List ℕ) (n place : ℕ) (bytes : List ℕ) → length bytes ≡ 8 * n → All (Held memory) (bytes_to place n bytes) → words memory place n ≡ bytes
unfolding bytes_to words Held
held_bytes memory zero place [] e a = refl
held_bytes memory zero place (b ∷ bytes) e a = absurd (omega arith)
held_bytes memory (suc n) place bytes e (also a az) =
    rw (a, held_bytes memory n (suc place) (drop 8 bytes) (simp length-drop (omega arith)) az) (take-append-drop 8 bytes)

-- bytes laid whole read back
pub words_laid : (memory : List ℕ) (n place : ℕ) (bytes : List ℕ) → length bytes ≡ 8 * n → 8 * (place + n) ≤ length memory
    → words (lay (bytes_to place n bytes) memory) place n ≡ bytes
words_laid memory n place bytes e h =
    let run = bytes_to_laid n place bytes (length memory) (omega arith) h in
    held_bytes (lay (bytes_to place n bytes) memory) n place bytes e (rising_held (bytes_to place n bytes) memory run.fits run.rises)

pub number_little_endian : (n x : ℕ) → x < 256 ^ n → number (little_endian n x) ≡ x
unfolding number little_endian
number_little_endian zero x h = omega arith
number_little_endian (suc n) x h = rw (number_little_endian n (x / 256) (omega arith)) (omega arith)

-- a number that a word holds
unfoldable pub Small : ℕ → Type 0
Small x = x < 256 ^ 8

pub held_numbers : (memory xs : List ℕ) (place : ℕ) → All Small xs → All (Held memory) (numbers_to place xs) → numbers memory place (length xs) ≡ xs
unfolding numbers_to number_bytes bytes_to numbers Held Small little_endian
held_numbers memory [] place a h = refl
held_numbers memory (x ∷ xs) place (also a az) (also h hs) = rw (h, number_little_endian 8 x a, held_numbers memory xs (suc place) az hs)

pub held_number : (memory : List ℕ) (place x : ℕ) → x < 256 ^ 8 → All (Held memory) (numbers_to place (x ∷ [])) → number (word memory place) ≡ x
unfolding numbers_to number_bytes bytes_to Held little_endian
held_number memory place x h (also a az) = rw a (number_little_endian 8 x h)

-- the first p stores of a run are a shorter run
pub take-bytes_to : (n p place : ℕ) (bytes : List ℕ) → take p (bytes_to place n bytes) ≡ bytes_to place (min p n) bytes
unfolding bytes_to
take-bytes_to zero p place bytes = rw min-zero (take-nil p)
take-bytes_to (suc n) zero place bytes = rw zero-min
take-bytes_to (suc n) (suc p) place bytes = rw (suc-min-suc, take-bytes_to n p (suc place) (drop 8 bytes))
