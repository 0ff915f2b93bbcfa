-- A part that starts in the middle of the memory: reading it, and laying lists in it.
use mathlib.Core.Path.{◌≡◌, refl, sym, ap, ◌∙◌, subst}
use mathlib.Core.List.{List, [], ◌∷◌, ◌++◌, append_assoc}
use Prim.Native.Nat.{ℕ, zero, suc, ◌+◌, ◌*◌, ◌-◌, ◌≤◌}
use native.Mathlib.Omega.{arith}
use lib.ListN.{length, take, drop, length-drop, take-append-drop}
use lib.Seq.{take_all, length-take-le, take-append-le, drop-append-le, drop-drop, drop-append-add, take-append-add}
use Rattle.words.specs.Words.{word, words, block_at, put, Store, lay, bytes_to, numbers, Lays}
use Rattle.words.proofs.All.{All, also, all_take}
use Rattle.words.proofs.Puts.{length-put}
use Rattle.words.proofs.Lists.{Fit}
use Rattle.words.proofs.Blocks.{block_part}

-- ---- reading

-- `&memory[a..]` is all that is left of the memory
pub tail_part : (a : ℕ) (memory : List ℕ) → take (length memory - a) (drop a memory) ≡ drop a memory
tail_part a memory = take_all (length memory - a) (drop a memory) (simp length-drop (omega arith))

pub word_part : (a i : ℕ) (memory : List ℕ) → word (drop (8 * a) memory) i ≡ word memory (a + i)
unfolding word
word_part a i memory = let e : 8 * a + 8 * i ≡ 8 * (a + i) = omega arith in rw (drop-drop (8 * i) (8 * a) memory, e)

pub words_of_part : (a n i : ℕ) (memory : List ℕ) → words (drop (8 * a) memory) i n ≡ words memory (a + i) n
unfolding words
words_of_part a zero i memory = refl
words_of_part a (suc n) i memory =
    let e : a + suc i ≡ suc (a + i) = omega arith in
    rw (word_part a i memory, words_of_part a n (suc i) memory, e)

pub numbers_of_part : (a n i : ℕ) (memory : List ℕ) → numbers (drop (8 * a) memory) i n ≡ numbers memory (a + i) n
unfolding numbers
numbers_of_part a zero i memory = refl
numbers_of_part a (suc n) i memory =
    let e : a + suc i ≡ suc (a + i) = omega arith in
    rw (word_part a i memory, numbers_of_part a n (suc i) memory, e)

-- a block of the part from block q on
pub block_of_tail : (q i : ℕ) (memory : List ℕ) → block_at (take (length memory - 64 * q) (drop (64 * q) memory)) i ≡ block_at memory (q + i)
block_of_tail q i memory =
    let e : 64 * q + 64 * i ≡ 64 * (q + i) = omega arith in
    rw (tail_part (64 * q) memory, block_part (drop (64 * q) memory) i, block_part memory (q + i), drop-drop (64 * i) (64 * q) memory, e)

-- ---- the stores of a part, as stores of the whole memory

abbrev pub moved : ℕ → Store → Store
moved a s = record { place = a + s.place; bytes = s.bytes }

unfoldable pub shifted : ℕ → List Store → List Store
shifted a [] = []
shifted a (s ∷ stores) = moved a s ∷ shifted a stores

pub take_shifted : (a p : ℕ) (stores : List Store) → take p (shifted a stores) ≡ shifted a (take p stores)
unfolding shifted
take_shifted a zero stores = refl
take_shifted a (suc p) [] = refl
take_shifted a (suc p) (s ∷ stores) = ap (λ (z : List Store). moved a s ∷ z) (take_shifted a p stores)

pub length_shifted : (a : ℕ) (stores : List Store) → length (shifted a stores) ≡ length stores
unfolding shifted
length_shifted a [] = refl
length_shifted a (s ∷ stores) = ap suc (length_shifted a stores)

pub shifted_bytes_to : (a n place : ℕ) (bytes : List ℕ) → shifted a (bytes_to place n bytes) ≡ bytes_to (a + place) n bytes
unfolding shifted bytes_to
shifted_bytes_to a zero place bytes = refl
shifted_bytes_to a (suc n) place bytes =
    let e : a + suc place ≡ suc (a + place) = omega arith in
    rw (shifted_bytes_to a n (suc place) (drop 8 bytes), e)

-- one store into the middle of three pieces
pub put_middle : (front middle back : List ℕ) (a i : ℕ) (bytes : List ℕ) → length front ≡ 8 * a → 8 * i + 8 ≤ length middle
    → put (front ++ (middle ++ back)) (a + i) bytes ≡ front ++ (put middle i bytes ++ back)
unfolding put
put_middle front middle back a i bytes e h =
    let x : 8 * (a + i) ≡ length front + 8 * i = omega arith in
    let y : 8 * (a + i) + 8 ≡ length front + (8 * i + 8) = omega arith in
    rw (y, x, take-append-add front (middle ++ back) (8 * i), drop-append-add front (middle ++ back) (8 * i + 8), take-append-le (8 * i) middle back (omega arith), drop-append-le (8 * i + 8) middle back h)
    (simp append_assoc)

lay_middle : (front back : List ℕ) (a : ℕ) (stores : List Store) (middle : List ℕ) → length front ≡ 8 * a → All (Fit (length middle)) stores
    → lay (shifted a stores) (front ++ (middle ++ back)) ≡ front ++ (lay stores middle ++ back)
unfolding shifted lay
lay_middle front back a [] middle e f = refl
lay_middle front back a (s ∷ stores) middle e (also f fs) =
    let q = length-put middle s.place s.bytes f.room f.eight in
    ap (λ (z : List ℕ). lay (shifted a stores) z) (put_middle front middle back a s.place s.bytes e f.room)
    ∙ lay_middle front back a stores (put middle s.place s.bytes) e (subst (λ (n : ℕ). All (Fit n) stores) (sym q) fs)

-- what comes back after a list was laid in a part of k bytes from word a on
pub lay_part : (memory : List ℕ) (a k : ℕ) (stores : List Store) → 8 * a + k ≤ length memory → All (Fit k) stores
    → take (8 * a) memory ++ (lay stores (take k (drop (8 * a) memory)) ++ drop k (drop (8 * a) memory)) ≡ lay (shifted a stores) memory
lay_part memory a k stores h f =
    let front : List ℕ = take (8 * a) memory in
    let middle : List ℕ = take k (drop (8 * a) memory) in
    let back : List ℕ = drop k (drop (8 * a) memory) in
    let size : length middle ≡ k = length-take-le k (drop (8 * a) memory) (simp length-drop (omega arith)) in
    let e : front ++ (middle ++ back) ≡ memory = ap (λ (z : List ℕ). front ++ z) (take-append-drop k (drop (8 * a) memory)) ∙ take-append-drop (8 * a) memory in
    sym (lay_middle front back a stores middle (length-take-le (8 * a) memory (omega arith)) (subst (λ (n : ℕ). All (Fit n) stores) (sym size) f))
    ∙ ap (λ (z : List ℕ). lay (shifted a stores) z) e

-- what a function promises of a part of k bytes from byte `start`, the first of word a, it promises of the memory
pub lays_part : (memory : List ℕ) (start a k : ℕ) {p : ℕ} {stores : List Store} {part' : List ℕ} {r : ℕ}
    → start ≡ 8 * a → start + k ≤ length memory → All (Fit k) stores
    → Lays p stores (take k (drop start memory)) part' r
    → Lays p (shifted a stores) memory (take start memory ++ (part' ++ drop k (drop start memory))) r
lays_part memory start a k {p} {stores} {part'} {r} e h f l =
    record {
      words = l.words ∙ sym (length_shifted a stores);
      bytes = ap (λ (z : List ℕ). take start memory ++ (z ++ drop k (drop start memory))) l.bytes
          ∙ ap (λ (z : ℕ). take z memory ++ (lay (take p stores) (take k (drop z memory)) ++ drop k (drop z memory))) e
          ∙ lay_part memory a k (take p stores) (omega arith) (all_take p f)
          ∙ ap (λ (z : List Store). lay z memory) (sym (take_shifted a p stores));
    }
