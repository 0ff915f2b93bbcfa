-- A word replaced: the length stays, the word reads back, every other word stays.
use mathlib.Core.Path.{◌≡◌, sym, ap, ◌∙◌}
use mathlib.Core.Logic.{◌≢◌}
use mathlib.Core.List.{List, [], ◌∷◌, ◌++◌, append_assoc}
use Prim.Native.Nat.{ℕ, zero, suc, ◌+◌, ◌*◌, ◌-◌, ◌≤◌, ◌<◌}
use native.Mathlib.Omega.{arith}
use native.Mathlib.Nat.{zero-add, suc-add}
use native.Mathlib.Decide.{dec_lt}
use lib.ListN.{length, take, drop, length-append, length-take, length-drop}
use lib.Seq.{length-take-le, take_at, drop_at, take-append-le, drop-append-le, drop-drop, take-take, drop-append-add, take-nil}
use Rattle.words.specs.Words.{word, put}

pub length-put : (memory : List ℕ) (place : ℕ) (bytes : List ℕ) → 8 * place + 8 ≤ length memory → length bytes ≡ 8 → length (put memory place bytes) ≡ length memory
unfolding put
length-put memory place bytes r l = simp (length-append, length-take, length-drop, l) (omega arith)

pub length_front : (memory : List ℕ) (place : ℕ) (bytes : List ℕ) → 8 * place + 8 ≤ length memory → length bytes ≡ 8 → length (take (8 * place) memory ++ bytes) ≡ 8 * place + 8
length_front memory place bytes r l = simp (length-append, length-take, l) (omega arith)

pub word_put_same : (memory : List ℕ) (place : ℕ) (bytes : List ℕ) → 8 * place + 8 ≤ length memory → length bytes ≡ 8 → word (put memory place bytes) place ≡ bytes
unfolding put word
word_put_same memory place bytes r l =
    rw (append_assoc (take (8 * place) memory) bytes (drop (8 * place + 8) memory))
    (rw (drop_at (take (8 * place) memory) (bytes ++ drop (8 * place + 8) memory) (8 * place) (length-take-le (8 * place) memory (omega arith)))
    (take_at bytes (drop (8 * place + 8) memory) 8 l))

drop-take : (a b : ℕ) (l : List ℕ) → drop a (take (a + b) l) ≡ take b (drop a l)
drop-take zero b l = rw zero-add
drop-take (suc a) b [] = rw (suc-add, take-nil b)
drop-take (suc a) b (x ∷ xs) = rw suc-add (drop-take a b xs)

below : (memory : List ℕ) (place elsewhere : ℕ) (bytes : List ℕ) → 8 * place + 8 ≤ length memory → length bytes ≡ 8 → elsewhere < place → word (put memory place bytes) elsewhere ≡ word memory elsewhere
unfolding put word
below memory place elsewhere bytes r l h =
    let n : ℕ = 8 * place - 8 * elsewhere in
    let e : 8 * place ≡ 8 * elsewhere + n = omega arith in
    let lt : length (take (8 * place) memory) ≡ 8 * place = length-take-le (8 * place) memory (omega arith) in
    rw (append_assoc (take (8 * place) memory) bytes (drop (8 * place + 8) memory))
    (rw (drop-append-le (8 * elsewhere) (take (8 * place) memory) (bytes ++ drop (8 * place + 8) memory) (omega arith))
    (rw (take-append-le 8 (drop (8 * elsewhere) (take (8 * place) memory)) (bytes ++ drop (8 * place + 8) memory) (simp (length-drop, lt) (omega arith)))
    (rw (e, drop-take (8 * elsewhere) n memory) (take-take 8 n (drop (8 * elsewhere) memory) (omega arith)))))

above : (memory : List ℕ) (place elsewhere : ℕ) (bytes : List ℕ) → 8 * place + 8 ≤ length memory → length bytes ≡ 8 → place < elsewhere → word (put memory place bytes) elsewhere ≡ word memory elsewhere
unfolding put word
above memory place elsewhere bytes r l h =
    let n : ℕ = 8 * elsewhere - (8 * place + 8) in
    let f : List ℕ = take (8 * place) memory ++ bytes in
    let lf : length f ≡ 8 * place + 8 = length_front memory place bytes r l in
    let e : 8 * elsewhere ≡ 8 * place + 8 + n = omega arith in
    let d : drop (8 * elsewhere) (f ++ drop (8 * place + 8) memory) ≡ drop (8 * elsewhere) memory =
    ap (λ (k : ℕ). drop k (f ++ drop (8 * place + 8) memory)) e
    ∙ ap (λ (k : ℕ). drop (k + n) (f ++ drop (8 * place + 8) memory)) (sym lf)
    ∙ drop-append-add f (drop (8 * place + 8) memory) n
    ∙ drop-drop n (8 * place + 8) memory
    ∙ ap (λ (k : ℕ). drop k memory) (sym e)
    in
    ap (λ (r : List ℕ). take 8 r) d

pub word_put_other : (memory : List ℕ) (place elsewhere : ℕ) (bytes : List ℕ) → 8 * place + 8 ≤ length memory → length bytes ≡ 8 → elsewhere ≢ place → word (put memory place bytes) elsewhere ≡ word memory elsewhere
word_put_other memory place elsewhere bytes r l ne = elim (dec_lt elsewhere place) [ yes h ↦ below memory place elsewhere bytes r l h | no h ↦ above memory place elsewhere bytes r l (omega arith) ]
