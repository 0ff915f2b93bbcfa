-- Lists laid under an allowance: one after another, word by word, and a run of words as one copy of bytes.
use mathlib.Core.Path.{◌≡◌, refl, sym, ap, ◌∙◌}
use mathlib.Core.List.{List, [], ◌∷◌, ◌++◌, append_assoc, append-nil}
use Prim.Native.Nat.{ℕ, zero, suc, ◌+◌, ◌*◌, ◌-◌, ◌≤◌, ◌<◌, min, ◌/◌}
use native.Mathlib.Omega.{arith}
use native.Mathlib.Nat.{zero-add, zero-sub, sub-zero, suc-sub-suc, min-zero, zero-min, suc-min-suc}
use native.Mathlib.Numerals.{add-one, towards_suc}
use lib.ListN.{length, get_or, set, take, drop, replicate, length-append, length-drop, length-replicate}
use lib.Seq.{take_all, take-add, take_at, take-nil, drop-drop, drop-append-add, drop-cons, drop-length, length-take-le, paste, paste-zero, paste-suc}
use Rattle.words.specs.Words.{put, Store, lay, bytes_to, fill_to, numbers_to, number_bytes, little_endian, Lays}
use Rattle.words.proofs.Puts.{length-put, length_front}
use Rattle.words.proofs.Lists.{lay-append}
use Rattle.words.proofs.Makers.{take-bytes_to, bytes_to_laid}

-- ---- one list after another

pub take_least : {A : Type 0} (p n : ℕ) (xs : List A) → take p (take n xs) ≡ take (min p n) xs
take_least zero n xs = rw zero-min
take_least (suc p) zero xs = rw min-zero
take_least (suc p) (suc n) [] = rw suc-min-suc
take_least (suc p) (suc n) (x ∷ xs) = rw suc-min-suc (ap (λ z. x ∷ z) (take_least p n xs))

-- at most n of a list, by how many these are
pub take_most : {A : Type 0} (n count : ℕ) (xs : List A) → count ≡ min n (length xs) → take count xs ≡ take n xs
take_most n count xs e = ap (λ (k : ℕ). take k xs) e ∙ sym (take_least n (length xs) xs) ∙ ap (take n) (take_all (length xs) xs (omega arith))

pub take_both : {A : Type 0} (p : ℕ) (xs ys : List A) → take p (xs ++ ys) ≡ take p xs ++ take (p - length xs) ys
take_both zero xs ys = rw (zero-sub (length xs))
take_both (suc p) [] ys = rw sub-zero
take_both (suc p) (x ∷ xs) ys = rw suc-sub-suc (ap (λ z. x ∷ z) (take_both p xs ys))

pub lays_then : {p : ℕ} {xs ys : List Store} {memory memory' memory'' : List ℕ} {r k : ℕ}
    → Lays p xs memory memory' r → Lays (p - r) ys memory' memory'' k → Lays p (xs ++ ys) memory memory'' (r + k)
lays_then {p} {xs} {ys} {memory} {memory'} {memory''} {r} {k} a b =
    record {
      words = simp (length-append, a.words, b.words);
      bytes = b.bytes
          ∙ ap (lay (take (p - r) ys)) a.bytes
          ∙ ap (λ (z : ℕ). lay (take (p - z) ys) (lay (take p xs) memory)) a.words
          ∙ sym (ap (λ (stores : List Store). lay stores memory) (take_both p xs ys) ∙ lay-append (take p xs) (take (p - length xs) ys) memory);
    }

pub lays_nothing : (p : ℕ) (memory : List ℕ) → Lays p [] memory memory 0
unfolding lay
lays_nothing p memory = record { words = refl; bytes = ap (λ (stores : List Store). lay stores memory) (sym (take-nil p)) }

-- by the length that was known before
pub relaid : {p r : ℕ} {stores : List Store} {memory memory' : List ℕ} (words : ℕ) → words ≡ length stores → Lays p stores memory memory' r
    → Lays p stores memory memory' words
relaid words e l = record { words = e; bytes = l.bytes }

-- laid whole
pub laid_whole : (p words : ℕ) (stores : List Store) (memory : List ℕ) {memory' : List ℕ} → words ≡ length stores → words ≤ p
    → memory' ≡ lay stores memory → Lays p stores memory memory' words
laid_whole p words stores memory e h q =
    record { words = e; bytes = q ∙ ap (λ (z : List Store). lay z memory) (sym (take_all p stores (omega arith))) }

-- the list from c on, one word further
pub one_more : (stores : List Store) (c j : ℕ) (memory : List ℕ)
    → lay (take 1 (drop (c + j) stores)) (lay (take j (drop c stores)) memory) ≡ lay (take (j + 1) (drop c stores)) memory
one_more stores c j memory =
    sym (ap (λ (z : List Store). lay z memory) (take-add j 1 (drop c stores) ∙ ap (λ (z : List Store). take j (drop c stores) ++ take 1 z) (drop-drop j c stores))
    ∙ lay-append (take j (drop c stores)) (take 1 (drop (c + j) stores)) memory)

-- ---- a run of words is one copy of bytes

take_front : (memory : List ℕ) (place : ℕ) (bytes : List ℕ) → 8 * place + 8 ≤ length memory → length bytes ≡ 8
    → take (8 * place + 8) (put memory place bytes) ≡ take (8 * place) memory ++ bytes
unfolding put
take_front memory place bytes r l = take_at (take (8 * place) memory ++ bytes) (drop (8 * place + 8) memory) (8 * place + 8) (length_front memory place bytes r l)

drop_front : (memory : List ℕ) (place : ℕ) (bytes : List ℕ) (n : ℕ) → 8 * place + 8 ≤ length memory → length bytes ≡ 8
    → drop ((8 * place + 8) + n) (put memory place bytes) ≡ drop ((8 * place + 8) + n) memory
unfolding put
drop_front memory place bytes n r l =
    ap (λ (z : ℕ). drop (z + n) ((take (8 * place) memory ++ bytes) ++ drop (8 * place + 8) memory)) (sym (length_front memory place bytes r l))
    ∙ drop-append-add (take (8 * place) memory ++ bytes) (drop (8 * place + 8) memory) n
    ∙ drop-drop n (8 * place + 8) memory

pub bytes_to-paste : (n place : ℕ) (bytes memory : List ℕ) → 8 * n ≤ length bytes → 8 * (place + n) ≤ length memory
    → lay (bytes_to place n bytes) memory ≡ paste memory (8 * place) bytes (8 * n)
unfolding bytes_to lay
bytes_to-paste zero place bytes memory h k = paste-zero memory (8 * place) bytes
bytes_to-paste (suc n) place bytes memory h k =
    let w : List ℕ = take 8 bytes in
    let lw : length w ≡ 8 = length-take-le 8 bytes (omega arith) in
    let memory' : List ℕ = put memory place w in
    let e8 : 8 * suc n ≡ 8 + 8 * n = omega arith in
    let ei : 8 * suc place ≡ 8 * place + 8 = omega arith in
    let en : 8 * suc place + 8 * n ≡ (8 * place + 8) + 8 * n = omega arith in
    let es : (8 * place + 8) + 8 * n ≡ 8 * place + 8 * suc n = omega arith in
    bytes_to-paste n (suc place) (drop 8 bytes) memory' (simp length-drop (omega arith)) (omega (arith, length-put memory place w (omega arith) lw))
    ∙ ap (λ (z : ℕ). take z memory' ++ take (8 * n) (drop 8 bytes) ++ drop (8 * suc place + 8 * n) memory') ei
    ∙ ap (λ (z : ℕ). take (8 * place + 8) memory' ++ take (8 * n) (drop 8 bytes) ++ drop z memory') en
    ∙ ap (λ (z : List ℕ). z ++ take (8 * n) (drop 8 bytes) ++ drop ((8 * place + 8) + 8 * n) memory') (take_front memory place w (omega arith) lw)
    ∙ ap (λ (z : List ℕ). (take (8 * place) memory ++ w) ++ take (8 * n) (drop 8 bytes) ++ z) (drop_front memory place w (8 * n) (omega arith) lw)
    ∙ ap (λ (z : List ℕ). z ++ drop ((8 * place + 8) + 8 * n) memory) (append_assoc (take (8 * place) memory) w (take (8 * n) (drop 8 bytes)))
    ∙ ap (λ (z : List ℕ). take (8 * place) memory ++ z ++ drop ((8 * place + 8) + 8 * n) memory) (sym (take-add 8 (8 * n) bytes))
    ∙ ap (λ (z : ℕ). take (8 * place) memory ++ take z bytes ++ drop ((8 * place + 8) + 8 * n) memory) (sym e8)
    ∙ ap (λ (z : ℕ). take (8 * place) memory ++ take (8 * suc n) bytes ++ drop z memory) es

-- a copy of the bytes of as many words as the allowance leaves lays the run
pub lays_bytes : (p n place j : ℕ) (bytes memory : List ℕ) {memory' : List ℕ} → 8 * n ≤ length bytes → 8 * (place + n) ≤ length memory → j ≡ 8 * min p n
    → memory' ≡ paste memory (8 * place) bytes j → Lays p (bytes_to place n bytes) memory memory' n
lays_bytes p n place j bytes memory h k e q =
    record {
      words = sym (bytes_to_laid n place bytes (length memory) h k).count;
      bytes = q
          ∙ ap (paste memory (8 * place) bytes) e
          ∙ sym (bytes_to-paste (min p n) place bytes memory (omega arith) (omega arith))
          ∙ ap (λ (stores : List Store). lay stores memory) (sym (take-bytes_to n p place bytes));
    }

pub lays_fill : (p n place j fill : ℕ) (memory : List ℕ) {memory' : List ℕ} → 8 * (place + n) ≤ length memory → j ≡ 8 * min p n
    → memory' ≡ paste memory (8 * place) (replicate (8 * n) fill) j → Lays p (fill_to place n fill) memory memory' n
unfolding fill_to
lays_fill p n place j fill memory k e q = lays_bytes p n place j (replicate (8 * n) fill) memory (simp length-replicate (omega arith)) k e q

pub lays_number : (p place x : ℕ) (bytes : List ℕ) {memory memory' : List ℕ} {r : ℕ} → bytes ≡ little_endian 8 x
    → Lays p (bytes_to place 1 bytes) memory memory' r → Lays p (numbers_to place (x ∷ [])) memory memory' r
unfolding numbers_to number_bytes bytes_to little_endian
lays_number p place x bytes e l = rw e at l

-- one number, and no allowance
pub lays_none : (place x : ℕ) (memory : List ℕ) → Lays 0 (numbers_to place (x ∷ [])) memory memory 1
unfolding numbers_to number_bytes bytes_to lay
lays_none place x memory = record { words = refl; bytes = refl }

pub length-little_endian : (n x : ℕ) → length (little_endian n x) ≡ n
unfolding little_endian
length-little_endian zero x = refl
length-little_endian (suc n) x = ap suc (length-little_endian n (x / 256))

-- ---- a copy, byte by byte

pub paste_turn : (to : List ℕ) (start : ℕ) (from : List ℕ) (j : ℕ) → start + j < length to → j < length from
    → set (paste to start from j) (start + j) (get_or from j 0) ≡ paste to start from (j + 1)
paste_turn to start from j h k = rw add-one (paste-suc to start from j 0 h k)

pub copy_whole : (to from : List ℕ) → paste to 0 from (length to) ≡ take (length to) from
copy_whole to from = rw (zero-add, drop-length) (append-nil (take (length to) from))

-- ---- reading a word byte by byte

pub eight : (s : List ℕ) (o : ℕ) → o + 8 ≤ length s
    → take 8 (drop o s) ≡ get_or s o 0 ∷ get_or s (o + 1) 0 ∷ get_or s (o + 2) 0 ∷ get_or s (o + 3) 0 ∷ get_or s (o + 4) 0 ∷ get_or s (o + 5) 0 ∷ get_or s (o + 6) 0 ∷ get_or s (o + 7) 0 ∷ []
eight s o h =
    simp towards_suc
    (rw (drop-cons s o 0 (omega arith), drop-cons s (suc o) 0 (omega arith), drop-cons s (suc (suc o)) 0 (omega arith), drop-cons s (suc (suc (suc o))) 0 (omega arith), drop-cons s (suc (suc (suc (suc o)))) 0 (omega arith), drop-cons s (suc (suc (suc (suc (suc o))))) 0 (omega arith), drop-cons s (suc (suc (suc (suc (suc (suc o)))))) 0 (omega arith), drop-cons s (suc (suc (suc (suc (suc (suc (suc o))))))) 0 (omega arith)))
