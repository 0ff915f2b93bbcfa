-- Words that all hold one byte.
use mathlib.Core.Path.{◌≡◌, refl, sym, ap, ◌∙◌, subst}
use mathlib.Core.List.{List, [], ◌∷◌, ◌++◌, append-nil}
use Prim.Native.Nat.{ℕ, zero, suc, ◌+◌, ◌*◌, ◌-◌, ◌≤◌, min}
use native.Mathlib.Omega.{arith}
use native.Mathlib.Nat.{zero-add, not-suc-le-zero}
use lib.ListN.{length, replicate, length-replicate, length-drop, take, drop}
use lib.Seq.{drop-drop, take-take, length-take-le}
use borrow.Rule.Slice.PartMut.{put_mid}
use Rattle.std.proofs.lemmas.Slice.{put_mid-paste}
use Rattle.words.specs.Words.{word, words, fill_to, number, numbers, Lays}
use Rattle.words.proofs.All.{All}
use Rattle.words.proofs.Rising.{Held}
use Rattle.words.proofs.Makers.{words_part, held_bytes}
use Rattle.words.proofs.Laying.{lays_fill}

pub held_fill : (memory : List ℕ) (n place fill : ℕ) → All (Held memory) (fill_to place n fill) → words memory place n ≡ replicate (8 * n) fill
unfolding fill_to
held_fill memory n place fill h = held_bytes memory n place (replicate (8 * n) fill) (length-replicate (8 * n) fill) h

take-replicate : (n k fill : ℕ) → n ≤ k → take n (replicate k fill) ≡ replicate n fill
take-replicate zero k fill h = refl
take-replicate (suc n) zero fill h = absurd (not-suc-le-zero h)
take-replicate (suc n) (suc k) fill h = ap (λ (xs : List ℕ). fill ∷ xs) (take-replicate n k fill (omega arith))

drop-replicate : (n k fill : ℕ) → drop n (replicate (n + k) fill) ≡ replicate k fill
drop-replicate zero k fill = rw (zero-add k)
drop-replicate (suc n) k fill = let e : suc n + k ≡ suc (n + k) = omega arith in rw e (drop-replicate n k fill)

-- as many words filled with one byte as the allowance leaves lay the run
pub lays_filled : (p n place k fill : ℕ) (memory part : List ℕ) → 8 * (place + n) ≤ length memory → k ≡ 8 * min p n
    → part ≡ replicate (length (take k (drop (8 * place) memory))) fill → Lays p (fill_to place n fill) memory (put_mid (8 * place) k memory part) n
lays_filled p n place k fill memory part h e f =
    let whole : length (take k (drop (8 * place) memory)) ≡ k = length-take-le k (drop (8 * place) memory) (simp length-drop (omega arith)) in
    lays_fill p n place k fill memory h e
    (put_mid-paste (8 * place) k memory part (replicate k fill) k (f ∙ ap (λ (z : ℕ). replicate z fill) whole) refl (sym (length-replicate k fill))
    ∙ ap (λ (z : List ℕ). take (8 * place) memory ++ z ++ drop (8 * place + k) memory) (take-replicate k k fill (omega arith) ∙ sym (take-replicate k (8 * n) fill (omega arith))))

-- some words of a memory that holds one byte
pub part_filled : (memory : List ℕ) (place n fill : ℕ) → words memory place n ≡ replicate (8 * n) fill
    → (start k : ℕ) → start + k ≤ n → words memory (place + start) k ≡ replicate (8 * k) fill
part_filled memory place n fill e start k h =
    let rest : ℕ = n - (start + k) in
    let a : 8 * (place + start) ≡ 8 * place + 8 * start = omega arith in
    let b : 8 * n ≡ 8 * start + (8 * n - 8 * start) = omega arith in
    let f : take (8 * n) (drop (8 * place) memory) ≡ replicate (8 * n) fill = sym (words_part memory n place) ∙ e in
    words_part memory k (place + start)
    ∙ ap (λ (z : ℕ). take (8 * k) (drop z memory)) a
    ∙ ap (take (8 * k)) (sym (drop-drop (8 * start) (8 * place) memory))
    ∙ sym (take-drop (8 * start) (8 * k) (8 * n) (drop (8 * place) memory) (omega arith))
    ∙ ap (λ (z : List ℕ). take (8 * k) (drop (8 * start) z)) (f ∙ ap (λ (z : ℕ). replicate z fill) b)
    ∙ ap (take (8 * k)) (drop-replicate (8 * start) (8 * n - 8 * start) fill)
    ∙ take-replicate (8 * k) (8 * n - 8 * start) fill (omega arith)
  where
    take-drop : (a b c : ℕ) (l : List ℕ) → a + b ≤ c → take b (drop a (take c l)) ≡ take b (drop a l)
    take-drop zero b c l h = take-take b c l (omega arith)
    take-drop (suc a) b zero l h = absurd (omega arith)
    take-drop (suc a) b (suc c) [] h = refl
    take-drop (suc a) b (suc c) (x ∷ l) h = take-drop a b c l (omega arith)

pub numbers_filled : (memory : List ℕ) (n place : ℕ) → words memory place n ≡ replicate (8 * n) 0 → numbers memory place n ≡ replicate n 0
unfolding numbers number words word
numbers_filled memory zero place e = refl
numbers_filled memory (suc n) place e =
    let one : word memory place ≡ replicate 8 0 = first (part_filled memory place (suc n) 0 e 0 1 (omega arith)) in
    let rest : words memory (suc place) n ≡ replicate (8 * n) 0 =
    subst (λ (z : ℕ). words memory z n ≡ replicate (8 * n) 0) (let z : place + 1 ≡ suc place = omega arith in z) (part_filled memory place (suc n) 0 e 1 n (omega arith))
    in
    rw (one, numbers_filled memory n (suc place) rest)
  where
    first : words memory (place + 0) 1 ≡ replicate (8 * 1) 0 → word memory place ≡ replicate 8 0
    first h = sym (append-nil (word memory place)) ∙ subst (λ (z : ℕ). words memory z 1 ≡ replicate 8 0) (let z : place + 0 ≡ place = omega arith in z) h
