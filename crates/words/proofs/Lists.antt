-- Lists of stores laid: the length stays, words that no store changes stay, one list after another.
use mathlib.Core.Path.{◌≡◌, refl, sym, ◌∙◌, subst}
use mathlib.Core.Logic.{◌≢◌}
use mathlib.Core.List.{List, [], ◌∷◌, ◌++◌}
use Prim.Native.Nat.{ℕ, ◌+◌, ◌*◌, ◌≤◌}
use native.Mathlib.Decide.{ℕ_discrete}
use lib.ListN.{length}
use Rattle.words.specs.Words.{word, put, Store, lay}
use Rattle.words.proofs.All.{All, also, all_map}
use Rattle.words.proofs.Puts.{length-put, word_put_same, word_put_other}

-- a store of eight bytes inside a memory of n bytes
pub record Fit (n : ℕ) (s : Store) : Type 0 where
  pub room : 8 * s.place + 8 ≤ n
  pub eight : length s.bytes ≡ 8

pub lay-length : (stores : List Store) (memory : List ℕ) → All (Fit (length memory)) stores → length (lay stores memory) ≡ length memory
unfolding lay
lay-length [] memory a = refl
lay-length (s ∷ ss) memory (also a az) =
    let e : length (put memory s.place s.bytes) ≡ length memory = length-put memory s.place s.bytes a.room a.eight in
    lay-length ss (put memory s.place s.bytes) (subst (λ (n : ℕ). All (Fit n) ss) (sym e) az) ∙ e

pub lay-append : (xs ys : List Store) (memory : List ℕ) → lay (xs ++ ys) memory ≡ lay ys (lay xs memory)
unfolding lay
lay-append [] ys memory = refl
lay-append (x ∷ xs) ys memory = lay-append xs ys (put memory x.place x.bytes)

-- a list of stores that gives a word of P nothing but what memory has there leaves the words of P as they are in memory
unfoldable pub Harmless : (ℕ → Type 0) → List ℕ → Store → Type 0
Harmless P memory s = P s.place → s.bytes ≡ word memory s.place

one_put : (P : ℕ → Type 0) (memory : List ℕ) (s : Store) → Fit (length memory) s → Harmless P memory s → (j : ℕ) → P j → word (put memory s.place s.bytes) j ≡ word memory j
unfolding Harmless
one_put P memory s f h j p = go (ℕ_discrete j s.place)
  where
    go : Dec (j ≡ s.place) → word (put memory s.place s.bytes) j ≡ word memory j
    go (yes e) = rw e (word_put_same memory s.place s.bytes f.room f.eight ∙ h (subst P e p))
    go (no ne) = word_put_other memory s.place j s.bytes f.room f.eight ne

pub harmless : (P : ℕ → Type 0) (stores : List Store) (memory : List ℕ)
    → All (Fit (length memory)) stores → All (Harmless P memory) stores → (j : ℕ) → P j → word (lay stores memory) j ≡ word memory j
unfolding lay Harmless
harmless P [] memory f h j p = refl
harmless P (s ∷ ss) memory (also f fs) (also h hs) j p =
    let memory' : List ℕ = put memory s.place s.bytes in
    let e : length memory' ≡ length memory = length-put memory s.place s.bytes f.room f.eight in
    harmless P ss memory' (subst (λ (n : ℕ). All (Fit n) ss) (sym e) fs)
    (all_map (λ t ht q. ht q ∙ sym (one_put P memory s f h t.place q)) hs) j p
    ∙ one_put P memory s f h j p

unfoldable pub Misses : ℕ → Store → Type 0
Misses j s = s.place ≢ j

pub untouched : (stores : List Store) (memory : List ℕ) (j : ℕ) → All (Fit (length memory)) stores → All (Misses j) stores → word (lay stores memory) j ≡ word memory j
unfolding Misses Harmless
untouched stores memory j f o = harmless (λ k. k ≡ j) stores memory f (all_map (λ s ne e. absurd (ne e)) o) j refl
