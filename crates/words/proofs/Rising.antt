-- Lists of stores whose places rise: what they store stands in the memory after them.
use mathlib.Core.Path.{◌≡◌, sym, ◌∙◌, subst}
use mathlib.Core.List.{List, [], ◌∷◌, ◌++◌}
use Prim.Native.Nat.{ℕ, zero, suc, ◌≤◌, ◌<◌}
use native.Mathlib.Omega.{arith}
use lib.ListN.{length, take, drop}
use Rattle.words.specs.Words.{word, put, Store, lay}
use Rattle.words.proofs.All.{All, done, also, all_take, all_drop, all_append, all_map, all_both}
use Rattle.words.proofs.Puts.{length-put, word_put_same}
use Rattle.words.proofs.Lists.{Fit, Misses, untouched}

-- the words of a store stand in the memory
unfoldable pub Held : List ℕ → Store → Type 0
Held memory s = word memory s.place ≡ s.bytes

-- places that rise, from i on
pub data Rising : ℕ → List Store → Type 0 where
  flat : {i : ℕ} → Rising i []
  up : {i : ℕ} {s : Store} {ss : List Store} → i ≤ s.place → Rising (suc s.place) ss → Rising i (s ∷ ss)

pub rising_from : {i j : ℕ} {stores : List Store} → j ≤ i → Rising i stores → Rising j stores
rising_from h flat = flat
rising_from {i} {j} h (up {s = s} a r) = up {i = j} {s = s} (omega arith) r

unfoldable pub From : ℕ → Store → Type 0
From i s = i ≤ s.place

pub rising_all : {i : ℕ} {stores : List Store} → Rising i stores → All (From i) stores
unfolding From
rising_all flat = done
rising_all {i} (up {s = s} a r) = also a (all_map (λ t h. omega arith) (rising_all r))

pub rising_drop : {i : ℕ} {stores : List Store} (p : ℕ) → Rising i stores → Rising i (drop p stores)
rising_drop zero r = r
rising_drop (suc p) flat = flat
rising_drop {i} (suc p) (up {s = s} a r) = rising_drop p (rising_from {i = suc s.place} {j = i} (omega arith) r)

pub rising_take : {i : ℕ} {stores : List Store} (p : ℕ) → Rising i stores → Rising i (take p stores)
rising_take zero r = flat
rising_take (suc p) flat = flat
rising_take (suc p) (up a r) = up a (rising_take p r)

-- what a rising list stores stands in the memory after it
pub rising_held : (stores : List Store) {i : ℕ} (memory : List ℕ) → All (Fit (length memory)) stores → Rising i stores → All (Held (lay stores memory)) stores
unfolding lay Held Misses From
rising_held [] memory f r = done
rising_held (s ∷ ss) memory (also f fs) (up a r) =
    let memory' : List ℕ = put memory s.place s.bytes in
    let e : length memory' ≡ length memory = length-put memory s.place s.bytes f.room f.eight in
    let fs' : All (Fit (length memory')) ss = subst (λ (n : ℕ). All (Fit n) ss) (sym e) fs in
    also
    (untouched ss memory' s.place fs' (all_map (λ t h. λ q. let h' : suc s.place ≤ t.place = h in omega arith) (rising_all r))
    ∙ word_put_same memory s.place s.bytes f.room f.eight)
    (rising_held ss memory' fs' r)

-- places from a on and before b
pub record In (a b : ℕ) (s : Store) : Type 0 where
  pub low : a ≤ s.place
  pub high : s.place < b

pub in_wider : {a b c d : ℕ} {stores : List Store} → c ≤ a → b ≤ d → All (In a b) stores → All (In c d) stores
in_wider h k = all_map (λ s x. record { low = omega arith; high = omega arith })

pub record Below (j : ℕ) (s : Store) : Type 0 where
  pub under : s.place < j

pub in_below : {a b j : ℕ} {stores : List Store} → b ≤ j → All (In a b) stores → All (Below j) stores
in_below h = all_map (λ s i. record { under = omega arith })

pub rising_append : {i j : ℕ} {xs ys : List Store} → i ≤ j → Rising i xs → All (Below j) xs → Rising j ys → Rising i (xs ++ ys)
rising_append h flat a r = rising_from h r
rising_append h (up l r) (also a az) q = up l (rising_append a.under r az q)

-- what stands before the cut lies below what comes behind it
pub rising_apart : {i : ℕ} {stores : List Store} (c : ℕ) → Rising i stores → All (λ s. All (Misses s.place) (drop c stores)) (take c stores)
unfolding Misses From
rising_apart zero r = done
rising_apart (suc c) flat = done
rising_apart (suc c) (up {s = s} {ss = ss} l r) =
    also (all_drop c (all_map (λ t h. λ (e : t.place ≡ s.place). let h' : suc s.place ≤ t.place = h in omega arith) (rising_all r))) (rising_apart c r)

-- the words stored so far, and the next ones
pub held_more : (stores : List Store) {i : ℕ} (c n : ℕ) (memory : List ℕ) → All (Fit (length memory)) stores → Rising i stores → All (Held memory) (take c stores)
    → All (Held (lay (take n (drop c stores)) memory)) (take c stores ++ take n (drop c stores))
unfolding Held
held_more stores c n memory f r h =
    let xs : List Store = take n (drop c stores) in
    let fx : All (Fit (length memory)) xs = all_take n (all_drop c f) in
    all_append
    (all_both (λ s o e. untouched xs memory s.place fx (all_take n o) ∙ e) (rising_apart c r) h)
    (rising_held xs memory fx (rising_take n (rising_drop c r)))
