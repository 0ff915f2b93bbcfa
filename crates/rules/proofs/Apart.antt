-- Tables that name no block twice.
use mathlib.Core.Path.{◌≡◌, refl, sym, ap, ◌∙◌, subst}
use mathlib.Core.Logic.{◌≢◌}
use mathlib.Core.Bool.{true, ◌&&◌}
use mathlib.Core.List.{List, [], ◌∷◌}
use Prim.Native.Nat.{ℕ, zero, suc, ◌<◌}
use native.Mathlib.Omega.{arith}
use lib.ListN.{length, get_or, set}
use Rattle.std.specs.Prelude.{Option, Some, None}
use Rattle.rules.specs.declared.State.{State}
use Rattle.rules.specs.declared.Entry.{Entry}
use Rattle.rules.specs.TableWords.{entry_at, Says, free, names, neither, says, lookup, is_nothing, new_to, distinct}
use Rattle.rules.proofs.Clashes.{false_true, and_left, and_right}
use Rattle.rules.proofs.Finding.{Skips, skip_names, Finds, top, deep, pass, finds, finds_lookup, not_found, set_other}

pub data Apart : List ℕ → Type 0 where
  empty : Apart []
  onto : {word : ℕ} {table : List ℕ} → ((block : ℕ) (state : State) → says word ≡ names block state → Finds block table None) → Apart table → Apart (word ∷ table)

-- at most one slot names a block
pub apart_at : {block slot : ℕ} {table : List ℕ} {state : State} → Apart table → Finds block table (entry_at slot state) → (i : ℕ) → i ≢ slot → Skips block (get_or table i 0)
apart_at (onto u a) (top e) zero ne = absurd (ne refl)
apart_at {block} (onto u a) (top {state = state} e) (suc i) ne = not_found i (u block state e)
apart_at (onto u a) (deep s r) zero ne = s
apart_at (onto u a) (deep s r) (suc i) ne = apart_at a r i (λ q. ne (ap suc q))
apart_at {block = block} {slot = slot} {state = state} empty x5 i ne = elim x5 [ ]

-- a word that stands in a slot is the one that is found
pub apart_finds : {table : List ℕ} (block slot : ℕ) (state : State) → Apart table → slot < length table → says (get_or table slot 0) ≡ names block state
    → Finds block table (entry_at slot state)
apart_finds block slot state empty h e = absurd (omega arith)
apart_finds block zero state (onto u a) h e = top e
apart_finds block (suc slot) state (onto {word = word} u a) h e =
    deep (record { never = λ d q. (not_found slot (u block d q)).never state e }) (apart_finds block slot state a (omega arith) e)

-- ---- changed at a slot

-- a word below the changed slot names a block that is nowhere above it, still
clear_above : {block : ℕ} {table : List ℕ} (below slot word : ℕ) (next : State) → says word ≡ names block next → Skips block below
    → ((k : ℕ) (state : State) → says below ≡ names k state → Finds k table None)
    → (k : ℕ) (state : State) → says below ≡ names k state → Finds k (set table slot word) None
clear_above {block} below slot word next e s u k state q =
    set_other slot word (u k state q) (not_found slot (u k state q))
    (skip_names k word block next e (λ z. s.never state (q ∙ ap (λ (n : ℕ). names n state) (sym z))))

renamed : {block k : ℕ} {table : List ℕ} (word : ℕ) (next state : State) → says word ≡ names block next → says word ≡ names k state
    → Finds block table None → Finds k table None
renamed {block} {k} {table} word next state e q l = let z : block ≡ k = cc in subst (λ (n : ℕ). Finds n table None) z l

pub apart_same : {block slot : ℕ} {table : List ℕ} {state : State} (word : ℕ) (next : State) → Apart table → Finds block table (entry_at slot state)
    → says word ≡ names block next → Apart (set table slot word)
apart_same {block} word next (onto u a) (top {state = state} e) q = onto (λ k c q'. renamed word next c q q' (u block state e)) a
apart_same {slot = suc slot} word next (onto {word = below} u a) (deep s r) q = onto (clear_above below slot word next q s u) (apart_same word next a r q)
apart_same {block = block} {slot = slot} {state = state} word next empty x5 q = elim x5 [ ]

pub apart_new : {block : ℕ} {table : List ℕ} (slot word : ℕ) (next : State) → Apart table → Finds block table None → slot < length table
    → says word ≡ names block next → Apart (set table slot word)
apart_new slot word next empty l h q = absurd (omega arith)
apart_new zero word next (onto u a) (pass s r) h q = onto (λ k c q'. renamed word next c q q' r) a
apart_new (suc slot) word next (onto {word = below} u a) (pass s r) h q =
    onto (clear_above below slot word next q s u) (apart_new slot word next a r (omega arith) q)

-- ---- the test

pub distinct_apart : (table : List ℕ) → distinct table ≡ true → Apart table
unfolding distinct new_to is_nothing
distinct_apart [] e = empty
distinct_apart (word ∷ table) e =
    onto (λ k state q. found_none k (ap (new_to table) (sym q) ∙ and_left (new_to table (says word)) (distinct table) e))
    (distinct_apart table (and_right (new_to table (says word)) (distinct table) e))
  where
    found_none : (k : ℕ) → is_nothing (lookup k table) ≡ true → Finds k table None
    found_none k q = go (lookup k table) (finds k table) q
      where
        go : (r : Option Entry) → Finds k table r → is_nothing r ≡ true → Finds k table None
        go (Some entry) l z = absurd (false_true z)
        go None l z = l

pub apart_distinct : (table : List ℕ) → Apart table → distinct table ≡ true
unfolding distinct new_to is_nothing
apart_distinct [] a = refl
apart_distinct (word ∷ table) (onto u a) = go (says word) refl (apart_distinct table a)
  where
    go : (x : Says) → says word ≡ x → distinct table ≡ true → new_to table x && distinct table ≡ true
    go free q d = d
    go neither q d = d
    go (names k state) q d = rw (finds_lookup (u k state q)) d
