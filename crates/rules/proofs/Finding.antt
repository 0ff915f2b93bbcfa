-- Lookup as a relation, and lookup in a table that is changed at one slot.
use mathlib.Core.Path.{◌≡◌, refl, sym, ap, ◌∙◌}
use mathlib.Core.Logic.{◌≢◌}
use mathlib.Core.Bool.{Bool, true, false, cond}
use mathlib.Core.List.{List, [], ◌∷◌}
use Prim.Native.Nat.{ℕ, zero, suc, ◌<◌}
use native.Mathlib.Omega.{arith}
use lib.Dec.{eqb}
use lib.ListN.{length, get_or, set}
use borrow.Author.Tests.{eqb-true, eqb-false, eq-eqb, ne_eqb}
use Rattle.std.specs.Prelude.{Option, Some, None}
use Rattle.rules.specs.declared.State.{State}
use Rattle.rules.specs.declared.Entry.{Entry}
use Rattle.rules.specs.TableWords.{entry_at, Says, free, names, neither, says, one_on, lookup_by, lookup}
use Rattle.rules.proofs.Clashes.{free_names, neither_names}
use Rattle.rules.proofs.TableWordLaws.{says_zero}

-- the word does not name the block
pub record Skips (block word : ℕ) : Type 0 where
  pub never : (state : State) → says word ≢ names block state

-- what is found in a table: every slot below the one that is given does not name the block
pub data Finds (block : ℕ) : List ℕ → Option Entry → Type 0 where
  end : Finds block [] None
  top : {word : ℕ} {table : List ℕ} {state : State} → says word ≡ names block state → Finds block (word ∷ table) (entry_at zero state)
  deep : {word slot : ℕ} {table : List ℕ} {state : State} → Skips block word → Finds block table (entry_at slot state) → Finds block (word ∷ table) (entry_at (suc slot) state)
  pass : {word : ℕ} {table : List ℕ} → Skips block word → Finds block table None → Finds block (word ∷ table) None

pub skip_free : (block word : ℕ) → says word ≡ free → Skips block word
skip_free block word e = record { never = λ state q. free_names block state (sym e ∙ q) }

pub skip_neither : (block word : ℕ) → says word ≡ neither → Skips block word
skip_neither block word e = record { never = λ state q. neither_names block state (sym e ∙ q) }

pub skip_names : (block word k : ℕ) (state : State) → says word ≡ names k state → k ≢ block → Skips block word
skip_names block word k state e ne = record { never = λ c q. ne (cc) }

-- ---- the relation is the function

finds_under : {block word : ℕ} {table : List ℕ} (r : Option Entry) → Skips block word → Finds block table r → Finds block (word ∷ table) (one_on r)
unfolding one_on
finds_under (Some entry) s l = deep s l
finds_under None s l = pass s l

pub finds : (block : ℕ) (table : List ℕ) → Finds block table (lookup block table)
unfolding lookup
finds block [] = end
finds block (word ∷ table) = go (says word) refl (finds block table)
  where
    split : (k : ℕ) (state : State) → says word ≡ names k state → Finds block table (lookup block table) → (b : Bool) → eqb k block ≡ b
        → Finds block (word ∷ table) (cond b (entry_at 0 state) (one_on (lookup block table)))
    split k state e r true q = top (e ∙ ap (λ (n : ℕ). names n state) (eqb-true k block q))
    split k state e r false q = finds_under (lookup block table) (skip_names block word k state e (eqb-false k block q)) r

    go : (x : Says) → says word ≡ x → Finds block table (lookup block table) → Finds block (word ∷ table) (lookup_by block x (lookup block table))
    go free e r = finds_under (lookup block table) (skip_free block word e) r
    go neither e r = finds_under (lookup block table) (skip_neither block word e) r
    go (names k state) e r = split k state e r (eqb k block) refl

lookup_skip : (block word : ℕ) (table : List ℕ) → Skips block word → lookup block (word ∷ table) ≡ one_on (lookup block table)
unfolding lookup lookup_by
lookup_skip block word table s = go (says word) refl
  where
    go : (x : Says) → says word ≡ x → lookup_by block x (lookup block table) ≡ one_on (lookup block table)
    go free e = refl
    go neither e = refl
    go (names k state) e = rw (ne_eqb k block (λ q. s.never state (e ∙ ap (λ (n : ℕ). names n state) q)))

lookup_top : (block word : ℕ) (table : List ℕ) (state : State) → says word ≡ names block state → lookup block (word ∷ table) ≡ entry_at 0 state
unfolding lookup lookup_by
lookup_top block word table state e = ap (λ (x : Says). lookup_by block x (lookup block table)) e ∙ (rw (eq-eqb block block refl))

pub finds_lookup : {block : ℕ} {table : List ℕ} {r : Option Entry} → Finds block table r → lookup block table ≡ r
unfolding lookup one_on
finds_lookup end = refl
finds_lookup {block} (top {word = word} {table = table} {state = state} e) = lookup_top block word table state e
finds_lookup {block} (deep {word = word} {table = table} s r) = lookup_skip block word table s ∙ ap one_on (finds_lookup r)
finds_lookup {block} (pass {word = word} {table = table} s r) = lookup_skip block word table s ∙ ap one_on (finds_lookup r)

-- ---- what is found, and what is not

pub found_at : {block slot : ℕ} {table : List ℕ} {state : State} → Finds block table (entry_at slot state) → says (get_or table slot 0) ≡ names block state
found_at (top e) = e
found_at (deep s r) = found_at r

pub found_lt : {block slot : ℕ} {table : List ℕ} {state : State} → Finds block table (entry_at slot state) → slot < length table
found_lt (top {table = table} e) = omega arith
found_lt (deep s r) = let h = found_lt r in omega arith

-- every slot below the one that lookup gives does not name the block
pub found_lowest : {block slot : ℕ} {table : List ℕ} {state : State} → Finds block table (entry_at slot state) → (i : ℕ) → i < slot → Skips block (get_or table i 0)
found_lowest (top e) i h = absurd (omega arith)
found_lowest (deep s r) zero h = s
found_lowest (deep s r) (suc i) h = found_lowest r i (omega arith)

pub not_found : {block : ℕ} {table : List ℕ} (slot : ℕ) → Finds block table None → Skips block (get_or table slot 0)
not_found {block} slot end = skip_free block 0 says_zero
not_found zero (pass s r) = s
not_found (suc slot) (pass s r) = not_found slot r

-- the other way: a search that passed the slots below finds the entry, and one that passed all finds nothing
pub finds_here : (block : ℕ) (table : List ℕ) (slot : ℕ) (state : State) → slot < length table → ((i : ℕ) → i < slot → Skips block (get_or table i 0))
    → says (get_or table slot 0) ≡ names block state → Finds block table (entry_at slot state)
finds_here block [] slot state h s e = absurd (omega arith)
finds_here block (word ∷ table) zero state h s e = top e
finds_here block (word ∷ table) (suc slot) state h s e =
    deep (s 0 (omega arith)) (finds_here block table slot state (omega arith) (λ i l. s (suc i) (omega arith)) e)

pub finds_nothing : (block : ℕ) (table : List ℕ) → ((i : ℕ) → i < length table → Skips block (get_or table i 0)) → Finds block table None
finds_nothing block [] s = end
finds_nothing block (word ∷ table) s = pass (s 0 (omega arith)) (finds_nothing block table (λ i l. s (suc i) (omega arith)))

-- ---- a table changed at a slot

pub set_same : {block slot : ℕ} {table : List ℕ} {state : State} (word : ℕ) (next : State) → Finds block table (entry_at slot state)
    → says word ≡ names block next → Finds block (set table slot word) (entry_at slot next)
set_same word next (top a) e = top e
set_same word next (deep s r) e = deep s (set_same word next r e)

pub set_new : {block : ℕ} {table : List ℕ} (slot word : ℕ) (next : State) → Finds block table None → slot < length table
    → says word ≡ names block next → Finds block (set table slot word) (entry_at slot next)
set_new slot word next end h e = absurd (omega arith)
set_new zero word next (pass s r) h e = top e
set_new (suc slot) word next (pass s r) h e = deep s (set_new slot word next r (omega arith) e)

pub set_other : {block : ℕ} {table : List ℕ} {r : Option Entry} (slot word : ℕ) → Finds block table r → Skips block (get_or table slot 0) → Skips block word
    → Finds block (set table slot word) r
set_other slot word end o s = end
set_other zero word (top {state = state} a) o s = absurd (o.never state a)
set_other (suc slot) word (top a) o s = top a
set_other zero word (deep n r) o s = deep s r
set_other (suc slot) word (deep n r) o s = deep n (set_other slot word r o s)
set_other zero word (pass n r) o s = pass s r
set_other (suc slot) word (pass n r) o s = pass n (set_other slot word r o s)
