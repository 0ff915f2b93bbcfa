-- Tables changed word by word: each entry keeps its block and takes another state, or goes free.
use mathlib.Core.Path.{◌≡◌, refl, sym, ap, ◌∙◌}
use mathlib.Core.Bool.{Bool, true}
use mathlib.Core.List.{List, [], ◌∷◌, map}
use Prim.Native.Nat.{ℕ, zero, suc, ◌<◌}
use native.Mathlib.Omega.{arith}
use lib.ListN.{get_or-map, length, get_or, set}
use Rattle.std.specs.Prelude.{Option, Some, None}
use Rattle.words.proofs.All.{All, done, also}
use Rattle.rules.specs.declared.State.{State}
use Rattle.rules.specs.declared.Entry.{Entry}
use Rattle.rules.specs.TableWords.{entry_at, Says, free, names, neither, says, entry_or, changed_by, changed, every}
use Rattle.rules.proofs.Clashes.{free_names, and_left, and_right}
use Rattle.rules.proofs.TableWordLaws.{says_word, says_zero}
use Rattle.rules.proofs.Finding.{Skips, skip_free, Finds, end, top, deep, pass}
use Rattle.rules.proofs.Apart.{Apart, empty, onto}

-- what a lookup finds after the change
unfoldable pub found_or : ℕ → Option State → Option Entry
found_or slot None = None
found_or slot (Some state) = entry_at slot state

unfoldable pub found : (State → Option State) → Option Entry → Option Entry
unfolding found_or
found next (Some entry) = found_or entry.slot (next entry.state)
found next None = None

unfoldable pub says_or : ℕ → Option State → Says
says_or block None = free
says_or block (Some state) = names block state

module _ (next : State → Option State) where
  -- an entry that is changed says its block and its next state, or that it is free
  pub changed_names : (word block : ℕ) (state : State) → says word ≡ names block state → says (changed next word) ≡ says_or block (next state)
  unfolding changed changed_by entry_or says_or
  changed_names word block state e = ap (λ (x : Says). says (changed_by next x)) e ∙ go (next state)
    where
      go : (o : Option State) → says (entry_or block o) ≡ says_or block o
      go None = refl
      go (Some s) = says_word block s

  -- and so an entry after the change was an entry for its block before
  changed_back : (word block : ℕ) (state : State) → says (changed next word) ≡ names block state → (before : State) × (says word ≡ names block before)
  unfolding changed changed_by says_or
  changed_back word block state e = go (says word) refl
    where
      same : (k : ℕ) (o : Option State) → says_or k o ≡ names block state → k ≡ block
      same k None q = absurd (free_names block state q)
      same k (Some s) q = cc

      go : (x : Says) → says word ≡ x → (before : State) × (says word ≡ names block before)
      go free q = absurd (free_names block state (sym says_zero ∙ ap (λ (x : Says). says (changed_by next x)) (sym q) ∙ e))
      go neither q = absurd (free_names block state (sym says_zero ∙ ap (λ (x : Says). says (changed_by next x)) (sym q) ∙ e))
      go (names k before) q = (before, q ∙ ap (λ (n : ℕ). names n before) (same k (next before) (sym (changed_names word k before q) ∙ e)))

  changed_skip : (block word : ℕ) → Skips block word → Skips block (changed next word)
  changed_skip block word s = record { never = λ state e. let b = changed_back word block state e in s.never b.0 b.1 }

  pub changed_finds : {block : ℕ} {table : List ℕ} {r : Option Entry} → Apart table → Finds block table r → Finds block (map (changed next) table) (found next r)
  unfolding found found_or says_or
  changed_finds empty end = end
  changed_finds {block} (onto {table = table} u a) (top {word = word} {state = state} e) =
      go (next state) (changed_names word block state e) (changed_finds a (u block state e))
    where
      go : (o : Option State) → says (changed next word) ≡ says_or block o → Finds block (map (changed next) table) None
          → Finds block (changed next word ∷ map (changed next) table) (found_or 0 o)
      go None q r = pass (skip_free block (changed next word) q) r
      go (Some s) q r = top q
  changed_finds {block} (onto {table = table} u a) (deep {word = word} {slot = slot} {state = state} s r) = go (next state) (changed_finds a r)
    where
      go : (o : Option State) → Finds block (map (changed next) table) (found_or slot o)
          → Finds block (changed next word ∷ map (changed next) table) (found_or (suc slot) o)
      go None r' = pass (changed_skip block word s) r'
      go (Some d) r' = deep (changed_skip block word s) r'
  changed_finds {block} (onto u a) (pass {word = word} s r) = pass (changed_skip block word s) (changed_finds a r)

  pub changed_apart : {table : List ℕ} → Apart table → Apart (map (changed next) table)
  unfolding found
  changed_apart empty = empty
  changed_apart (onto {word = word} u a) =
      onto (λ block state e. let b = changed_back word block state e in changed_finds a (u block b.0 b.1)) (changed_apart a)

  -- ---- the words themselves

  pub changed_zero : changed next 0 ≡ 0
  unfolding changed changed_by says
  changed_zero = refl

  pub changed_free : (word : ℕ) → says word ≡ free → changed next word ≡ 0
  unfolding changed changed_by
  changed_free word e = ap (changed_by next) e

  pub changed_entry : (word block : ℕ) (state : State) → says word ≡ names block state → changed next word ≡ entry_or block (next state)
  unfolding changed changed_by
  changed_entry word block state e = ap (changed_by next) e

  pub changed_get : (table : List ℕ) (slot : ℕ) → get_or (map (changed next) table) slot 0 ≡ changed next (get_or table slot 0)
  changed_get table slot = rw changed_zero at (get_or-map (changed next) table slot 0)

-- ---- a property of every word of a table

pub every_all : (test : ℕ → Bool) (table : List ℕ) → every test table ≡ true → All (λ w. test w ≡ true) table
unfolding every
every_all test [] e = done
every_all test (word ∷ table) e =
    also (and_left (test word) (every test table) e) (every_all test table (and_right (test word) (every test table) e))

pub all_every : (test : ℕ → Bool) (table : List ℕ) → All (λ w. test w ≡ true) table → every test table ≡ true
unfolding every
all_every test [] a = refl
all_every test (word ∷ table) (also a az) = rw (a, all_every test table az)

pub all_set : {P : ℕ → Type 0} {table : List ℕ} (slot word : ℕ) → All P table → P word → All P (set table slot word)
all_set slot word done p = done
all_set zero word (also a az) p = also p az
all_set (suc slot) word (also a az) p = also a (all_set slot word az p)

pub all_over : {P Q : ℕ → Type 0} {table : List ℕ} (f : ℕ → ℕ) (h : (w : ℕ) → P w → Q (f w)) → All P table → All Q (map f table)
all_over f h done = done
all_over f h (also {x = w} a az) = also (h w a) (all_over f h az)

pub all_get : {P : ℕ → Type 0} {table : List ℕ} (slot : ℕ) → All P table → slot < length table → P (get_or table slot 0)
all_get slot done h = absurd (omega arith)
all_get zero (also a az) h = a
all_get (suc slot) (also a az) h = all_get slot az (omega arith)
