-- The lowest free slot.
use mathlib.Core.Path.{◌≡◌, refl, sym, ◌∙◌}
use mathlib.Core.Logic.{◌≢◌}
use mathlib.Core.List.{List, [], ◌∷◌}
use Rattle.std.specs.Prelude.{Option, Some, None}
use Prim.Native.Nat.{ℕ, zero, suc, ◌<◌}
use native.Mathlib.Omega.{arith}
use native.Mathlib.Nat.{not-suc-le-zero}
use lib.ListN.{length, get_or}
use Rattle.words.proofs.All.{All, done, also}
use Rattle.rules.specs.TableWords.{Says, free, names, neither, says, slot_on, free_by, lowest_free}
use Rattle.rules.proofs.Clashes.{free_names, neither_free}

-- a free slot, with none free below it
pub data Vacant : List ℕ → ℕ → Type 0 where
  hit : {word : ℕ} {table : List ℕ} → says word ≡ free → Vacant (word ∷ table) zero
  on : {word slot : ℕ} {table : List ℕ} → says word ≢ free → Vacant table slot → Vacant (word ∷ table) (suc slot)

-- the lowest free slot, or none at all
abbrev pub VacantAt : List ℕ → Option ℕ → Type 0
VacantAt table None = All (λ w. says w ≢ free) table
VacantAt table (Some slot) = Vacant table slot

pub vacant : (table : List ℕ) → VacantAt table (lowest_free table)
unfolding lowest_free free_by slot_on
vacant [] = done
vacant (word ∷ table) = go (says word) refl (lowest_free table) (vacant table)
  where
    under : (x : Says) → says word ≡ x → x ≢ free → (o : Option ℕ) → VacantAt table o → VacantAt (word ∷ table) (slot_on o)
    under x q ne None v = also (λ e. ne (sym q ∙ e)) v
    under x q ne (Some slot) v = on (λ e. ne (sym q ∙ e)) v

    go : (x : Says) → says word ≡ x → (o : Option ℕ) → VacantAt table o → VacantAt (word ∷ table) (free_by x o)
    go free q o v = hit q
    go (names k state) q o v = under (names k state) q (λ e. free_names k state (sym e)) o v
    go neither q o v = under neither q neither_free o v

pub vacant_at : {table : List ℕ} {slot : ℕ} → Vacant table slot → says (get_or table slot 0) ≡ free
vacant_at (hit e) = e
vacant_at (on ne v) = vacant_at v

pub vacant_lt : {table : List ℕ} {slot : ℕ} → Vacant table slot → slot < length table
vacant_lt (hit {table = table} e) = omega arith
vacant_lt (on ne v) = let h = vacant_lt v in omega arith

pub vacant_below : {table : List ℕ} {slot : ℕ} → Vacant table slot → (lower : ℕ) → lower < slot → says (get_or table lower 0) ≢ free
vacant_below (hit e) lower h = absurd (not-suc-le-zero h)
vacant_below (on ne v) zero h = ne
vacant_below (on ne v) (suc lower) h = vacant_below v lower (omega arith)
