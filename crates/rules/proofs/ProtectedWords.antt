-- The protected words, as they are computed, are those of the board's way of saving.
use mathlib.Core.Path.{◌≡◌, refl, sym, ap, ◌∙◌, subst}
use mathlib.Core.Logic.{inl, inr, ◌↔◌}
use mathlib.Core.Bool.{Bool, true, ◌||◌}
use mathlib.Core.List.{List}
use Rattle.std.specs.Prelude.{Option, Some}
use Prim.Native.Nat.{ℕ, zero, suc, ◌+◌, ◌*◌, ◌≤◌, ◌<◌}
use native.Mathlib.Omega.{arith}
use native.Mathlib.Nat.{not-suc-le-zero}
use native.Mathlib.Decide.{ℕ_discrete}
use lib.Dec.{eqb, leb, ltb}
use borrow.Author.Tests.{eqb-true, eq-eqb, leb-true, le-leb, ltb-true, lt-ltb}
use Rattle.rules.specs.declared.Geometry.{Geometry}
use Rattle.rules.specs.declared.Backup.{Backup}
use Rattle.rules.specs.Geometry.{backup_start, backup_words, mark_start}
use Rattle.rules.specs.Starts.{finished_in, saved_registers, table_in, saved_block, within, saves_block, protected_by, is_protected}
use Rattle.rules.proofs.Clashes.{false_true, and_left, and_right, or_true, or_left, or_right}
use Rattle.rules.proofs.Protection.{Protected, reading, saving}
use Rattle.rules.proofs.Saving.{Head, head_from, head_of, Reads, the_mark, the_backup, scheme}

within_is : (start count place : ℕ) → within start count place ≡ true → (start ≤ place) × (place < start + count)
unfolding within
within_is start count place e =
    (leb-true start place (and_left (leb start place) (ltb place (start + count)) e), ltb-true place (start + count) (and_right (leb start place) (ltb place (start + count)) e))

is_within : (start count place : ℕ) → start ≤ place → place < start + count → within start count place ≡ true
unfolding within
is_within start count place lo hi = rw (le-leb start place lo, lt-ltb place (start + count) hi)

-- a word of the saved place of some block below n
pub record Saves (g : Geometry) (table : List ℕ) (n place : ℕ) : Type 0 where
  pub block : ℕ
  pub below : block < n
  pub low : 8 * saved_block g table block ≤ place
  pub high : place < 8 * saved_block g table block + 8

saves_some : (g : Geometry) (table : List ℕ) (n place : ℕ) → saves_block g table n place ≡ true → Saves g table n place
unfolding saves_block
saves_some g table zero place e = absurd (false_true e)
saves_some g table (suc n) place e =
    elim (or_true (within (8 * saved_block g table n) 8 place) (saves_block g table n place) e) [
      | inl h ↦ (let w = within_is (8 * saved_block g table n) 8 place h in record { block = n; below = omega arith; low = w.0; high = w.1 })
      | inr h ↦ (let r = saves_some g table n place h in record { block = r.block; below = omega (arith, r.below); low = r.low; high = r.high })
    ]

some_saves : (g : Geometry) (table : List ℕ) (n place : ℕ) → Saves g table n place → saves_block g table n place ≡ true
unfolding saves_block
some_saves g table zero place s = absurd (not-suc-le-zero s.below)
some_saves g table (suc n) place s =
    elim (ℕ_discrete s.block n) [
      | yes e ↦ or_left (within (8 * saved_block g table n) 8 place) (saves_block g table n place)
          (is_within (8 * saved_block g table n) 8 place (subst (λ (k : ℕ). 8 * saved_block g table k ≤ place) e s.low) (subst (λ (k : ℕ). place < 8 * saved_block g table k + 8) e s.high))
      | no ne ↦ or_right (within (8 * saved_block g table n) 8 place) (saves_block g table n place)
          (some_saves g table n place (record { block = s.block; below = omega (arith, s.below); low = s.low; high = s.high }))
    ]

pub protected_exactly : (g : Geometry) (memory : List ℕ) (backup : Backup) (place : ℕ) → finished_in g memory ≡ Some backup
    → (is_protected g memory place ≡ true) ↔ Protected (scheme g) memory place
unfolding is_protected protected_by scheme head_of head_from
protected_exactly g memory backup place e = (λ h. there (ap (λ (o : Option Backup). protected_by g memory o place) (sym e) ∙ h), λ p. ap (λ (o : Option Backup). protected_by g memory o place) e ∙ back p)
  where
    table : List ℕ
    table = table_in g memory backup

    mark : Bool
    mark = eqb place (mark_start g)

    inside : Bool
    inside = within (backup_start g backup) (backup_words g) place

    saves : Bool
    saves = saves_block g table g.blocks place

    head : Head
    head = record { finished = Some backup; registers = saved_registers g memory backup; table = table }

    head_eq : head_of g memory ≡ head
    head_eq = ap (head_from g memory) e

    table_eq : (head_of g memory).table ≡ table
    table_eq = ap (λ (h : Head). h.table) head_eq

    reads : Reads g head place → Protected (scheme g) memory place
    reads r = reading (subst (λ (h : Head). Reads g h place) (sym head_eq) r)

    in_backup : (start : ℕ) → start ≡ backup_start g backup → (start ≤ place) × (place < start + backup_words g) → Protected (scheme g) memory place
    in_backup start q w = reads (the_backup backup refl (subst (λ (n : ℕ). n ≤ place) q w.0) (subst (λ (n : ℕ). place < n + backup_words g) q w.1))

    there : mark || inside || saves ≡ true → Protected (scheme g) memory place
    there q =
        elim (or_true (mark || inside) saves q) [
          | inl h ↦ elim (or_true mark inside h)
              [ inl m ↦ reads (the_mark (eqb-true place (mark_start g) m)) | inr b ↦ in_backup (backup_start g backup) refl (within_is (backup_start g backup) (backup_words g) place b) ]
          | inr h ↦ (let s = saves_some g table g.blocks place h in
              saving s.block s.below (subst (λ (t : List ℕ). 8 * saved_block g t s.block ≤ place) (sym table_eq) s.low)
              (subst (λ (t : List ℕ). place < 8 * saved_block g t s.block + 8) (sym table_eq) s.high))
        ]

    read_back : Reads g head place → mark || inside || saves ≡ true
    read_back (the_mark q) = or_left (mark || inside) saves (or_left mark inside (eq-eqb place (mark_start g) q))
    read_back (the_backup x q lo hi) =
        let z : x ≡ backup = cc in
        or_left (mark || inside) saves
        (or_right mark inside
        (is_within (backup_start g backup) (backup_words g) place (subst (λ (y : Backup). backup_start g y ≤ place) z lo) (subst (λ (y : Backup). place < backup_start g y + backup_words g) z hi)))

    back : Protected (scheme g) memory place → mark || inside || saves ≡ true
    back (reading r) = read_back (subst (λ (h : Head). Reads g h place) head_eq r)
    back (saving block lt lo hi) =
        or_right (mark || inside) saves
        (some_saves g table g.blocks place
        (record {
          block = block;
          below = lt;
          low = subst (λ (t : List ℕ). 8 * saved_block g t block ≤ place) table_eq lo;
          high = subst (λ (t : List ℕ). place < 8 * saved_block g t block + 8) table_eq hi;
        }))
