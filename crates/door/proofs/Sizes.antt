-- The numbers 1 and 2 of a door: what is known where they are not given, and sizes too large for two bytes.
use mathlib.Core.Path.{◌≡◌, refl}
use mathlib.Core.Bool.{Bool, true, false, ◌&&◌, cond}
use mathlib.Core.List.{List}
use Prim.Native.Nat.{ℕ, ◌*◌, ◌/◌, ◌≤◌}
use native.Mathlib.Omega.{arith}
use lib.Dec.{eqb, leb}
use lib.ListN.{length}
use borrow.Author.Tests.{eqb-true, leb-true, not-false}
use Rattle.rules.specs.declared.Geometry.{Geometry}
use Rattle.rules.specs.Geometry.{memory_words}
use Rattle.rules.specs.Numbers.{number_of, outside}
use Rattle.rules.proofs.Clashes.{and_left, and_right}
use Rattle.codec.specs.Supposed.{is_record}
use Rattle.codec.proofs.Inverse.{record_is, ninety_only}
use Rattle.door.specs.Doors.{inexact, sizes_number}

pub record Bounds (g : Geometry) : Type 0 where
  pub blocks : g.blocks ≤ 4096
  pub slots : g.slots ≤ 512

within : (g : Geometry) → outside g ≡ false → Bounds g
unfolding outside
within g e =
    let w = leb 1 g.blocks in
    let x = leb g.blocks 4096 in
    let y = leb 1 g.slots in
    let z = leb g.slots 512 in
    let all : w && x && y && z ≡ true = not-false _ e in
    let three : w && x && y ≡ true = and_left (w && x && y) z all in
    record {
      blocks = leb-true g.blocks 4096 (and_right w x (and_left (w && x) y three));
      slots = leb-true g.slots 512 (and_right (w && x && y) z all);
    }

never_false : (b : Bool) → (b ≡ false → ⊥) → true ≡ b
never_false true f = refl
never_false false f = absurd (f refl)

-- sizes above the bounds
pub too_large : (g : Geometry) (memory cache table : ℕ) → (Bounds g → ⊥) → 1 ≡ sizes_number g memory cache table
unfolding sizes_number number_of
too_large g memory cache table f = rw (← never_false (outside g) (λ e. f (within g e)))

passes : (a b : Bool) → ◌≡◌ {A = ℕ} (cond a 1 (cond b 2 0)) 0 → (a ≡ false) × (b ≡ false)
passes true b e = absurd (omega (arith, e))
passes false true e = absurd (omega (arith, e))
passes false false e = (refl, refl)

-- sizes and lengths that are neither 1 nor 2
module _ (g : Geometry) (memory cache table : ℕ) (e : sizes_number g memory cache table ≡ 0) where
  both : (outside g ≡ false) × (inexact g memory cache table ≡ false)
  unfolding sizes_number number_of
  both = passes (outside g) (inexact g memory cache table) e

  pub in_bounds : Bounds g
  in_bounds = within g both.0

  pub whole_table : table ≡ 8 * g.slots
  unfolding inexact
  whole_table =
      eqb-true table (8 * g.slots)
      (and_right (eqb memory (8 * memory_words g) && eqb cache (64 * g.slots)) (eqb table (8 * g.slots)) (not-false _ both.1))

  -- whole words, of which no more than the bounds allow
  pub whole : (table ≡ 8 * (table / 8)) × (table ≤ 4096)
  whole = (omega (arith, whole_table), omega (arith, whole_table, in_bounds.slots))

-- a record's bytes are 90
pub record_ninety : (bytes : List ℕ) → is_record bytes ≡ true → length bytes ≡ 90
record_ninety bytes e = ninety_only bytes (record_is bytes e)
