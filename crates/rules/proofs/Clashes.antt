-- Values that differ, and tests that hold: what follows from an equation between them.
use mathlib.Core.Path.{◌≡◌, refl, sym}
use mathlib.Core.Logic.{◌⊎◌, inl, inr}
use mathlib.Core.Bool.{Bool, true, false, ◌&&◌, ◌||◌}
use Prim.Native.Nat.{ℕ}
use native.Mathlib.Omega.{arith}
use Rattle.std.specs.Prelude.{Some, None}
use Rattle.rules.specs.declared.State.{State}
use Rattle.rules.specs.TableWords.{entry_at, free, names, neither}

pub false_true : false ≡ true → ⊥
false_true e = let z : ◌≡◌ {A = ℕ} 0 1 = cc in omega arith

pub none_some : {A : Type 0} (x : A) → None ≡ Some x → ⊥
none_some x e = let z : ◌≡◌ {A = ℕ} 0 1 = cc in omega arith

pub none_slot : (slot : ℕ) → None ≡ Some slot → ⊥
none_slot slot e = let z : ◌≡◌ {A = ℕ} 0 1 = cc in omega arith

pub nothing_entry : (slot : ℕ) (state : State) → None ≡ entry_at slot state → ⊥
nothing_entry slot state e = let z : ◌≡◌ {A = ℕ} 0 1 = cc in omega arith

pub free_names : (block : ℕ) (state : State) → free ≡ names block state → ⊥
free_names block state e = let z : ◌≡◌ {A = ℕ} 0 1 = cc in omega arith

pub neither_names : (block : ℕ) (state : State) → neither ≡ names block state → ⊥
neither_names block state e = let z : ◌≡◌ {A = ℕ} 0 1 = cc in omega arith

pub neither_free : neither ≡ free → ⊥
neither_free e = let z : ◌≡◌ {A = ℕ} 0 1 = cc in omega arith

-- ---- tests

pub and_left : (a b : Bool) → a && b ≡ true → a ≡ true
and_left true b e = refl
and_left false b e = e

pub and_right : (a b : Bool) → a && b ≡ true → b ≡ true
and_right true b e = e
and_right false b e = absurd (false_true e)

pub or_false : (a b : Bool) → a || b ≡ false → (a ≡ false) × (b ≡ false)
or_false true b e = absurd (false_true (sym e))
or_false false b e = (refl, e)

pub or_true : (a b : Bool) → a || b ≡ true → (a ≡ true) ⊎ (b ≡ true)
or_true true b e = inl refl
or_true false b e = inr e

pub or_left : (a b : Bool) → a ≡ true → a || b ≡ true
or_left a b e = rw e

pub or_right : (a b : Bool) → b ≡ true → a || b ≡ true
or_right true b e = refl
or_right false b e = e
