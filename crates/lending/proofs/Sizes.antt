-- The sizes that the arrays hold, and the lengths that are lent.
use mathlib.Core.Path.{◌≡◌, sym, ap}
use mathlib.Core.Bool.{Bool, true, false, cond}
use mathlib.Core.List.{List}
use Prim.Native.Nat.{ℕ, ◌≤◌}
use lib.Dec.{leb}
use lib.ListN.{length, take}
use lib.Seq.{length-take-le}
use borrow.Author.Tests.{leb-true}
use Rattle.rules.specs.declared.Geometry.{Geometry}
use Rattle.rules.proofs.Clashes.{and_left, and_right}
use Rattle.lending.specs.Lending.{fits}

pub fits_sizes : (g : Geometry) → fits g ≡ true → (g.blocks ≤ 64) × (g.slots ≤ 16)
unfolding fits
fits_sizes g e =
    let x = leb g.blocks 64 in
    let y = leb g.slots 16 in
    (leb-true g.blocks 64 (and_left x y e), leb-true g.slots 16 (and_right x y e))

-- what is lent where the sizes fit, and where they don't
pub some_lent : {fit : Bool} (n : ℕ) → fit ≡ true → n ≡ cond fit n 0
some_lent n e = sym (ap (λ (b : Bool). cond b n 0) e)

pub none_lent : {fit : Bool} (n : ℕ) → fit ≡ false → 0 ≡ cond fit n 0
none_lent n e = sym (ap (λ (b : Bool). cond b n 0) e)

pub first_length : (n : ℕ) (l : List ℕ) → n ≤ length l → length (take n l) ≡ n
first_length n l h = length-take-le n l h
