-- Classes over the limits of a sheet: a break never reads healthy, and what reads healthy.
use mathlib.Core.Path.{◌≡◌, refl, sym, ap, ◌∙◌}
use mathlib.Core.Logic.{◌≢◌, inl, inr}
use mathlib.Core.Bool.{Bool, true, false, cond}
use Prim.Native.Nat.{ℕ, ◌≤◌, ◌<◌}
use native.Mathlib.Omega.{arith}
use lib.Dec.{leb}
use borrow.Author.Tests.{leb-true, leb-false}
use Rattle.std.proofs.lemmas.Option.{none-some, same_Some}
use Rattle.words.proofs.Same.{false_is_true}
use Rattle.records.specs.declared.Wire.{Wire}
use Rattle.records.specs.declared.Class.{Class}
use Rattle.records.specs.declared.Class.TheVariants.{Break, Weak, Healthy, Short, Test}
use Rattle.records.specs.declared.Found.{Found}
use Rattle.std.specs.Prelude.{Option, Some}
use Rattle.records.specs.Records.{wire_in}
use Rattle.records.specs.Classes.{Sheet, first_sheet, class_in, class_of}
use Rattle.records.specs.Reading.{says_of, Reads, a_record, no_record}
use Rattle.records.specs.Promises.{Breaks, BreakNotHealthy, HealthyIs}

abbrev is_healthy : Class → Bool
is_healthy Break = false
is_healthy Weak = false
is_healthy Healthy = true
is_healthy Short = false
is_healthy Test = false

other_class : {class : Class} → is_healthy class ≡ false → class ≢ Healthy
other_class q e = false_is_true (sym q ∙ ap is_healthy e)

-- the limits between which a current is healthy
pub record Within (sheet : Sheet) (current : ℕ) : Type 0 where
  pub no_break : sheet.break < current
  pub not_weak : sheet.weak < current
  pub not_short : current ≤ sheet.healthy

within : (sheet : Sheet) (current : ℕ) → class_in sheet current ≡ Healthy → Within sheet current
unfolding class_in
within sheet current e = go (leb current sheet.break) refl (leb current sheet.weak) refl (leb current sheet.healthy) refl e
  where
    go : (a : Bool) → leb current sheet.break ≡ a → (b : Bool) → leb current sheet.weak ≡ b → (c : Bool) → leb current sheet.healthy ≡ c
        → cond a Break (cond b Weak (cond c Healthy Short)) ≡ Healthy → Within sheet current
    go true p b q c r e = absurd (other_class refl e)
    go false p true q c r e = absurd (other_class refl e)
    go false p false q false r e = absurd (other_class refl e)
    go false p false q true r e = record { no_break = leb-false _ _ p; not_weak = leb-false _ _ q; not_short = leb-true _ _ r }

-- a healthy wire has no latch, is not under test and is within the limits
pub record IsHealthy (sheet : Sheet) (wire : Wire) : Type 0 where
  pub latch : wire.latch ≡ false
  pub test : wire.test ≡ false
  pub limits : Within sheet wire.current

pub healthy_is : (sheet : Sheet) (wire : Wire) → class_of sheet wire ≡ Healthy → IsHealthy sheet wire
unfolding class_of
healthy_is sheet wire e = go wire.latch refl wire.test refl e
  where
    go : (a : Bool) → wire.latch ≡ a → (b : Bool) → wire.test ≡ b → cond a Break (cond b Test (class_in sheet wire.current)) ≡ Healthy → IsHealthy sheet wire
    go true p b q e = absurd (other_class refl e)
    go false p true q e = absurd (other_class refl e)
    go false p false q e = record { latch = p; test = q; limits = within sheet wire.current e }

pub break_not_healthy : BreakNotHealthy
unfolding BreakNotHealthy Breaks
break_not_healthy sheet wire (inl latched) e = false_is_true (sym (healthy_is sheet wire e).latch ∙ latched)
break_not_healthy sheet wire (inr low) e = omega (arith, low, (healthy_is sheet wire e).limits.no_break)

pub reads_healthy : HealthyIs
unfolding HealthyIs
reads_healthy block wire reads = go (Some (says_of wire Healthy)) reads refl
  where
    go : (r : Option Found) → Reads block r → r ≡ Some (says_of wire Healthy) → (wire.latch ≡ false) × (wire.test ≡ false) × (400 ≤ wire.current) × (wire.current ≤ 2000)
    go r (a_record says is) e =
        let found = same_Some _ _ e in
        let same : wire_in says ≡ wire = ap (λ (z : Found). z.wire) found in
        let class : class_of first_sheet (wire_in says) ≡ Healthy = ap (λ (z : Found). z.class) found in
        let h = healthy_is first_sheet wire (ap (class_of first_sheet) (sym same) ∙ class) in
        (h.latch, h.test, omega (arith, h.limits.not_weak), h.limits.not_short)
    go r (no_record none) e = absurd (none-some _ e)
