-- The class of a wire, over the limits of a rule sheet (document 02, No. 1).
use Rattle.std.specs.Prelude.{cond, List, ℕ, leb, codes}
use Rattle.records.specs.declared.Wire.{Wire}
use Rattle.records.specs.declared.Class.{Class}
use Rattle.records.specs.declared.Class.TheVariants.{Break, Weak, Healthy, Short, Test}

-- a sheet: the highest current of each class but the last, in hundredths of a milliampere
pub record Sheet : Type 0 where
  pub break : ℕ
  pub weak : ℕ
  pub healthy : ℕ

-- 0 to 199 break, 200 to 399 weak, 400 to 2,000 healthy, above that short
abbrev pub first_sheet : Sheet
first_sheet = record { break = 199; weak = 399; healthy = 2000 }

unfoldable pub class_in : Sheet → ℕ → Class
class_in sheet current =
    cond (leb current sheet.break) Break
    (cond (leb current sheet.weak) Weak
    (cond (leb current sheet.healthy) Healthy
    Short))

-- a class by its name
abbrev pub class_name : Class → List ℕ
class_name Break = codes "break"
class_name Weak = codes "weak"
class_name Healthy = codes "healthy"
class_name Short = codes "short"
class_name Test = codes "test"

-- a latch of 1 reads break; else tag 3 at 1 reads test
unfoldable pub class_of : Sheet → Wire → Class
unfolding class_in
class_of sheet wire = cond wire.latch Break (cond wire.test Test (class_in sheet wire.current))
