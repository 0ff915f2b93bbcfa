-- What is promised of records (document 02, No. 1). The proofs are in proofs/Blocks.antt and proofs/Limits.antt.
use Rattle.std.specs.Prelude.{◌≡◌, ◌≢◌, ◌⊎◌, true, false, List, ℕ, ◌≤◌, ◌<◌, replicate, Option, Some, None}
use Rattle.records.specs.declared.Wire.{Wire}
use Rattle.records.specs.declared.Class.TheVariants.{Healthy}
use Rattle.records.specs.declared.Found.{Found}
use Rattle.records.specs.Records.{written}
use Rattle.records.specs.Classes.{Sheet, first_sheet, class_of}
use Rattle.records.specs.Reading.{Reads, says_of}

-- ---- a block

-- one block, one reading
unfoldable pub OneReading : Type 0
OneReading = (block : List ℕ) (r s : Option Found) → Reads block r → Reads block s → r ≡ s

-- what the writer lays reads as what was written
unfoldable pub RoundTrip : Type 0
RoundTrip = (wire : Wire) → wire.current < 65536 → Reads (written wire) (Some (says_of wire (class_of first_sheet wire)))

-- a block of zeros or fill has no record
unfoldable pub FillIsNone : Type 0
FillIsNone = (fill : ℕ) → Reads (replicate 64 fill) None

-- ---- a break never reads healthy, under any sheet

unfoldable pub Breaks : Sheet → Wire → Type 0
Breaks sheet wire = (wire.latch ≡ true) ⊎ (wire.current ≤ sheet.break)

unfoldable pub BreakNotHealthy : Type 0
unfolding Breaks
BreakNotHealthy = (sheet : Sheet) (wire : Wire) → Breaks sheet wire → class_of sheet wire ≢ Healthy

-- what reads healthy has no latch, is not under test and carries 400 to 2,000
unfoldable pub HealthyIs : Type 0
HealthyIs =
    (block : List ℕ) (wire : Wire)
    → Reads block (Some (says_of wire Healthy))
    → (wire.latch ≡ false) × (wire.test ≡ false) × (400 ≤ wire.current) × (wire.current ≤ 2000)
