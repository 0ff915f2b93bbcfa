-- What a block reads as (document 02, No. 1).
use Rattle.std.specs.Prelude.{List, ℕ, Option, Some, None}
use Rattle.records.specs.declared.Record.{Record}
use Rattle.records.specs.declared.Found.{Found}
use Rattle.records.specs.declared.Wire.{Wire}
use Rattle.records.specs.declared.Class.{Class}
use Rattle.records.specs.Records.{IsRecord, wire_in}
use Rattle.records.specs.Classes.{first_sheet, class_of}

-- what a record says, with the class of its wire
abbrev pub says_of : Wire → Class → Found
says_of wire class = record { wire = wire; class = class }

-- a block reads as its record, or as none
pub data Reads (block : List ℕ) : Option Found → Type 0 where
  a_record : (says : Record) → IsRecord block says → Reads block (Some (says_of (wire_in says) (class_of first_sheet (wire_in says))))
  no_record : ((says : Record) → IsRecord block says → ⊥) → Reads block None
