-- A wire's record: house fields from byte 0 of its block, tags strictly ascending, the rest zero (document 02, No. 1).
use Rattle.std.specs.Prelude.{◌≡◌, Bool, false, cond, List, [], ◌∷◌, ◌++◌, ℕ, ◌-◌, ◌<◌, length, replicate, Option, Some, None}
use Rattle.fields.specs.Fields.{big_endian, Field, fields_of}
use Rattle.records.specs.declared.Wire.{Wire}
use Rattle.records.specs.declared.Record.{Record}

-- one byte, 0 or 1
unfoldable pub flag : Bool → List ℕ
flag b = cond b 1 0 ∷ []

-- a field that must be there
abbrev pub must : ℕ → List ℕ → List Field
must tag value = record { tag = tag; value = value } ∷ []

-- a field that may be missing
unfoldable pub perhaps : ℕ → Option Bool → List Field
unfolding flag
perhaps tag None = []
perhaps tag (Some b) = must tag (flag b)

-- tag 1, two bytes: the loop current in hundredths of a milliampere; tag 2: the break latch; tag 3: under test
unfoldable pub fields_in : Record → List Field
unfolding flag perhaps big_endian
fields_in says = must 1 (big_endian 2 says.current) ++ must 2 (flag says.latch) ++ perhaps 3 says.test

-- a block: the fields, and zeros to its end
unfoldable pub encoded : Record → List ℕ
unfolding fields_of fields_in
encoded says = fields_of (fields_in says) ++ replicate (64 - length (fields_of (fields_in says))) 0

-- a block is a record where it is the encoding of one
pub record IsRecord (block : List ℕ) (says : Record) : Type 0 where
  pub two_bytes : says.current < 65536
  pub bytes : block ≡ encoded says

-- the writer lays all three
abbrev pub laid : Wire → Record
laid wire = record { current = wire.current; latch = wire.latch; test = Some wire.test }

unfoldable pub written : Wire → List ℕ
unfolding encoded
written wire = encoded (laid wire)

-- tag 3 may be missing and then means 0
abbrev pub under_test : Option Bool → Bool
under_test None = false
under_test (Some b) = b

abbrev pub wire_in : Record → Wire
wire_in says = record { current = says.current; latch = says.latch; test = under_test says.test }
