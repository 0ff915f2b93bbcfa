-- One block has one reading; what is written reads back; zeros or fill read as no record.
use mathlib.Core.Path.{◌≡◌, refl, ap, ◌∙◌}
use mathlib.Core.Bool.{Bool}
use mathlib.Core.List.{List}
use Prim.Native.Nat.{ℕ}
use native.Mathlib.Omega.{arith}
use lib.ListN.{get_or}
use Rattle.fields.specs.Fields.{big_endian, field, fields_of}
use Rattle.records.specs.declared.Record.{Record}
use Rattle.std.specs.Prelude.{Option, Some}
use Rattle.records.specs.Records.{flag, perhaps, fields_in, encoded, laid, written, wire_in}
use Rattle.records.specs.Classes.{first_sheet, class_of}
use Rattle.records.specs.Reading.{says_of, a_record, no_record}
use Rattle.records.specs.Promises.{OneReading, RoundTrip, FillIsNone}
use Rattle.records.proofs.Encoding.{record_one}

pub one_reading : OneReading
unfolding OneReading
one_reading block r s (a_record one is) (a_record two is') = ap (λ (z : Record). Some (says_of (wire_in z) (class_of first_sheet (wire_in z)))) (record_one is is')
one_reading block r s (a_record one is) (no_record none) = absurd (none one is)
one_reading block r s (no_record none) (a_record two is') = absurd (none two is')
one_reading block r s (no_record none) (no_record none') = refl

pub round_trip : RoundTrip
unfolding RoundTrip written
round_trip wire h = a_record (laid wire) (record { two_bytes = h; bytes = refl })

-- the first two bytes of an encoding, 1 and 0, differ
first : (current : ℕ) (latch : Bool) (test : Option Bool) → get_or (encoded (record { current = current; latch = latch; test = test })) 0 0 ≡ 1
unfolding encoded fields_in perhaps flag fields_of field big_endian
first current latch test = refl

second : (current : ℕ) (latch : Bool) (test : Option Bool) → get_or (encoded (record { current = current; latch = latch; test = test })) 1 0 ≡ 0
unfolding encoded fields_in perhaps flag fields_of field big_endian
second current latch test = refl

pub fill_is_none : FillIsNone
unfolding FillIsNone
fill_is_none fill = no_record (λ says is.
    let one : fill ≡ 1 = ap (λ (z : List ℕ). get_or z 0 0) is.bytes ∙ first says.current says.latch says.test in
    let none : fill ≡ 0 = ap (λ (z : List ℕ). get_or z 1 0) is.bytes ∙ second says.current says.latch says.test in
    omega (arith, one, none))
