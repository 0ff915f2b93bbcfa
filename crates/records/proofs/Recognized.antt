-- The ends of reading a block: a record, or none.
use mathlib.Core.Path.{◌≡◌, sym, ap, ◌∙◌, subst}
use mathlib.Core.Logic.{◌≢◌}
use mathlib.Core.List.{List}
use Prim.Native.Nat.{ℕ, ◌<◌}
use Rattle.records.specs.declared.Wire.{Wire}
use Rattle.records.specs.declared.Record.{Record}
use Rattle.records.specs.declared.Class.{Class}
use Rattle.std.specs.Prelude.{Some, None}
use Rattle.records.specs.Records.{encoded, wire_in}
use Rattle.records.specs.Classes.{first_sheet, class_of}
use Rattle.records.specs.Reading.{says_of, Reads, a_record, no_record}
use Rattle.records.specs.Supposed.{supposed}
use Rattle.records.proofs.Encoding.{is_supposed}

module _ (block : List ℕ) (says : Record) (own : says ≡ supposed block) where
  -- a block that isn't the encoding of what it is supposed to be is no encoding at all
  pub reads_none : block ≢ encoded says → Reads block None
  reads_none ne = no_record (λ found is. ne (is.bytes ∙ ap encoded (sym (own ∙ is_supposed is))))

  pub reads_record : block ≡ encoded says → says.current < 65536 → (wire : Wire) (class : Class) → wire ≡ wire_in says → class ≡ class_of first_sheet wire
      → Reads block (Some (says_of wire class))
  reads_record e h wire class w c =
      subst (λ (z : Class). Reads block (Some (says_of wire z))) (sym c)
      (subst (λ (z : Wire). Reads block (Some (says_of z (class_of first_sheet z)))) (sym w) (a_record says (record { two_bytes = h; bytes = e })))
