use Rattle.lines.proofs.Places.{puts_nothing}
use Rattle.codec.proofs.Parts.{puts_next, puts_all, length-encoded}
use Rattle.codec.specs.Encoding.{backup_byte, fields_in, encoded}
use Rattle.fields.specs.Fields.{big_endian, field, fields_of}
use Rattle.rules.specs.declared.Backup.{Backup}
use Rattle.rules.specs.declared.Backup.TheVariants.{A, B}
use Rattle.rules.specs.Checkpoints.{mark_of}
use lib.ListN.{length}
use mathlib.Core.Path.{◌≡◌, ◌∙◌, sym, refl}
use native.Mathlib.Omega.{arith}
use borrow.Author.Rules.{rules}
use Rattle.codec.proofs.put_record.Goals as goal

-- the finished backup's byte is the mark of a checkpoint that ends there
mark_byte : (backup : Backup) → mark_of backup ≡ backup_byte backup
mark_byte A = refl
mark_byte B = refl

pub returns : goal.returns
unfolding encoded fields_in fields_of field big_endian
returns c =
    let a = c.args in
    let e : length a.controller.registers ≡ 64 = search (rules, c.well_formed) in
    puts_all
    (puts_next 5 c.put_number_field.ensures refl
    (puts_next 10 c.put_number_field-2.ensures refl
    (puts_next 77 c.put_field.ensures (omega (arith, e))
    (puts_next 81 (rw (c.from.ensures, mark_byte a.controller.finished) at c.put_byte_field.ensures) refl
    (puts_next 85 (rw c.from-phase.ensures.0 at c.put_byte_field-2.ensures) refl
    (puts_next 90 (rw c.from-phase.ensures.1 at c.put_number_field-3.ensures) refl (puts_nothing _ 90)))))))
    (c.requires ∙ sym (length-encoded a.controller ∙ omega (arith, e)))
