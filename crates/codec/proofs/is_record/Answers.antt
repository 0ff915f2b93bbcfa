use Rattle.codec.proofs.Inverse.{tests_are, other_length}
use Rattle.codec.specs.Places.{tests_hold}
use native.Mathlib.Omega.{arith}
use mathlib.Core.Path.{◌∙◌}
use Rattle.codec.proofs.is_record.Goals as goal

pub returns-then-bytes-ne-RECORD_BYTES : goal.returns-then-bytes-ne-RECORD_BYTES
returns-then-bytes-ne-RECORD_BYTES c = other_length c.args.bytes.now c.if-bytes-ne-RECORD_BYTES.true

pub returns : goal.returns
unfolding tests_hold
returns c =
    let bytes = c.args.bytes.now in
    (rw (c.has_fields.ensures, c.is_backup.ensures, c.is_phase.ensures, c.phase_fields_in.ensures.0, c.phase_fields_in.ensures.1))
    ∙ tests_are bytes c.phase_fields_in.ensures.2 (omega arith)
