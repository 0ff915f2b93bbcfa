use Rattle.codec.specs.Supposed.{supposed}
use Rattle.codec.proofs.record_in.Goals as goal

pub returns : goal.returns
unfolding supposed
returns c = rw (c.number_in.ensures.0, c.number_in-2.ensures.0, c.registers_in.ensures, c.backup_for.ensures, c.from.ensures, c.phase_fields_in.ensures.0, c.phase_fields_in.ensures.1)
