use Rattle.codec.specs.Places.{has_fields}
use Rattle.codec.proofs.has_fields.Goals as goal

pub returns : goal.returns
unfolding has_fields
returns c = rw (c.begins_at.ensures, c.begins_at-2.ensures, c.begins_at-3.ensures, c.begins_at-4.ensures, c.begins_at-5.ensures, c.begins_at-6.ensures)
