use Rattle.door.proofs.Sizes.{record_ninety}
use mathlib.Core.Path.{sym, ◌∙◌}
use Rattle.door.proofs.early.kept_record.Goals as goal

pub record_in-controller-requires : goal.record_in-controller-requires
record_in-controller-requires c = record_ninety c.args.record_bytes.now (sym c.is_record.ensures ∙ c.if-not-is_record.false)
