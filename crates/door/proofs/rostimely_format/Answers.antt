use Rattle.door.proofs.Through as T
use Rattle.door.specs.Doors as D
use Rattle.codec.specs.Supposed.{supposed}
use Rattle.rules.specs.Calls as C
use mathlib.Core.Bool.{not}
use lib.ListN.{length}
use mathlib.Core.Path.{refl, sym, ◌∙◌}
use Rattle.door.proofs.rostimely_format.Goals as goal

pub returns-in-Err : goal.returns-in-Err
unfolding D.early D.no_record D.sizes_for
returns-in-Err c =
    let a = c.args in
    T.refused_early a.p (D.lent_of a.memory.now a.cache.now a.table.now a.record_bytes.now) (C.format (D.sized a.blocks a.slots) a.fill) (sym (rw c.is_record-formed.ensures at c.in-Err.ensures)) (T.early_not_0 c.in-Err.early) ∙ rw c.from.ensures

pub record_in-controller-requires : goal.record_in-controller-requires
record_in-controller-requires c = T.kept_ninety c.args.record_bytes.now _ (rw c.is_record-formed.ensures at c.in-Ok.ensures.0)

pub format-answer-requires : goal.format-answer-requires
format-answer-requires c = let a = c.args in T.kept_whole (not c.is_record-formed.result) (D.sized a.blocks a.slots) (length a.memory.now) (length a.cache.now) (length a.table.now) c.in-Ok.ensures.0

pub leave-requires : goal.leave-requires
leave-requires c = T.kept_ninety c.args.record_bytes.now _ (rw c.is_record-formed.ensures at c.in-Ok.ensures.0)

pub returns-in-Ok : goal.returns-in-Ok
unfolding D.early D.no_record D.sizes_for
returns-in-Ok c =
    let a = c.args in
    T.goes_on a.p (D.lent_of a.memory.now a.cache.now a.table.now a.record_bytes.now) (C.format (D.sized a.blocks a.slots) a.fill) refl (rw c.is_record-formed.ensures at c.in-Ok.ensures.0)
    ∙ T.left_by_lem a.p (D.lent_of a.memory.now a.cache.now a.table.now a.record_bytes.now) (supposed a.record_bytes.now) (C.format (D.sized a.blocks a.slots) a.fill) (rw (c.record_in-controller.ensures, c.in-Ok.ensures.1) at c.format-answer.ensures) c.leave.ensures.0 c.leave.ensures.1
