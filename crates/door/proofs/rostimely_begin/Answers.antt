use Rattle.door.proofs.Through as T
use Rattle.door.specs.Doors as D
use Rattle.codec.specs.Supposed.{supposed, is_record}
use Rattle.rules.specs.Calls as C
use mathlib.Core.Bool.{not}
use lib.ListN.{length}
use mathlib.Core.Path.{refl, sym, ◌∙◌}
use Rattle.door.proofs.rostimely_begin.Goals as goal

pub returns-in-Err : goal.returns-in-Err
unfolding D.early D.no_record D.sizes_for
returns-in-Err c =
    let a = c.args in
    T.refused_early a.p (D.lent_of a.memory.now a.cache.now a.table.now a.record_bytes.now) (C.begin a.registers.now) (sym c.in-Err.ensures) (T.early_not_0 c.in-Err.early) ∙ rw c.from.ensures

pub begin-answer-requires : goal.begin-answer-requires
begin-answer-requires c = let a = c.args in T.kept_whole (not (is_record a.record_bytes.now)) (supposed a.record_bytes.now).geometry (length a.memory.now) (length a.cache.now) (length a.table.now) c.in-Ok.ensures.0

pub leave-requires : goal.leave-requires
leave-requires c = T.kept_ninety c.args.record_bytes.now _ c.in-Ok.ensures.0

pub returns-in-Ok : goal.returns-in-Ok
unfolding D.early D.no_record D.sizes_for
returns-in-Ok c =
    let a = c.args in
    T.goes_on a.p (D.lent_of a.memory.now a.cache.now a.table.now a.record_bytes.now) (C.begin a.registers.now) refl c.in-Ok.ensures.0
    ∙ T.left_by_lem a.p (D.lent_of a.memory.now a.cache.now a.table.now a.record_bytes.now) (supposed a.record_bytes.now) (C.begin a.registers.now) (rw c.in-Ok.ensures.1 at c.begin-answer.ensures) c.leave.ensures.0 c.leave.ensures.1
