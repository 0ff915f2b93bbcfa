use Rattle.door.proofs.Through as T
use Rattle.door.specs.Doors as D
use Rattle.codec.specs.Supposed.{supposed}
use Rattle.rules.specs.Calls as C
use lib.Dec.{eqb}
use lib.ListN.{length}
use mathlib.Core.Bool.{not}
use mathlib.Core.Path.{refl, sym}
use Rattle.door.proofs.rostimely_recover.Goals as goal

pub recover-recovery-requires : goal.recover-recovery-requires
recover-recovery-requires c = let a = c.args in T.kept_whole (not (eqb (length a.record_bytes.now) 90)) (D.sized a.blocks a.slots) (length a.memory.now) (length a.cache.now) (length a.table.now) c.in-Ok.ensures.0

pub returns-in-Err : goal.returns-in-Err
unfolding D.early D.no_record D.sizes_for
returns-in-Err c =
    let a = c.args in
    λ p. rw (T.refused_early p (D.lent_of a.memory.now a.cache.now a.table.now a.record_bytes.now) (C.recover (D.sized a.blocks a.slots)) (sym c.in-Err.ensures) (T.early_not_0 c.in-Err.early)) (T.recovers_nothing (D.lent_of a.memory.now a.cache.now a.table.now a.record_bytes.now) c.from.ensures)

pub returns-in-Ok : goal.returns-in-Ok
unfolding D.early D.no_record D.sizes_for
returns-in-Ok c =
    let a = c.args in
    λ p. rw (T.goes_on p (D.lent_of a.memory.now a.cache.now a.table.now a.record_bytes.now) (C.recover (D.sized a.blocks a.slots)) refl c.in-Ok.ensures.0)
    (T.recovers_by p (D.lent_of a.memory.now a.cache.now a.table.now a.record_bytes.now) (supposed a.record_bytes.now) (C.recover (D.sized a.blocks a.slots)) (rw (c.record_in-controller.ensures, c.in-Ok.ensures.1) at (c.recover-recovery.ensures p)) c.leave-number.ensures.0 c.leave-number.ensures.1 c.registers_flag.ensures)
