use Rattle.door.proofs.Through as T
use Rattle.door.specs.Doors as D
use Rattle.codec.specs.Supposed.{supposed, is_record}
use Rattle.rules.specs.Calls as C
use mathlib.Core.Bool.{not}
use lib.ListN.{length}
use mathlib.Core.Path.{refl, sym}
use Rattle.door.proofs.rostimely_load.Goals as goal

pub returns-in-Err : goal.returns-in-Err
unfolding D.early D.no_record D.sizes_for
returns-in-Err c =
    let a = c.args in
    rw (T.refused_early 0 (D.lent_of a.memory.now a.cache.now a.table.now a.record_bytes.now) (C.load a.block a.offset (length a.into.now)) (sym c.in-Err.ensures) (T.early_not_0 c.in-Err.early)) (T.loads_nothing (D.lent_of a.memory.now a.cache.now a.table.now a.record_bytes.now) a.into.now (T.early_not_0 c.in-Err.early) c.from-in-Err.ensures)

pub load-number-requires : goal.load-number-requires
load-number-requires c = let a = c.args in T.kept_whole (not (is_record a.record_bytes.now)) (supposed a.record_bytes.now).geometry (length a.memory.now) (length a.cache.now) (length a.table.now) c.in-Ok.ensures.0

pub returns-in-Ok : goal.returns-in-Ok
unfolding D.early D.no_record D.sizes_for
returns-in-Ok c =
    let a = c.args in
    rw (T.goes_on 0 (D.lent_of a.memory.now a.cache.now a.table.now a.record_bytes.now) (C.load a.block a.offset (length a.into.now)) refl c.in-Ok.ensures.0)
    (T.loads_by (D.lent_of a.memory.now a.cache.now a.table.now a.record_bytes.now) (supposed a.record_bytes.now) a.block a.offset (rw c.in-Ok.ensures.1 at c.load-number.ensures) (rw c.from.ensures))
