use mathlib.Core.Path.{refl}
use Rattle.rules.specs.Calls.{store}
use Rattle.lending.proofs.Lent.{lent_done}
use Rattle.lending.proofs.store_lent.Goals as goal

pub returns : goal.returns
returns c =
    let a = c.args in
    lent_done a.p a.memory.now a.cache.now a.table.now a.controller a.controller.geometry c.lent_memory.ensures.0 c.lent_cache.ensures.0 c.lent_table.ensures.0 (store a.block a.offset a.bytes.now) c.store.ensures refl refl refl
