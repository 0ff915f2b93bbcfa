use mathlib.Core.Path.{refl}
use Rattle.rules.specs.Calls.{recover}
use Rattle.lending.proofs.Lent.{lent_recovered, stays}
use Rattle.lending.proofs.recover_lent.Goals as goal

pub returns : goal.returns
returns c =
    let a = c.args in
    lent_recovered 0 a.memory.now a.cache.now a.table.now a.controller a.controller.geometry c.lent_memory.ensures.0 c.lent_cache.ensures.0 c.lent_table.ensures.0 (recover a.controller.geometry) (c.recover.ensures 0) (stays c.lent_memory.result _) (stays c.lent_cache.result _) refl
