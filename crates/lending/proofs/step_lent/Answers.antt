use mathlib.Core.Path.{refl}
use Rattle.rules.specs.Calls.{step}
use Rattle.lending.proofs.Lent.{lent_done, stays}
use Rattle.lending.proofs.step_lent.Goals as goal

pub returns : goal.returns
returns c =
    let a = c.args in
    lent_done a.p a.memory.now a.cache.now a.table.now a.controller a.controller.geometry c.lent_memory.ensures.0 c.lent_cache.ensures.0 c.lent_table.ensures.0 (step a.most) c.step.ensures refl (stays c.lent_cache.result _) (stays c.lent_table.result _)
