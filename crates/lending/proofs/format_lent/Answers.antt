use mathlib.Core.Path.{refl}
use Rattle.rules.specs.Calls.{format}
use Rattle.lending.proofs.Lent.{lent_done, stays}
use Rattle.lending.proofs.format_lent.Goals as goal

pub returns : goal.returns
returns c =
    let a = c.args in
    lent_done a.p a.memory.now a.cache.now a.table.now a.controller a.g c.lent_memory.ensures.0 c.lent_cache.ensures.0 c.lent_table.ensures.0 (format a.g a.fill) c.format.ensures refl (stays c.lent_cache.result _) refl
