use Rattle.lending.proofs.Lent.{lent_load}
use Rattle.lending.proofs.Arrays.load.Goals as goal

pub returns : goal.returns
returns c =
    let a = c.args in
    lent_load a.self.now.memory a.self.now.cache a.self.now.table a.controller a.controller.geometry c.lent_memory.ensures.0 c.lent_cache.ensures.0 c.lent_table.ensures.0 a.block a.offset a.into.now _ _ c.load.ensures
