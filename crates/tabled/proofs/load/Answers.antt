use Rattle.tabled.proofs.Tables.{loaded_by}
use lib.ListN.{length}
use Rattle.tabled.proofs.load.Goals as goal

pub returns : goal.returns
returns c =
    let a = c.args in
    loaded_by a.memory.now a.cache.now a.table.now a.controller (length a.words.now) c.requires c.read_table.ensures.0 c.load.ensures
