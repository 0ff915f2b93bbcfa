use Rattle.tabled.proofs.Tables.{tabled_by}
use Rattle.rules.specs.Calls as C
use lib.ListN.{length}
use Rattle.tabled.proofs.format.Goals as goal

pub returns : goal.returns
returns c =
    let a = c.args in
    tabled_by a.memory.now a.cache.now a.table.now a.controller (length a.words.now) c.requires c.read_table.ensures.0 a.p (C.format a.g a.fill) c.format-answer.ensures c.write_back.ensures
