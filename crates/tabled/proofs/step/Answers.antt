use Rattle.tabled.proofs.Tables.{tabled_by, bytes_stay}
use Rattle.tabled.specs.Tabled.{changes}
use Rattle.rules.specs.Calls as C
use lib.ListN.{length}
use Rattle.tabled.proofs.step.Goals as goal

pub returns : goal.returns
returns c =
    let a = c.args in
    tabled_by a.memory.now a.cache.now a.table.now a.controller (length a.words.now) c.requires c.read_table.ensures.0 a.p (C.step a.most) c.step.ensures (bytes_stay (changes c.step.result.number) c.read_table.new.table c.read_table.ensures.1)
