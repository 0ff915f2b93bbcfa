use Rattle.tabled.proofs.Tables.{recovered_by}
use Rattle.rules.specs.Calls as C
use lib.ListN.{length}
use Rattle.tabled.proofs.recover.Goals as goal

pub returns : goal.returns
returns c =
    let a = c.args in
    λ p. recovered_by a.memory.now a.cache.now a.table.now a.controller (length a.words.now) c.requires c.read_table.ensures.0 p (C.recover a.g) (c.recover-recovery.ensures p) c.write_back.ensures
