use Rattle.backups.proofs.Opening.{mark_is}
use Rattle.backups.proofs.mark_in.Goals as goal

pub returns : goal.returns
returns c =
    let a = c.args in
    mark_is a.memory.now _ a.g _ c.mark_start-start.ensures c.number_at.ensures
