use Rattle.checks.proofs.Walking.{lowest_is}
use Rattle.checks.proofs.table.lowest_free.Goals as goal

pub returns : goal.returns
returns c = lowest_is c.args.table.now _ c.slot_of.ensures
