use Rattle.checks.proofs.Walking.{has_state, state_is}
use Rattle.checks.proofs.table.state_of.Goals as goal

pub unwrap-requires : goal.unwrap-requires
unwrap-requires c = has_state c.args.code _ c.try_from.ensures c.requires.0 c.requires.1

pub returns : goal.returns
returns c = state_is c.args.code _ _ c.try_from.ensures c.unwrap.ensures
