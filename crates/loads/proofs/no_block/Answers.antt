use Rattle.loads.proofs.Laws.{no_block_is}
use Rattle.loads.proofs.no_block.Goals as goal

pub returns : goal.returns
returns c = λ board e. no_block_is c.args.g board c.args.block e
