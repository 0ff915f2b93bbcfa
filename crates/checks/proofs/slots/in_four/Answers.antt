use Rattle.checks.specs.Tables.{of_block}
use Rattle.checks.proofs.Walking.{among}
use Rattle.std.proofs.Common.{arith}
use Rattle.checks.proofs.slots.in_four.Goals as goal

pub returns : goal.returns
returns c = let a = c.args in among (of_block a.block) a.table.now a.slot 4 (omega arith) c.requires c.first_of.ensures
