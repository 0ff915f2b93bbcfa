use native.Mathlib.Omega.{arith}
use Rattle.lending.proofs.Sizes.{first_length}
use Rattle.trace.proofs.Turned.{load_as}
use Rattle.trace.proofs.Bench.load_turn.Goals as goal

pub returns : goal.returns
returns c = λ value. load_as _ _ value _ _ (first_length c.args.len _ (omega arith)) (c.load_into.ensures value)
