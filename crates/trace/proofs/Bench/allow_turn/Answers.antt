use Rattle.trace.proofs.Turned.{allowed_as}
use Rattle.trace.proofs.Bench.allow_turn.Goals as goal

pub returns : goal.returns
returns c = λ value. allowed_as _ _ c.args.self.now value c.refused-answer.ensures c.ended.ensures
