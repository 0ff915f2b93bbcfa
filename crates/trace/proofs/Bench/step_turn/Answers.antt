use Rattle.trace.specs.Trace.{turned_by}
use Rattle.trace.proofs.Turned.{ended_by}
use Rattle.trace.proofs.Bench.step_turn.Goals as goal

pub returns : goal.returns
unfolding turned_by
returns c = λ value. ended_by _ _ _ _ _ c.words_of-p.ensures c.step-answer.ensures.outcome c.spent.ensures
