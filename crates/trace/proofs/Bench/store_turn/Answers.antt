use Rattle.trace.specs.Trace.{turned_by}
use Rattle.trace.proofs.Turned.{ended_by}
use Rattle.trace.proofs.Bench.store_turn.Goals as goal

pub returns : goal.returns
unfolding turned_by
returns c = ended_by _ _ _ _ _ c.words_of-p.ensures (rw c.store_bytes-bytes.ensures at c.store-answer.ensures) c.spent.ensures
