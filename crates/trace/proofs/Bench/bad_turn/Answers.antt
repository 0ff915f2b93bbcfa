use mathlib.Core.Path.{refl}
use Rattle.trace.specs.Trace.{turned_by}
use Rattle.trace.proofs.Bench.bad_turn.Goals as goal

pub returns : goal.returns
unfolding turned_by
returns c = λ value. record { puts = c.put_bad.ensures.0; room = c.put_bad.ensures.1; goes = refl; bench = refl }
