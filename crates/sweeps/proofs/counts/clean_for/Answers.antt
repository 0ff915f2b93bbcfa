use native.Mathlib.Omega.{arith}
use Rattle.sweeps.proofs.Entries.{one_counted, none_counted}
use Rattle.sweeps.proofs.counts.clean_for.Goals as goal

pub returns-then-word-eq1 : goal.returns-then-word-eq1
returns-then-word-eq1 c = (omega arith, one_counted _ c.if-word-eq1.true)

pub returns-else-word-eq1 : goal.returns-else-word-eq1
returns-else-word-eq1 c = (omega arith, none_counted _ c.if-word-eq1.false)
