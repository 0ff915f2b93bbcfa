use native.Mathlib.Omega.{arith}
use Rattle.moves.proofs.Touched.{touched_by}
use Rattle.moves.proofs.windows.touched.Goals as goal

pub returns : goal.returns
returns c = touched_by _ _ _ _ (omega arith) (omega arith)
