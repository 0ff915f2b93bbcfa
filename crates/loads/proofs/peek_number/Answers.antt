use mathlib.Core.Path.{sym}
use Rattle.loads.proofs.Laws.{done_is}
use Rattle.loads.proofs.peek_number.Goals as goal

pub returns-in-Ok : goal.returns-in-Ok
returns-in-Ok c = sym (done_is _ c.in-Ok.ensures)

pub returns-in-Err : goal.returns-in-Err
returns-in-Err c = c.in-Err.ensures.0
