use Rattle.rules.specs.Stores.{move_in, is_short}
use Rattle.moves.proofs.move_entry.Goals as goal

pub returns-in-Off : goal.returns-in-Off
unfolding move_in is_short
returns-in-Off c = λ slot. (rw c.in-Off.is, rw c.in-Off.is)
