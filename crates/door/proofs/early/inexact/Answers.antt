use Rattle.door.specs.Doors.{inexact}
use Rattle.door.proofs.early.inexact.Goals as goal

pub returns : goal.returns
unfolding inexact
returns c = rw c.memory_words-words.ensures
