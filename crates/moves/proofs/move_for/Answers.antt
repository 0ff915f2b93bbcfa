use Rattle.moves.proofs.move_for.Goals as goal

pub returns-in-Some : goal.returns-in-Some
returns-in-Some c = rw c.in-Some.is (c.move_entry.ensures c.in-Some.entry.slot)
