use mathlib.Core.Path.{refl, sym, ◌∙◌}
use Rattle.rules.specs.Numbers.{number_of}
use Rattle.door.specs.Doors.{sizes_number}
use Rattle.door.proofs.early.fitting.Goals as goal

pub returns-then-outside : goal.returns-then-outside
unfolding sizes_number number_of
returns-then-outside c = rw (sym c.outside.ensures ∙ c.if-outside.true)

pub returns-then-inexact : goal.returns-then-inexact
unfolding sizes_number number_of
returns-then-inexact c = rw (sym c.outside.ensures ∙ c.if-outside.false, sym c.inexact.ensures ∙ c.if-inexact.true)

pub returns : goal.returns
unfolding sizes_number number_of
returns c = (rw (sym c.outside.ensures ∙ c.if-outside.false, sym c.inexact.ensures ∙ c.if-inexact.false), refl)
