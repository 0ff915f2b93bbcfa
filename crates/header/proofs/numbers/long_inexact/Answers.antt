use Rattle.forms.proofs.Checking.{without-length, long_inexact_lem, too_short}
use Rattle.forms.specs.Stored.{old_board}
use native.Mathlib.Omega.{arith}
use mathlib.Core.Path.{sym, ◌∙◌}
use Rattle.header.proofs.numbers.long_inexact.Goals as goal

pub returns-then-memory-lt16 : goal.returns-then-memory-lt16
returns-then-memory-lt16 c = λ board l. sym (too_short c.args.g board (omega (arith, l.memory, c.if-memory-lt16.true)))

pub returns : goal.returns
returns c = λ board l. c.inexact.ensures (old_board board) (record { memory = omega (arith, without-length board.memory, l.memory); cache = l.cache; table = l.table }) ∙ sym (long_inexact_lem c.args.g board)
