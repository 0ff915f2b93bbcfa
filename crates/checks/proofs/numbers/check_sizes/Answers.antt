use Rattle.checks.proofs.Passed.{outside_stops, inexact_stops, both_pass, board_lengths}
use Rattle.rules.specs.Board.{board_of}
use Rattle.rules.specs.Numbers.{number_of}
use Rattle.std.proofs.Common.{sym, ◌∙◌, suc-ne-zero}
use Rattle.checks.proofs.numbers.check_sizes.Goals as goal

pub returns-then-outside : goal.returns-then-outside
unfolding number_of
returns-then-outside c =
    let a = c.args in
    λ controller. (outside_stops (board_of a.memory.now a.cache.now a.table.now controller) a.g (sym c.outside.ensures ∙ c.if-outside.true), suc-ne-zero 0)

pub returns-then-inexact : goal.returns-then-inexact
unfolding number_of
returns-then-inexact c =
    let a = c.args in
    λ controller. (inexact_stops (board_of a.memory.now a.cache.now a.table.now controller) a.g (sym c.outside.ensures ∙ c.if-outside.false) (sym (c.inexact.ensures _ (board_lengths _ _ _ controller)) ∙ c.if-inexact.true), suc-ne-zero 1)

pub returns : goal.returns
returns c =
    let a = c.args in
    λ controller. both_pass (board_of a.memory.now a.cache.now a.table.now controller) a.g (sym c.outside.ensures ∙ c.if-outside.false) (sym (c.inexact.ensures _ (board_lengths _ _ _ controller)) ∙ c.if-inexact.false)
