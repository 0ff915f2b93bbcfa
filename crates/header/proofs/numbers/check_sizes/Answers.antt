use Rattle.checks.proofs.Passed.{hit, miss, none_applies, done_number, board_lengths}
use Rattle.rules.specs.Numbers.{number_of}
use native.Mathlib.Nat.{suc-ne-zero}
use mathlib.Core.Path.{sym, ◌∙◌}
use Rattle.header.proofs.numbers.check_sizes.Goals as goal

pub returns-then-outside : goal.returns-then-outside
unfolding number_of
returns-then-outside c = λ controller. (hit _ (sym c.outside.ensures ∙ c.if-outside.true), suc-ne-zero 0)

pub returns-then-long_inexact : goal.returns-then-long_inexact
unfolding number_of
returns-then-long_inexact c =
    λ controller. (miss _ _ (sym c.outside.ensures ∙ c.if-outside.false) (hit _ (sym (c.long_inexact.ensures _ (board_lengths _ _ _ controller)) ∙ c.if-long_inexact.true)), suc-ne-zero 1)

pub returns : goal.returns
returns c =
    λ controller. done_number (miss _ _ (sym c.outside.ensures ∙ c.if-outside.false) (miss _ _ (sym (c.long_inexact.ensures _ (board_lengths _ _ _ controller)) ∙ c.if-long_inexact.false) none_applies))
