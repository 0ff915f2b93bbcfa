use Rattle.checks.specs.Early.{phase_checks}
use Rattle.rules.specs.Numbers.{number_of, first_of, over_count}
use Rattle.std.proofs.Common.{◌+◌, le-ltb, lt-ltb, refl, suc-ne-zero}
use Rattle.checks.proofs.numbers.check_phase.Goals as goal

pub returns-then-g-count : goal.returns-then-g-count
unfolding phase_checks first_of over_count number_of
returns-then-g-count c = (rw (c.in-Writing.is, lt-ltb (c.args.g.slots + 8) _ c.if-g-count.true), suc-ne-zero 2)

pub returns-in-Running : goal.returns-in-Running
unfolding phase_checks first_of over_count number_of
returns-in-Running c = rw c.in-Running.is

pub returns-else-g-count : goal.returns-else-g-count
unfolding phase_checks first_of over_count number_of
returns-else-g-count c = rw (c.in-Writing.is, le-ltb (c.args.g.slots + 8) _ c.if-g-count.false)

pub returns-in-Off : goal.returns-in-Off
unfolding phase_checks first_of over_count number_of
returns-in-Off c = (rw c.in-Off.is, suc-ne-zero 3)
