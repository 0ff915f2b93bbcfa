use Rattle.checks.proofs.Passed.{done_number}
use Rattle.forms.proofs.Checking.{fits_passes, other_stops}
use Rattle.forms.specs.Calls.{is_missing, is_other, header_checks}
use Rattle.rules.specs.Numbers.{number_of, first_of}
use native.Mathlib.Nat.{suc-ne-zero}
use Rattle.header.proofs.numbers.check_header.Goals as goal

pub returns-then-needed : goal.returns-then-needed
unfolding header_checks first_of is_missing is_other number_of
returns-then-needed c = (rw (c.in-Missing.is, c.if-needed.true), suc-ne-zero 12)

pub returns-else-needed : goal.returns-else-needed
unfolding header_checks first_of is_missing is_other number_of
returns-else-needed c = rw (c.in-Missing.is, c.if-needed.false)

pub returns-in-Fits : goal.returns-in-Fits
returns-in-Fits c = rw c.in-Fits.is (done_number (fits_passes c.args.needed))

pub returns-in-Other : goal.returns-in-Other
unfolding number_of
returns-in-Other c = (rw c.in-Other.is (other_stops c.args.needed), suc-ne-zero 13)
