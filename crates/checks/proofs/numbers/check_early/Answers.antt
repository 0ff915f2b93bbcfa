use Rattle.checks.proofs.Passed.{hit, miss, skip}
use Rattle.checks.specs.Early.{early_checks, phase_checks}
use Rattle.rules.specs.Numbers.{number_of, common_checks, malformed}
use Rattle.std.proofs.Common.{Bool, ◌||◌, sym, ap, ◌∙◌, suc-ne-zero}
use Rattle.checks.proofs.numbers.check_early.Goals as goal

pub returns-then-outside : goal.returns-then-outside
unfolding early_checks common_checks malformed phase_checks number_of
returns-then-outside c = λ board l e f. (rw (e, f) (hit _ (sym c.outside.ensures ∙ c.if-outside.true)), suc-ne-zero 0)

pub returns-then-inexact-unfit : goal.returns-then-inexact-unfit
unfolding early_checks common_checks malformed phase_checks number_of
returns-then-inexact-unfit c = λ board l e f. (rw (e, f) (miss _ _ (sym c.outside.ensures ∙ c.if-outside.false) (hit _ (ap (λ (b : Bool). b || c.args.unfit) (sym (c.inexact.ensures board l)) ∙ c.if-inexact-unfit.true))), suc-ne-zero 1)

pub returns : goal.returns
unfolding early_checks common_checks malformed phase_checks
returns c =
    let r = c.check_phase.result in
    λ board l e f. rw (e, f) (skip _ _ r (sym c.outside.ensures ∙ c.if-outside.false) (skip _ _ r (ap (λ (b : Bool). b || c.args.unfit) (sym (c.inexact.ensures board l)) ∙ c.if-inexact-unfit.false) c.check_phase.ensures))
