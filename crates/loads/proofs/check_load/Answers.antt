use mathlib.Core.Bool.{false}
use mathlib.Core.Path.{sym, ◌∙◌}
use Rattle.checks.proofs.Passed.{handed_on, range_refuses, by_common, by_last, by_none, done_number}
use Rattle.rules.specs.declared.Number.TheVariants as No
use Rattle.loads.proofs.Laws.{load_checks}
use Rattle.loads.proofs.check_load.Goals as goal

pub returns-in_err-check_common : goal.returns-in_err-check_common
returns-in_err-check_common c =
    let a = c.args in
    λ board l. handed_on c.from_residual.result _ c.from_residual.ensures.1 (let h = c.in_err-check_common.ensures board l in (by_common board false _ No.Range h ∙ load_checks board a.block a.offset a.len, h.1))

pub returns-then-out_of_range : goal.returns-then-out_of_range
returns-then-out_of_range c =
    let a = c.args in
    λ board l. (by_last board false _ No.Range (c.in_ok-check_common.ensures board l) (sym (c.out_of_range.ensures board l.geometry) ∙ c.if-out_of_range.true) ∙ load_checks board a.block a.offset a.len, range_refuses)

pub returns : goal.returns
returns c =
    let a = c.args in
    λ board l. done_number (by_none board false _ No.Range (c.in_ok-check_common.ensures board l) (sym (c.out_of_range.ensures board l.geometry) ∙ c.if-out_of_range.false) ∙ load_checks board a.block a.offset a.len)
