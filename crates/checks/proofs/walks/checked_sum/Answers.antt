use Rattle.std.proofs.Common.{refl, arith}
use Rattle.rules.specs.Board.{board_of}
use Rattle.checks.proofs.Passed.{board_lengths, handed_on, early_refuses, early_passed}
use Rattle.checks.proofs.Summing.{few_times, walk_judged}
use Rattle.checks.proofs.walks.checked_sum.Goals as goal

pub returns-in_err-check_early-clause-judged : goal.returns-in_err-check_early-clause-judged
returns-in_err-check_early-clause-judged g c =
    let a = c.args in
    handed_on c.from_residual.result _ c.from_residual.ensures.1 (early_refuses (board_of a.memory.now a.cache.now a.table.now a.controller) a.unfit (c.in_err-check_early.ensures _ (board_lengths a.memory.now a.cache.now a.table.now a.controller) refl refl))

pub walk_table-requires-clause-sizes : goal.walk_table-requires-clause-sizes
walk_table-requires-clause-sizes g c =
    let a = c.args in
    let r = early_passed (board_of a.memory.now a.cache.now a.table.now a.controller) a.unfit (c.in_ok-check_early.ensures _ (board_lengths a.memory.now a.cache.now a.table.now a.controller) refl refl) in
    (r.some_block, r.blocks)

pub walk_table-requires-clause-fits : goal.walk_table-requires-clause-fits
walk_table-requires-clause-fits g c = λ word n q.
    let a = c.args in
    let r = early_passed (board_of a.memory.now a.cache.now a.table.now a.controller) a.unfit (c.in_ok-check_early.ensures _ (board_lengths a.memory.now a.cache.now a.table.now a.controller) refl refl) in
    few_times n _ (c.requires.fits word n q) (omega (arith, r.table, r.slots))

pub returns-clause-judged : goal.returns-clause-judged
returns-clause-judged g c =
    let a = c.args in
    walk_judged (board_of a.memory.now a.cache.now a.table.now a.controller) a.unfit (c.in_ok-check_early.ensures _ (board_lengths a.memory.now a.cache.now a.table.now a.controller) refl refl) c.walk_table.result c.ok_or.result c.walk_table.ensures.formed c.ok_or.ensures.value
