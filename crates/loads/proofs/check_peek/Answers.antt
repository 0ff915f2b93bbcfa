use mathlib.Core.Bool.{false}
use mathlib.Core.Path.{refl, sym, ◌∙◌}
use Rattle.rules.specs.Board.{board_of}
use Rattle.checks.proofs.Passed.{lent_now, handed_on, range_refuses, by_common, by_last, by_none, done_number}
use Rattle.rules.specs.declared.Number.TheVariants as No
use Rattle.loads.proofs.Laws.{peek_checks}
use Rattle.loads.proofs.check_peek.Goals as goal

pub returns-in_err-check_common : goal.returns-in_err-check_common
returns-in_err-check_common c =
    let a = c.args in
    let board = board_of a.memory.now a.cache.now a.table.now a.controller in
    let h = c.in_err-check_common.ensures board (lent_now a.memory.now a.cache.now a.table.now a.controller) in
    handed_on c.from_residual.result _ c.from_residual.ensures.1 (by_common board false _ No.Range h ∙ peek_checks board a.block, h.1)

pub returns-then-no_block : goal.returns-then-no_block
returns-then-no_block c =
    let a = c.args in
    let board = board_of a.memory.now a.cache.now a.table.now a.controller in
    (by_last board false _ No.Range (c.in_ok-check_common.ensures board (lent_now a.memory.now a.cache.now a.table.now a.controller)) (sym (c.no_block.ensures board refl) ∙ c.if-no_block.true) ∙ peek_checks board a.block, range_refuses)

pub returns : goal.returns
returns c =
    let a = c.args in
    let board = board_of a.memory.now a.cache.now a.table.now a.controller in
    done_number (by_none board false _ No.Range (c.in_ok-check_common.ensures board (lent_now a.memory.now a.cache.now a.table.now a.controller)) (sym (c.no_block.ensures board refl) ∙ c.if-no_block.false) ∙ peek_checks board a.block)
