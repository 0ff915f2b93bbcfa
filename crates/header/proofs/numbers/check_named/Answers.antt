use Rattle.checks.proofs.Passed.{handed_on}
use Rattle.forms.proofs.Checking.{any_record, named_stops, named_goes, fitted}
use Rattle.rules.specs.Board.{board_of}
use Rattle.header.proofs.numbers.check_named.Goals as goal

pub returns-in_err-check_sizes : goal.returns-in_err-check_sizes
returns-in_err-check_sizes c =
    let a = c.args in
    λ controller. handed_on c.from_residual.result _ c.from_residual.ensures.1
    (named_stops a.needed (board_of a.memory.now a.cache.now a.table.now controller) a.g (c.in_err-check_sizes.ensures controller))

pub header_in-requires : goal.header_in-requires
header_in-requires c =
    let a = c.args in
    let k = any_record a.g in
    (fitted a.memory.now a.cache.now a.table.now k a.g (c.in_ok-check_sizes.ensures k)).size

pub returns : goal.returns
returns c =
    let a = c.args in
    λ controller. named_goes a.needed (board_of a.memory.now a.cache.now a.table.now controller) a.g c.check_header.result (c.in_ok-check_sizes.ensures controller)
    (rw c.header_in.ensures at c.check_header.ensures)
