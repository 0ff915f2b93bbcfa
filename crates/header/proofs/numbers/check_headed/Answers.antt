use Prim.Native.Nat.{ℕ, ◌*◌}
use Rattle.checks.proofs.Passed.{handed_on}
use Rattle.forms.proofs.Checking.{front_length, headed_stops, headed_goes, named_passed, last_at}
use Rattle.rules.specs.Board.{board_of}
use mathlib.Core.Path.{sym, ap, ◌∙◌}
use Rattle.header.proofs.numbers.check_headed.Goals as goal

pub returns-in_err-check_named : goal.returns-in_err-check_named
returns-in_err-check_named c =
    let a = c.args in
    λ controller. handed_on c.from_residual.result _ c.from_residual.ensures.1
    (headed_stops a.needed (board_of a.memory.now a.cache.now a.table.now controller) a.g (c.in_err-check_named.ensures controller))

pub slice_bounds-check_recovery-end : goal.slice_bounds-check_recovery-end
slice_bounds-check_recovery-end c =
    let a = c.args in
    let l = named_passed a.needed a.memory.now a.cache.now a.table.now a.g c.in_ok-check_named.ensures in
    ap (λ (n : ℕ). 8 * n) c.memory_words-end.ensures ∙ sym (front_length a.memory.now a.g l.size c.memory_words-end.ensures)

pub check_recovery-requires : goal.check_recovery-requires
check_recovery-requires c =
    let a = c.args in
    let l = named_passed a.needed a.memory.now a.cache.now a.table.now a.g c.in_ok-check_named.ensures in
    (l.ready.blocks, front_length a.memory.now a.g l.size c.memory_words-end.ensures)

pub returns : goal.returns
returns c =
    let a = c.args in
    let l = named_passed a.needed a.memory.now a.cache.now a.table.now a.g c.in_ok-check_named.ensures in
    λ controller. headed_goes a.needed (board_of a.memory.now a.cache.now a.table.now controller) a.g c.check_recovery.result (c.in_ok-check_named.ensures controller)
    (last_at (board_of a.memory.now a.cache.now a.table.now controller) a.g c.check_recovery.result l.size c.memory_words-end.ensures c.check_recovery.ensures)
