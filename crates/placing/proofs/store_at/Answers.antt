use mathlib.Core.Path.{sym, ap, ◌∙◌}
use native.Mathlib.Omega.{arith}
use lib.ListN.{length}
use Rattle.rules.specs.Board.{board_of}
use Rattle.rules.specs.Loads.{block_in}
use Rattle.rules.specs.Stores.{replaced}
use Rattle.moves.specs.Moves.{move_of, short_of}
use Rattle.placing.specs.Spots.{spot_of}
use Rattle.placing.proofs.Placed.{inside, placed, placed_short, not_placed}
use Rattle.placing.proofs.Built.{inside_fits}
use Rattle.placing.proofs.store_at.Goals as goal

pub store_moved-requires : goal.store_moved-requires
store_moved-requires c =
    let a = c.args in
    let q = c.requires in
    let r = q.0 in
    let h = inside a.controller.geometry a.block a.slot _ c.spot_in-to.ensures q.1 q.2 in
    let fits = inside_fits a.controller.geometry a.memory.now a.cache.now (spot_of c.spot_in-to.result) (omega (arith, r.memory)) (omega (arith, r.cache)) h in
    (q.3, fits, omega (arith, r.table, q.2))

pub returns-in-To : goal.returns-in-To
returns-in-To c =
    let a = c.args in
    placed a.p (board_of a.memory.now a.cache.now a.table.now a.controller) a.block a.slot _ (replaced (block_in a.memory.now a.cache.now (spot_of a.from)) a.patch.offset a.patch.bytes.now) a.patch.offset (length a.patch.bytes.now)
    c.in-To.is (sym c.spot_in-to.ensures) c.word_of-word.ensures c.store_moved.ensures

pub returns-in-Memory : goal.returns-in-Memory
unfolding block_in
returns-in-Memory c =
    let a = c.args in
    let there = (c.requires.4 (ap short_of c.in-InPlace.is)).1 _ _ (ap move_of c.in-InPlace.is) in
    placed_short a.p (board_of a.memory.now a.cache.now a.table.now a.controller) a.block a.slot _ (replaced (block_in a.memory.now a.cache.now (spot_of a.from)) a.patch.offset a.patch.bytes.now) a.patch.offset (length a.patch.bytes.now)
    c.in-InPlace.is (sym there ∙ ap spot_of c.in-Memory.is) c.word_of-word-in-InPlace.ensures (rw c.in-Memory.is (c.store_short.ensures a.cache.now))

pub returns-in-NotWellFormed : goal.returns-in-NotWellFormed
returns-in-NotWellFormed c =
    let a = c.args in
    not_placed a.p a.memory.now a.cache.now a.table.now a.controller a.block a.slot (replaced (block_in a.memory.now a.cache.now (spot_of a.from)) a.patch.offset a.patch.bytes.now) _ c.in-NotWellFormed.is c.refused-in-NotWellFormed.ensures
