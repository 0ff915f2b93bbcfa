use lib.ListN.{length}
use Prim.Native.Nat.{◌<◌}
use native.Mathlib.Omega.{arith}
use Rattle.std.specs.Prelude.{Some, None}
use Rattle.rules.specs.Board.{board_of}
use Rattle.rules.specs.Loads.{spot_of, block_in}
use Rattle.checks.proofs.Passed.{lent_now}
use Rattle.loads.proofs.Laws.{load_passed, slot_lt, load_refused, load_done}
use Rattle.loads.proofs.load.Goals as goal

pub returns-in-Err : goal.returns-in-Err
returns-in-Err c =
    let a = c.args in
    load_refused (board_of a.memory.now a.cache.now a.table.now a.controller) a.block a.offset a.into.now (c.in-Err.ensures _ (lent_now a.memory.now a.cache.now a.table.now a.controller))

pub lookup-requires : goal.lookup-requires
lookup-requires c =
    let a = c.args in
    let done = c.in_default.ensures _ (lent_now a.memory.now a.cache.now a.table.now a.controller) in
    let o = load_passed a.memory.now a.cache.now a.table.now a.controller a.block a.offset (length a.into.now) done in
    (o.2, omega (arith, o.0.blocks, o.1.below))

pub copy_home-requires : goal.copy_home-requires
copy_home-requires c =
    let a = c.args in
    let done = c.in_default.ensures _ (lent_now a.memory.now a.cache.now a.table.now a.controller) in
    let o = load_passed a.memory.now a.cache.now a.table.now a.controller a.block a.offset (length a.into.now) done in
    (omega (arith, o.1.below), o.0.memory, omega (arith, o.1.fits))

pub returns-in_default-lookup : goal.returns-in_default-lookup
unfolding spot_of block_in
returns-in_default-lookup c =
    let a = c.args in
    let done = c.in_default.ensures _ (lent_now a.memory.now a.cache.now a.table.now a.controller) in
    load_done a.memory.now a.cache.now a.table.now a.controller a.block a.offset a.into.now _ None done c.lookup.ensures c.in_default-lookup.is c.copy_home.ensures

pub copy_entry-requires : goal.copy_entry-requires
copy_entry-requires c =
    let a = c.args in
    let done = c.in_default.ensures _ (lent_now a.memory.now a.cache.now a.table.now a.controller) in
    let o = load_passed a.memory.now a.cache.now a.table.now a.controller a.block a.offset (length a.into.now) done in
    let h : c.in-Some.entry.slot < length a.table.now = slot_lt a.block c.in-Some.entry.slot a.table.now c.lookup.ensures c.in-Some.is in
    (omega (arith, o.1.below), omega (arith, o.0.table), o.0.memory, o.0.cache, omega (arith, o.1.fits))

pub returns : goal.returns
unfolding spot_of block_in
returns c =
    let a = c.args in
    let done = c.in_default.ensures _ (lent_now a.memory.now a.cache.now a.table.now a.controller) in
    load_done a.memory.now a.cache.now a.table.now a.controller a.block a.offset a.into.now _ (Some c.in-Some.entry) done c.lookup.ensures c.in-Some.is c.copy_entry.ensures
