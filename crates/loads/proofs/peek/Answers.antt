use lib.ListN.{length}
use Prim.Native.Nat.{◌<◌}
use mathlib.Core.Path.{refl}
use native.Mathlib.Omega.{arith}
use native.Mathlib.Nat.{add_comm}
use Rattle.std.specs.Prelude.{Some, None}
use Rattle.rules.specs.Loads.{spot_of}
use Rattle.blocks.specs.Shown.{Shown}
use Rattle.loads.proofs.Laws.{peek_passed, slot_lt, peek_refused, peek_done}
use Rattle.loads.proofs.peek.Goals as goal

pub returns-in_default : goal.returns-in_default
returns-in_default c =
    let a = c.args in
    peek_refused _ a.memory a.cache a.table.now a.controller a.block c.in_default.ensures
    (record { object = refl; offset = add_comm _ _; bytes = refl })

pub lookup-requires : goal.lookup-requires
lookup-requires c =
    let a = c.args in
    let done = c.in-Ok.ensures in
    let o = peek_passed a.memory.now a.cache.now a.table.now a.controller a.block done in
    (o.2, omega (arith, o.0.blocks, o.1))

pub part_home-requires : goal.part_home-requires
part_home-requires c =
    let a = c.args in
    let done = c.in-Ok.ensures in
    let o = peek_passed a.memory.now a.cache.now a.table.now a.controller a.block done in
    (omega (arith, o.1), o.0.memory)

pub returns-in_default-lookup : goal.returns-in_default-lookup
unfolding Shown spot_of
returns-in_default-lookup c =
    let a = c.args in
    let done = c.in-Ok.ensures in
    peek_done _ a.memory a.cache a.table.now a.controller a.block None done c.lookup.ensures c.in_default-lookup.is c.part_home.ensures

pub part_entry-requires : goal.part_entry-requires
part_entry-requires c =
    let a = c.args in
    let done = c.in-Ok.ensures in
    let o = peek_passed a.memory.now a.cache.now a.table.now a.controller a.block done in
    let h : c.in-Some.entry.slot < length a.table.now = slot_lt a.block c.in-Some.entry.slot a.table.now c.lookup.ensures c.in-Some.is in
    (omega (arith, o.1), omega (arith, o.0.table), o.0.memory, o.0.cache)

pub returns : goal.returns
unfolding Shown spot_of
returns c =
    let a = c.args in
    let done = c.in-Ok.ensures in
    peek_done _ a.memory a.cache a.table.now a.controller a.block (Some c.in-Some.entry) done c.lookup.ensures c.in-Some.is c.part_entry.ensures
