use Rattle.rules.specs.Loads.{Spot, spot_of, block_in}
use Rattle.stores.proofs.Planned.{goes_there, taken_lt, is_full, store_stops, store_full, store_refused, store_goes}
use Rattle.placing.proofs.Built.{inside_fits, visible_inside}
use Rattle.placing.specs.Spots.{Fits}
use Rattle.loads.proofs.Laws.{load_passed, slot_lt}
use Rattle.checks.proofs.Passed.{lent_now}
use Rattle.rules.specs.Stores.{replaced, slot_for}
use Rattle.rules.specs.TableWords.{lowest_free}
use Rattle.rules.specs.Numbers.{number_of}
use Rattle.std.specs.Prelude.{Option}
use Rattle.rules.specs.declared.Entry.{Entry}
use native.Mathlib.Nat.{suc-ne-zero}
use native.Mathlib.Omega.{arith}
use mathlib.Core.Path.{sym, ap, ◌∙◌, subst}
use Rattle.stores.proofs.store.Goals as goal

pub returns-in-Err : goal.returns-in-Err
returns-in-Err c =
    let a = c.args in
    let h = c.in-Err.ensures _ (lent_now a.memory.now a.cache.now a.table.now a.controller) in
    store_refused _ _ _ _ _ _ _ _ (store_stops _ _ _ _ h) h.1 c.refused.ensures

pub seat_for-found-requires : goal.seat_for-found-requires
seat_for-found-requires c =
    let a = c.args in
    let r = load_passed _ _ _ _ _ _ _ (c.in_default.ensures _ (lent_now a.memory.now a.cache.now a.table.now a.controller)) in
    (r.2, omega (arith, r.0.blocks, r.1.below))

pub returns-in_default-slot : goal.returns-in_default-slot
unfolding number_of
returns-in_default-slot c =
    let a = c.args in
    let s = c.seat_for-found.ensures in
    store_refused _ _ _ _ _ _ _ _ (store_full _ _ _ _ (c.in_default.ensures _ (lent_now a.memory.now a.cache.now a.table.now a.controller)) (is_full (ap (λ (z : Option Entry). slot_for z (lowest_free a.table.now)) (sym s.0) ∙ sym s.1 ∙ c.in_default-slot.is))) (suc-ne-zero 6) c.refused-in_default-slot.ensures

pub spot_of-from-requires : goal.spot_of-from-requires
spot_of-from-requires c =
    let a = c.args in
    let r = load_passed _ _ _ _ _ _ _ (c.in_default.ensures _ (lent_now a.memory.now a.cache.now a.table.now a.controller)) in
    λ slot state q. omega (arith, r.0.table, r.0.slots, slot_lt _ slot _ c.seat_for-found.ensures.0 q)

pub store_at-requires : goal.store_at-requires
store_at-requires c =
    let a = c.args in
    let r = load_passed _ _ _ _ _ _ _ (c.in_default.ensures _ (lent_now a.memory.now a.cache.now a.table.now a.controller)) in
    let s = c.seat_for-found.ensures in
    let g = a.controller.geometry in
    let shown = visible_inside g a.block c.seat_for-found.result.found r.1.below (λ slot state q. omega (arith, r.0.table, slot_lt _ slot _ s.0 q)) in
    let fits = inside_fits g a.memory.now a.cache.now (spot_of g a.block c.seat_for-found.result.found) (omega (arith, r.0.memory)) (omega (arith, r.0.cache)) shown in
    (r.0, r.1.below, omega (arith, r.0.table, taken_lt _ _ _ s.0 (sym c.in-Some.is ∙ s.1)), subst (Fits a.memory.now a.cache.now) (sym c.spot_of-from.ensures) fits, goes_there g a.block _ a.controller.phase c.seat_for-found.result.found (lowest_free a.table.now) c.move_for-next.result c.spot_of-from.ensures c.move_for-next.ensures (sym c.in-Some.is ∙ s.1))

pub returns : goal.returns
returns c =
    let a = c.args in
    let s = c.seat_for-found.ensures in
    store_goes _ _ _ _ _ _ _ _ c.move_for-next.result (c.in_default.ensures _ (lent_now a.memory.now a.cache.now a.table.now a.controller)) s.0 (sym s.1 ∙ c.in-Some.is) (ap (λ (z : Spot). replaced (block_in a.memory.now a.cache.now z) a.offset a.bytes.now) c.spot_of-from.ensures) c.move_for-next.ensures c.store_at.ensures

pub invariant_of-patch : goal.invariant_of-patch
invariant_of-patch c =
    let a = c.args in
    record { inside = (load_passed _ _ _ _ _ _ _ (c.in_default.ensures _ (lent_now a.memory.now a.cache.now a.table.now a.controller))).1.fits }
