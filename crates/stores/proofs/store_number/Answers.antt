use mathlib.Core.Path.{sym, ◌∙◌}
use native.Mathlib.Omega.{arith}
use Rattle.checks.proofs.Passed.{lent_now}
use Rattle.loads.proofs.Laws.{load_passed}
use Rattle.stores.proofs.Planned.{store_stops, store_full, store_done}
use Rattle.stores.proofs.store_number.Goals as goal

pub returns-in-Err : goal.returns-in-Err
returns-in-Err c =
    let a = c.args in
    store_stops _ _ _ _ (c.in-Err.ensures _ (lent_now a.memory.now a.cache.now a.table.now a.controller))

pub full-requires : goal.full-requires
full-requires c =
    let a = c.args in
    let r = load_passed _ _ _ _ _ _ _ (c.in_default.ensures _ (lent_now a.memory.now a.cache.now a.table.now a.controller)) in
    (r.2, omega (arith, r.0.blocks, r.1.below))

pub returns-then-full : goal.returns-then-full
returns-then-full c =
    let a = c.args in
    store_full _ _ _ _
    (c.in_default.ensures _ (lent_now a.memory.now a.cache.now a.table.now a.controller))
    (sym c.if-full.true ∙ c.full.ensures)

pub returns : goal.returns
returns c =
    let a = c.args in
    store_done _ _ _ _
    (c.in_default.ensures _ (lent_now a.memory.now a.cache.now a.table.now a.controller))
    (sym c.if-full.false ∙ c.full.ensures)
