use mathlib.Core.Path.{refl, ◌∙◌, ap}
use mathlib.Core.Bool.{cond}
use mathlib.Core.List.{List}
use Rattle.std.specs.Prelude.{None, Some}
use Prim.Native.Nat.{ℕ}
use native.Mathlib.Omega.{arith}
use lib.ListN.{length-take, length-drop}
use Rattle.rules.specs.Starts.{has_registers}
use Rattle.checks.proofs.Passed.{sizes_ready}
use Rattle.backups.proofs.Opening.{backup_inside, finished_is}
use Rattle.starts.proofs.Recovering.{recover_refused, no_checkpoint_lem, recovered}
use Rattle.starts.proofs.recover.Goals as goal

pub returns-in-Err : goal.returns-in-Err
returns-in-Err c =
    let a = c.args in
    let h = c.in-Err.ensures a.controller in
    λ (p : ℕ). recover_refused a.memory.now a.cache.now a.table.now a.controller a.g _
    h.0 p h.1 c.refused_recovery.ensures

pub mark_in-mark-requires : goal.mark_in-mark-requires
mark_in-mark-requires c =
    let a = c.args in
    (sizes_ready a.memory.now a.cache.now a.table.now a.g a.controller (c.in_default.ensures a.controller)).memory

pub returns-in_default-finished_by : goal.returns-in_default-finished_by
returns-in_default-finished_by c =
    let a = c.args in
    λ (p : ℕ). no_checkpoint_lem a.memory.now a.cache.now a.table.now a.controller a.g _
    refl
    (c.in_default.ensures a.controller) p (finished_is a.g a.memory.now _ _ c.mark_in-mark.ensures c.finished_by.ensures c.in_default-finished_by.is) c.refused_recovery-in_default-finished_by.ensures

pub slice_bounds-recover_from-count : goal.slice_bounds-recover_from-count
slice_bounds-recover_from-count c =
    let a = c.args in
    let l = sizes_ready a.memory.now a.cache.now a.table.now a.g a.controller (c.in_default.ensures a.controller) in
    let h = backup_inside a.g a.memory.now c.in-Some.backup l.memory c.backup_start-start.ensures in
    omega arith

pub slice_bounds-recover_from-start : goal.slice_bounds-recover_from-start
slice_bounds-recover_from-start c =
    let a = c.args in
    let l = sizes_ready a.memory.now a.cache.now a.table.now a.g a.controller (c.in_default.ensures a.controller) in
    let h = backup_inside a.g a.memory.now c.in-Some.backup l.memory c.backup_start-start.ensures in
    omega arith

pub recover_from-requires : goal.recover_from-requires
recover_from-requires c =
    let a = c.args in
    let l = sizes_ready a.memory.now a.cache.now a.table.now a.g a.controller (c.in_default.ensures a.controller) in
    let h = backup_inside a.g a.memory.now c.in-Some.backup l.memory c.backup_start-start.ensures in
    (l.blocks, l.table, simp (length-take, length-drop) (omega arith))

pub returns : goal.returns
returns c =
    let a = c.args in
    λ (p : ℕ). recovered a.memory.now a.cache.now a.table.now a.controller a.g _
    refl
    (c.in_default.ensures a.controller) p _ _ _
    (sizes_ready a.memory.now a.cache.now a.table.now a.g a.controller (c.in_default.ensures a.controller))
    (finished_is a.g a.memory.now _ _ c.mark_in-mark.ensures c.finished_by.ensures c.in-Some.is) c.backup_start-start.ensures
    (λ (bytes : List ℕ). c.registers_by-registers.ensures bytes ∙ ap (λ (mark : ℕ). cond (has_registers mark) (Some bytes) None) c.mark_in-mark.ensures) c.recover_from.ensures
