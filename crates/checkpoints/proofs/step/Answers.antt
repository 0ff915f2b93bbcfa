use native.Mathlib.Omega.{arith}
use Rattle.rules.specs.declared.Number.TheVariants as No
use Rattle.checks.proofs.Passed.{lent_now}
use Rattle.checkpoints.proofs.Calls.{step_stops, step_idle, step_known, idle_refuses, step_refused, step_cut, step_whole}
use Rattle.checkpoints.proofs.step.Goals as goal

pub returns-in-Err : goal.returns-in-Err
returns-in-Err c =
    let a = c.args in
    let m = a.memory.now in
    let x = a.cache.now in
    let t = a.table.now in
    step_refused m x t a.controller a.p a.most _ _ (step_stops m x t a.controller (c.in-Err.ensures _ (lent_now m x t a.controller))) (c.in-Err.ensures _ (lent_now m x t a.controller)).1 c.refused.ensures

pub returns-then-is_running : goal.returns-then-is_running
returns-then-is_running c =
    let a = c.args in
    let m = a.memory.now in
    let x = a.cache.now in
    let t = a.table.now in
    step_refused m x t a.controller a.p a.most No.Idle _ (step_idle m x t a.controller (c.in_default.ensures _ (lent_now m x t a.controller)) c.is_running.ensures c.if-is_running.true) idle_refuses c.refused-then-is_running.ensures

pub overflow_sub-left : goal.overflow_sub-left
overflow_sub-left c =
    let a = c.args in
    let k = a.controller in
    let s = step_known _ _ _ k (c.in_default.ensures _ (lent_now a.memory.now a.cache.now a.table.now k)) c.is_running.ensures c.if-is_running.false in
    omega (arith, s.1.count, c.count_of-count.ensures)

pub lay_next-requires : goal.lay_next-requires
lay_next-requires c =
    let a = c.args in
    let k = a.controller in
    let s = step_known _ _ _ k (c.in_default.ensures _ (lent_now a.memory.now a.cache.now a.table.now k)) c.is_running.ensures c.if-is_running.false in
    (s.1.ready.memory, s.1.ready.table, omega (arith, s.1.count, c.count_of-count.ensures, c.min-words.ensures))

pub returns-then-p-words : goal.returns-then-p-words
returns-then-p-words c =
    let a = c.args in
    let k = a.controller in
    let s = step_known _ _ _ k (c.in_default.ensures _ (lent_now a.memory.now a.cache.now a.table.now k)) c.is_running.ensures c.if-is_running.false in
    step_cut _ _ _ k a.p a.most _ _ s.1.ready.table c.count_of-count.ensures c.min-words.ensures s.0 _ c.lay_next.ensures _ _ c.if-p-words.true c.reply.ensures c.switched_off.ensures

pub stepped-requires : goal.stepped-requires
stepped-requires c =
    let a = c.args in
    let k = a.controller in
    let s = step_known _ _ _ k (c.in_default.ensures _ (lent_now a.memory.now a.cache.now a.table.now k)) c.is_running.ensures c.if-is_running.false in
    omega (arith, s.1.count, s.1.ready.slots, c.count_of-count.ensures, c.min-words.ensures)

pub returns : goal.returns
returns c =
    let a = c.args in
    let k = a.controller in
    let s = step_known _ _ _ k (c.in_default.ensures _ (lent_now a.memory.now a.cache.now a.table.now k)) c.is_running.ensures c.if-is_running.false in
    step_whole _ _ _ k a.p a.most _ _ s.1.ready.table c.count_of-count.ensures c.min-words.ensures s.0 _ c.lay_next.ensures _ _ c.if-p-words.false c.reply-2.ensures c.stepped.ensures
