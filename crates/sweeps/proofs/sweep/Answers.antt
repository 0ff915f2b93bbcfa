use mathlib.Core.Path.{refl, ap, ◌∙◌}
use Prim.Native.Nat.{min}
use native.Mathlib.Omega.{arith}
use Rattle.rules.specs.declared.Number.TheVariants as No
use Rattle.checks.proofs.Passed.{busy_refuses}
use Rattle.sweeps.proofs.Entries.{few_entries}
use Rattle.sweeps.proofs.Calls.{sweep_stops, sweep_busy, sweep_accepted, sweep_known, sweep_refused, sweep_cut, sweep_whole}
use Rattle.sweeps.proofs.sweep.Goals as goal

pub returns-in-Err : goal.returns-in-Err
returns-in-Err c =
    let a = c.args in
    let m = a.memory.now in
    let x = a.cache.now in
    let t = a.table.now in
    sweep_refused m x t a.controller a.p a.limit _ _ (sweep_stops m x t a.controller c.in-Err.ensures.judged) c.in-Err.ensures.judged.1 c.refused.ensures

pub returns-then-is_writing : goal.returns-then-is_writing
returns-then-is_writing c =
    let a = c.args in
    let m = a.memory.now in
    let x = a.cache.now in
    let t = a.table.now in
    sweep_refused m x t a.controller a.p a.limit No.Busy _ (sweep_busy m x t a.controller c.in-Ok.ensures.judged c.is_writing.ensures c.if-is_writing.true) busy_refuses c.refused-then-is_writing.ensures

pub overflow_mul-words : goal.overflow_mul-words
overflow_mul-words c =
    let a = c.args in
    let d = sweep_accepted a.memory.now a.cache.now a.table.now a.controller c.in-Ok.ensures.judged c.is_writing.ensures c.if-is_writing.false in
    let k = sweep_known a.memory.now a.cache.now a.table.now a.controller d in
    let few = c.in-Ok.ensures.counted in
    omega (arith, c.min-entries.ensures, few, few_entries 0 a.table.now, k.table, k.slots)

pub lay_swept-requires : goal.lay_swept-requires
lay_swept-requires c =
    let a = c.args in
    let d = sweep_accepted a.memory.now a.cache.now a.table.now a.controller c.in-Ok.ensures.judged c.is_writing.ensures c.if-is_writing.false in
    let few = c.in-Ok.ensures.counted in
    (sweep_known a.memory.now a.cache.now a.table.now a.controller d, omega (arith, c.min-entries.ensures, few))

pub returns-then-p-words : goal.returns-then-p-words
returns-then-p-words c =
    let a = c.args in
    let d = sweep_accepted a.memory.now a.cache.now a.table.now a.controller c.in-Ok.ensures.judged c.is_writing.ensures c.if-is_writing.false in
    let few = c.in-Ok.ensures.counted in
    sweep_cut a.memory.now a.cache.now a.table.now a.controller a.p a.limit d _ (c.min-entries.ensures ∙ ap (min a.limit) few) _ _ _ refl c.lay_swept.ensures c.if-p-words.true c.reply.ensures c.switched_off.ensures

pub sweep_slots-requires : goal.sweep_slots-requires
sweep_slots-requires c =
    let a = c.args in
    let d = sweep_accepted a.memory.now a.cache.now a.table.now a.controller c.in-Ok.ensures.judged c.is_writing.ensures c.if-is_writing.false in
    let few = c.in-Ok.ensures.counted in
    (sweep_known a.memory.now a.cache.now a.table.now a.controller d, omega (arith, c.min-entries.ensures, few))

pub returns : goal.returns
returns c =
    let a = c.args in
    let d = sweep_accepted a.memory.now a.cache.now a.table.now a.controller c.in-Ok.ensures.judged c.is_writing.ensures c.if-is_writing.false in
    let few = c.in-Ok.ensures.counted in
    sweep_whole a.memory.now a.cache.now a.table.now a.controller a.p a.limit d _ (c.min-entries.ensures ∙ ap (min a.limit) few) _ _ refl c.if-p-words.false c.sweep_slots.ensures.0 c.sweep_slots.ensures.1 c.reply-2.ensures
