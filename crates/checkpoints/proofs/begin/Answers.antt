use Rattle.rules.specs.declared.Number.TheVariants as No
use Rattle.checks.proofs.Passed.{busy_refuses}
use Rattle.checkpoints.proofs.Calls.{begin_stops, begin_busy, begin_accepted, begin_known, begin_refused, begin_cut, begin_whole}
use Rattle.checkpoints.proofs.begin.Goals as goal

pub returns-in-Err : goal.returns-in-Err
returns-in-Err c =
    let a = c.args in
    let m = a.memory.now in
    let x = a.cache.now in
    let t = a.table.now in
    let rs = a.registers.now in
    begin_refused m x t a.controller rs a.p _ _ (begin_stops m x t a.controller rs c.in-Err.ensures.judged) c.in-Err.ensures.judged.1 c.refused.ensures

pub returns-then-is_writing : goal.returns-then-is_writing
returns-then-is_writing c =
    let a = c.args in
    let m = a.memory.now in
    let x = a.cache.now in
    let t = a.table.now in
    let rs = a.registers.now in
    begin_refused m x t a.controller rs a.p No.Busy _ (begin_busy m x t a.controller rs c.in-Ok.ensures.judged c.is_writing.ensures c.if-is_writing.true) busy_refuses c.refused-then-is_writing.ensures

pub lay_copies-requires : goal.lay_copies-requires
lay_copies-requires c =
    let a = c.args in
    let s = begin_known a.memory.now a.cache.now a.table.now a.controller a.registers.now c.in-Ok.ensures.judged c.is_writing.ensures c.if-is_writing.false in
    (s.ready, s.formed)

pub returns-then-p-words : goal.returns-then-p-words
returns-then-p-words c =
    let a = c.args in
    let m = a.memory.now in
    let x = a.cache.now in
    let t = a.table.now in
    let k = a.controller in
    let rs = a.registers.now in
    let d = begin_accepted m x t k rs c.in-Ok.ensures.judged c.is_writing.ensures c.if-is_writing.false in
    begin_cut m x t k rs a.p d _ c.in-Ok.ensures.counted _ _ _ c.if-p-words.true c.lay_copies.ensures c.reply.ensures c.switched_off.ensures

pub begin_slots-requires : goal.begin_slots-requires
begin_slots-requires c =
    let a = c.args in
    let s = begin_known a.memory.now a.cache.now a.table.now a.controller a.registers.now c.in-Ok.ensures.judged c.is_writing.ensures c.if-is_writing.false in
    (s.ready, s.formed)

pub begun-requires : goal.begun-requires
begun-requires c =
    let a = c.args in
    let s = begin_known a.memory.now a.cache.now a.table.now a.controller a.registers.now c.in-Ok.ensures.judged c.is_writing.ensures c.if-is_writing.false in
    s.eight

pub returns : goal.returns
returns c =
    let a = c.args in
    let m = a.memory.now in
    let x = a.cache.now in
    let t = a.table.now in
    let k = a.controller in
    let rs = a.registers.now in
    let d = begin_accepted m x t k rs c.in-Ok.ensures.judged c.is_writing.ensures c.if-is_writing.false in
    begin_whole m x t k rs a.p d _ c.in-Ok.ensures.counted _ _ _ _ c.if-p-words.false c.begin_slots.ensures.0 c.begin_slots.ensures.1 c.reply-2.ensures c.begun.ensures
