use Rattle.std.proofs.Common.{get_or, arith}
use Rattle.words.proofs.Laying.{lays_nothing}
use Rattle.rules.specs.declared.Phase.TheVariants.{Running}
use Rattle.rules.specs.TableWords.{says}
use Rattle.rules.specs.Numbers.{well_formed, allows}
use Rattle.rules.specs.Checkpoints.{copies, copied_to}
use Rattle.copies.proofs.Words.{few_words}
use Rattle.copies.proofs.Slots.{slot_formed, lays_more}
use Rattle.copies.proofs.lay_copies.Goals as goal

pub loop-slot-init : goal.loop-slot-init
unfolding copies
loop-slot-init c = (omega arith, lays_nothing _ _)

pub copy_slot-done-requires : goal.copy_slot-done-requires
copy_slot-done-requires c =
    let a = c.args in
    let ready = c.requires.0 in
    let l = c.loop-slot in
    record { low = omega (arith, ready.slots, ready.table); formed = slot_formed (well_formed (allows Running) a.g) a.table.now l.slot c.requires.1 c.loop-slot-test.true; memory = omega (arith, ready.memory, ready.table); cache = omega (arith, ready.cache, ready.table) }

pub overflow_add-done : goal.overflow_add-done
overflow_add-done c =
    let a = c.args in
    let ready = c.requires.0 in
    let l = c.loop-slot in
    let few = few_words a.cache.now l.slot (copied_to a.g l.slot (says (get_or a.table.now l.slot 0))) in
    omega (arith, c.copy_slot-done.ensures.words)

pub loop-slot-preserved : goal.loop-slot-preserved
loop-slot-preserved c =
    let a = c.args in
    let l = c.loop-slot in
    let few = few_words a.cache.now l.slot (copied_to a.g l.slot (says (get_or a.table.now l.slot 0))) in (
      omega (arith, c.copy_slot-done.ensures.words),
      lays_more a.g a.cache.now a.table.now l.slot a.p _ c.loop-slot-test.true l.invariant.1 c.saturating_sub.ensures c.copy_slot-done.ensures,
    )
