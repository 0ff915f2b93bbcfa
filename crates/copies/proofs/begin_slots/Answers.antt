use Rattle.std.proofs.Common.{◌≡◌, refl, ap, ◌∙◌, List, ℕ, get_or, arith}
use Rattle.words.specs.Words.{lay}
use Rattle.rules.specs.declared.Phase.TheVariants.{Running}
use Rattle.rules.specs.TableWords.{changed}
use Rattle.rules.specs.Numbers.{well_formed, allows}
use Rattle.rules.specs.Checkpoints.{copies, begun}
use Rattle.copies.proofs.Slots.{slot_formed, lay_more, not_reached, one_word_more}
use Rattle.copies.proofs.begin_slots.Goals as goal

pub loop-slot-init : goal.loop-slot-init
unfolding copies lay
loop-slot-init c = (refl, refl)

pub copy_whole-requires : goal.copy_whole-requires
copy_whole-requires c =
    let a = c.args in
    let ready = c.requires.0 in
    let l = c.loop-slot in
    let e = ap (λ (z : List ℕ). get_or z l.slot 0) l.invariant.1 ∙ not_reached (changed begun) a.table.now l.slot in
    record { low = omega (arith, ready.slots, ready.table); formed = ap (well_formed (allows Running) a.g) e ∙ slot_formed (well_formed (allows Running) a.g) a.table.now l.slot c.requires.1 c.loop-slot-test.true; memory = omega (arith, ready.memory, ready.table); cache = omega (arith, ready.cache, ready.table) }

pub loop-slot-preserved : goal.loop-slot-preserved
loop-slot-preserved c =
    let a = c.args in
    let l = c.loop-slot in
    let t = a.table.now in
    let h = c.loop-slot-test.true in
    let e : get_or l.table l.slot 0 ≡ get_or t l.slot 0 = ap (λ (z : List ℕ). get_or z l.slot 0) l.invariant.1 ∙ not_reached (changed begun) t l.slot in
    let x = c.copy_whole.ensures in (
      lay_more a.g a.cache.now t l.slot a.memory.now h l.invariant.0 (rw e at x),
      rw (c.begun_word.ensures, e, l.invariant.1) (one_word_more (changed begun) t l.slot h),
    )
