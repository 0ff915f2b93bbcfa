use mathlib.Core.Path.{◌≡◌, subst, sym}
use mathlib.Core.Bool.{true}
use native.Mathlib.Omega.{arith}
use Rattle.rules.specs.Starts.{sound}
use mathlib.Core.List.{List, []}
use Prim.Native.Nat.{ℕ}
use lib.ListN.{drop}
use Rattle.words.specs.Words.{numbers}
use Rattle.backups.specs.Sets.{Marks}
use Rattle.backups.proofs.Sound.{marks_none, sound_start, turn_fails, turn_more}
use Rattle.backups.proofs.backup_sound.Goals as goal

pub loop-slot-init : goal.loop-slot-init
loop-slot-init c =
    let a = c.args in
    let set = c.empty-set in
    sound_start a.part.now a.g set.result.words a.g.slots (subst (λ (words : List ℕ). Marks words []) (sym set.ensures) marks_none)

pub loop-slot-preserved : goal.loop-slot-preserved
loop-slot-preserved c =
    let a = c.args in
    let l = c.loop-slot in
    turn_more a.part.now a.g _ a.g.slots l.slot _ _ c.loop-slot-test.true l.auto.slot c.number_at.ensures
    (c.take.ensures (drop l.slot (numbers a.part.now 8 a.g.slots)) l.invariant.1) c.if-not-take.false l.invariant.0

pub returns : goal.returns
returns c =
    let a = c.args in
    let e : c.loop-slot.slot ≡ 0 = omega arith in
    sym (subst (λ (n : ℕ). sound a.g (drop n (numbers a.part.now 8 a.g.slots)) ≡ true) e c.loop-slot.invariant.0)

pub returns-then-not-take : goal.returns-then-not-take
returns-then-not-take c =
    let a = c.args in
    let l = c.loop-slot in
    turn_fails a.part.now a.g _ a.g.slots l.slot _ _ c.loop-slot-test.true l.auto.slot c.number_at.ensures
    (c.take.ensures (drop l.slot (numbers a.part.now 8 a.g.slots)) l.invariant.1) c.if-not-take.true
