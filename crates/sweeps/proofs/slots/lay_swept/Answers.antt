use mathlib.Core.Path.{◌≡◌, ap, ◌∙◌, subst}
use mathlib.Core.List.{List}
use Prim.Native.Nat.{◌*◌}
use native.Mathlib.Omega.{arith}
use Rattle.words.specs.Words.{Lays}
use Rattle.rules.specs.Sweeps.{CleanEntry, home_copies}
use Rattle.sweeps.proofs.Walks.{walk_starts, walk_finds, walk_block, walk_more, walk_ends}
use Rattle.sweeps.proofs.slots.lay_swept.Goals as goal

pub loop-done-init : goal.loop-done-init
loop-done-init c =
    let a = c.args in
    walk_starts a.g a.memory.now a.table.now c.requires.0 a.p a.entries c.requires.1

pub bounds-table-slot : goal.bounds-table-slot
bounds-table-slot c =
    let a = c.args in
    walk_finds a.g a.memory.now a.table.now c.requires.0 a.p a.entries c.requires.1 c.loop-done.invariant c.loop-done-test.true c.next_clean-slot.ensures

pub copy_home-requires : goal.copy_home-requires
copy_home-requires c =
    let a = c.args in
    let q = c.requires in
    let w = c.loop-done.invariant in
    let here = walk_finds a.g a.memory.now a.table.now q.0 a.p a.entries q.1 w c.loop-done-test.true c.next_clean-slot.ensures in
    (walk_block a.g a.memory.now a.table.now q.0 a.p a.entries q.1 w c.loop-done-test.true c.next_clean-slot.ensures, omega (arith, here, q.0.table), q.0.slots, w.size ∙ q.0.memory)

pub loop-done-preserved : goal.loop-done-preserved
loop-done-preserved c =
    let a = c.args in
    let q = c.requires in
    walk_more a.g a.memory.now a.table.now q.0 a.p a.entries q.1 c.loop-done.invariant c.loop-done-test.true c.next_clean-slot.ensures _ c.saturating_sub.ensures c.copy_home.auto.memory c.copy_home.ensures

pub returns : goal.returns
returns c =
    let a = c.args in
    let q = c.requires in
    let w = c.loop-done.invariant in
    let e : c.loop-done.done ≡ a.entries = omega (arith, w.few, c.loop-done-test.false) in
    subst (λ (z : List CleanEntry). Lays a.p (home_copies a.g a.memory.now z) a.memory.now c.loop-done.memory (8 * a.entries)) (walk_ends a.g a.memory.now a.table.now q.0 a.p a.entries q.1 w (omega arith)) (subst (Lays a.p _ a.memory.now c.loop-done.memory) (ap (λ k. 8 * k) e) w.laid)
