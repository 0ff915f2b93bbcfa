use mathlib.Core.Path.{refl, sym, ap, ◌∙◌, subst}
use mathlib.Core.List.{List}
use Prim.Native.Nat.{ℕ, ◌*◌, ◌-◌, ◌/◌, ◌<◌}
use native.Mathlib.Omega.{arith}
use Rattle.words.specs.Words.{lay}
use Rattle.rules.specs.Sweeps.{CleanEntry, clean_from, home_copies, hidden}
use Rattle.sweeps.proofs.Entries.{block_enough}
use Rattle.sweeps.proofs.Walks.{word_still, next_still, walk_starts, walk_finds, walk_block, walk_more, hidden_more, walk_ends, walk_whole}
use Rattle.sweeps.proofs.slots.sweep_slots.Goals as goal

pub loop-swept-init : goal.loop-swept-init
unfolding hidden clean_from
loop-swept-init c =
    let a = c.args in
    (walk_starts a.g a.memory.now a.table.now c.requires.0 (8 * a.entries) a.entries c.requires.1, refl)

pub bounds-table-slot : goal.bounds-table-slot
bounds-table-slot c =
    let a = c.args in
    let q = c.requires in
    let v = c.loop-swept.invariant in
    let n = next_still a.g a.memory.now a.table.now q.0 (8 * a.entries) a.entries q.1 v.0.within c.loop-swept.auto.table v.1 c.next_clean-slot.ensures in
    omega (arith, c.loop-swept.auto.table, walk_finds a.g a.memory.now a.table.now q.0 (8 * a.entries) a.entries q.1 v.0 c.loop-swept-test.true n)

pub copy_home-requires : goal.copy_home-requires
copy_home-requires c =
    let a = c.args in
    let q = c.requires in
    let v = c.loop-swept.invariant in
    let n = next_still a.g a.memory.now a.table.now q.0 (8 * a.entries) a.entries q.1 v.0.within c.loop-swept.auto.table v.1 c.next_clean-slot.ensures in
    let here = walk_finds a.g a.memory.now a.table.now q.0 (8 * a.entries) a.entries q.1 v.0 c.loop-swept-test.true n in
    let word = word_still a.g a.memory.now a.table.now q.0 (8 * a.entries) a.entries q.1 v.0.within c.loop-swept.auto.table v.1 c.next_clean-slot.result n.after in
    let block = walk_block a.g a.memory.now a.table.now q.0 (8 * a.entries) a.entries q.1 v.0 c.loop-swept-test.true n in
    (subst (λ (z : ℕ). z / 256 < a.g.blocks) (sym word) block, omega (arith, here, q.0.table), q.0.slots, v.0.size ∙ q.0.memory)

pub overflow_add-table : goal.overflow_add-table
overflow_add-table c =
    let a = c.args in
    let q = c.requires in
    let v = c.loop-swept.invariant in
    let n = next_still a.g a.memory.now a.table.now q.0 (8 * a.entries) a.entries q.1 v.0.within c.loop-swept.auto.table v.1 c.next_clean-slot.ensures in
    let word = word_still a.g a.memory.now a.table.now q.0 (8 * a.entries) a.entries q.1 v.0.within c.loop-swept.auto.table v.1 c.next_clean-slot.result n.after in
    let block = walk_block a.g a.memory.now a.table.now q.0 (8 * a.entries) a.entries q.1 v.0 c.loop-swept-test.true n in
    omega (arith, word, block, q.0.blocks)

pub bounds-table-slot-in-loop-swept : goal.bounds-table-slot-in-loop-swept
bounds-table-slot-in-loop-swept c =
    let a = c.args in
    let q = c.requires in
    let v = c.loop-swept.invariant in
    let n = next_still a.g a.memory.now a.table.now q.0 (8 * a.entries) a.entries q.1 v.0.within c.loop-swept.auto.table v.1 c.next_clean-slot.ensures in
    omega (arith, c.loop-swept.auto.table, walk_finds a.g a.memory.now a.table.now q.0 (8 * a.entries) a.entries q.1 v.0 c.loop-swept-test.true n)

pub loop-swept-preserved : goal.loop-swept-preserved
loop-swept-preserved c =
    let a = c.args in
    let q = c.requires in
    let v = c.loop-swept.invariant in
    let n = next_still a.g a.memory.now a.table.now q.0 (8 * a.entries) a.entries q.1 v.0.within c.loop-swept.auto.table v.1 c.next_clean-slot.ensures in
    let word = word_still a.g a.memory.now a.table.now q.0 (8 * a.entries) a.entries q.1 v.0.within c.loop-swept.auto.table v.1 c.next_clean-slot.result n.after in
    let e = c.copy_home.ensures in (
      walk_more a.g a.memory.now a.table.now q.0 (8 * a.entries) a.entries q.1 v.0 c.loop-swept-test.true n (8 * a.entries - 8 * c.loop-swept._swept) refl c.copy_home.auto.memory (block_enough _ _ _ (omega (arith, c.loop-swept-test.true)) (rw word at e)),
      hidden_more a.g a.memory.now a.table.now q.0 (8 * a.entries) a.entries q.1 v.0 c.loop-swept-test.true n _ word v.1,
    )

pub returns : goal.returns
returns c =
    let a = c.args in
    let q = c.requires in
    let v = c.loop-swept.invariant in
    let Met-all = walk_ends a.g a.memory.now a.table.now q.0 (8 * a.entries) a.entries q.1 v.0 (omega (arith, c.loop-swept-test.false)) in
    (walk_whole a.g a.memory.now a.table.now q.0 (8 * a.entries) a.entries q.1 (omega arith) v.0 ∙ ap (λ (z : List CleanEntry). lay (home_copies a.g a.memory.now z) a.memory.now) Met-all, v.1 ∙ ap (λ (z : List CleanEntry). hidden z a.table.now) Met-all)
