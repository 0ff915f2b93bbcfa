use Rattle.copies.proofs.Slots.{tail_block}
use Rattle.copies.proofs.Words.{target_inside, copied, not_copied}
use Rattle.rules.specs.Numbers.{allows}
use Rattle.rules.specs.declared.Phase.TheVariants.{Running}
use native.Mathlib.Omega.{arith}
use mathlib.Core.Path.{refl, sym, ◌∙◌}
use Rattle.copies.proofs.copy_slot.Goals as goal

pub returns-in_default : goal.returns-in_default
returns-in_default c =
    let a = c.args in
    not_copied a.cache.now a.slot a.p a.memory.now (sym c.copied_to.ensures ∙ c.in_default.is)

pub overflow_mul-block : goal.overflow_mul-block
overflow_mul-block c =
    let a = c.args in
    let q = c.requires in
    let h = target_inside a.g a.slot a.word (allows Running) _ q.formed (sym c.in-Some.is ∙ c.copied_to.ensures) in
    let m = q.memory in
    let x = q.cache in
    omega arith

pub lay_bytes-requires : goal.lay_bytes-requires
lay_bytes-requires c =
    let a = c.args in
    let q = c.requires in
    let h = target_inside a.g a.slot a.word (allows Running) _ q.formed (sym c.in-Some.is ∙ c.copied_to.ensures) in
    let m = q.memory in
    let x = q.cache in
    omega arith

pub returns : goal.returns
returns c =
    let a = c.args in
    copied a.cache.now a.slot _ _ (sym c.copied_to.ensures ∙ c.in-Some.is) refl (rw (tail_block a.cache.now a.slot _) at c.lay_bytes.ensures)
