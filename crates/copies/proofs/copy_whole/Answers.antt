use Rattle.copies.proofs.Words.{target_inside, copied, not_copied}
use Rattle.words.proofs.Blocks.{block_part}
use Rattle.rules.specs.Numbers.{allows}
use Rattle.rules.specs.declared.Phase.TheVariants.{Running}
use native.Mathlib.Omega.{arith}
use mathlib.Core.Path.{◌≡◌, refl, sym, ◌∙◌}
use Prim.Native.Nat.{◌+◌, ◌*◌, ◌-◌}
use Rattle.copies.proofs.copy_whole.Goals as goal

pub returns-in_default : goal.returns-in_default
returns-in_default c =
    let a = c.args in
    not_copied a.cache.now a.slot 8 a.memory.now (sym c.copied_to.ensures ∙ c.in_default.is)

pub overflow_mul-block : goal.overflow_mul-block
overflow_mul-block c =
    let a = c.args in
    let q = c.requires in
    let h = target_inside a.g a.slot a.word (allows Running) _ q.formed (sym c.in-Some.is ∙ c.copied_to.ensures) in
    let m = q.memory in
    let x = q.cache in
    omega arith

pub lay_block-requires : goal.lay_block-requires
lay_block-requires c =
    let a = c.args in
    let q = c.requires in
    let h = target_inside a.g a.slot a.word (allows Running) _ q.formed (sym c.in-Some.is ∙ c.copied_to.ensures) in
    let m = q.memory in
    let x = q.cache in
    omega arith

pub returns : goal.returns
returns c =
    let a = c.args in
    let e : 64 * a.slot + 64 - 64 * a.slot ≡ 64 = omega arith in
    copied a.cache.now a.slot _ _ (sym c.copied_to.ensures ∙ c.in-Some.is) refl (rw (e, ← block_part a.cache.now a.slot) at (c.lay_block.ensures 8 (omega arith)))
