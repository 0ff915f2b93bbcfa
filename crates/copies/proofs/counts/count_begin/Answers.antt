use Rattle.std.proofs.Common.{ℕ, ◌*◌, ap, ◌∙◌, arith, refl}
use Rattle.rules.specs.Numbers.{allows}
use Rattle.checks.proofs.Summing.{checks_pass}
use Rattle.checks.proofs.Walking.{formed_table}
use Rattle.copies.proofs.Slots.{blocks_by, one_word, blocks_summed, few_blocks}
use Rattle.copies.proofs.counts.count_begin.Goals as goal

pub overflow_mul-result : goal.overflow_mul-result
overflow_mul-result c =
    let a = c.args in
    let k = a.controller in
    let g = k.geometry in
    let ok = checks_pass a.memory.now a.cache.now a.table.now k a.unfit c.in_ok-blocks.ensures.judged in
    let sum = c.in_ok-blocks.ensures.summed blocks_by
    (λ word n formed post. one_word (allows k.phase) g ok.ready.blocks word n formed post.1) _ refl in
    let few = few_blocks a.table.now in
    omega (arith, ok.ready.table, ok.ready.slots)

pub returns-clause-counted : goal.returns-clause-counted
returns-clause-counted c =
    let a = c.args in
    let k = a.controller in
    let g = k.geometry in
    let t = a.table.now in
    let ok = checks_pass a.memory.now a.cache.now t k a.unfit c.in_ok-blocks.ensures.judged in
    let sum = c.in_ok-blocks.ensures.summed blocks_by
    (λ word n formed post. one_word (allows k.phase) g ok.ready.blocks word n formed post.1) _ refl in
    ap (λ (z : ℕ). 8 * z) sum ∙ blocks_summed g a.cache.now 0 t (formed_table (allows k.phase) g t ok.ready.blocks ok.formed)
