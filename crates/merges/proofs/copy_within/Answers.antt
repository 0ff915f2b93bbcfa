use mathlib.Core.Path.{◌≡◌, refl, ap, ◌∙◌}
use Prim.Native.Nat.{◌+◌, ◌*◌, min}
use native.Mathlib.Omega.{arith}
use lib.ListN.{length}
use Rattle.words.specs.Words.{put, lay, block_at}
use Rattle.words.proofs.Blocks.{length_block}
use Rattle.merges.proofs.Building.{built_length, built_more, built_all, built_read}
use Rattle.merges.proofs.copy_within.Goals as goal

pub loop-k-init : goal.loop-k-init
unfolding lay
loop-k-init c = (refl, refl)

pub loop-k-preserved : goal.loop-k-preserved
loop-k-preserved c =
    let a = c.args in
    let q = c.requires in
    let l = c.loop-k in
    let m = a.part.now in
    let block = block_at m a.from in
    let sized = length_block m a.from q.0 in
    let read = c.eight_at-kept.ensures ∙ built_read m block (8 * a.to) 8 (omega arith) (omega arith) a.from l.k l.k l.invariant.1 (omega arith) (omega arith) (λ o. omega arith) q.0 in
    let e = built_more m block (8 * a.to) 8 (omega arith) (omega arith) l.k (omega arith) l.invariant.1 (c.put_word.ensures ∙ ap (put l.part (8 * a.to + l.k)) read) in
    (ap length e ∙ built_length m block (8 * a.to) 8 (omega arith) (omega arith) (l.k + 1) (omega arith), e)

pub returns : goal.returns
returns c =
    let a = c.args in
    let q = c.requires in
    let l = c.loop-k in
    let m = a.part.now in
    let e : l.k ≡ min a.p 8 = omega (arith, c.min-k-end.ensures) in
    let sized = length_block m a.from q.0 in
    built_all m (block_at m a.from) (8 * a.to) 8 (omega arith) (omega arith) a.p e l.invariant.1
