use mathlib.Core.Path.{◌≡◌, refl, ap, ◌∙◌}
use Prim.Native.Nat.{◌+◌, ◌*◌}
use native.Mathlib.Omega.{arith}
use lib.ListN.{length}
use Rattle.words.specs.Words.{word, put, lay}
use Rattle.merges.proofs.Building.{built_length, built_more, built_all}
use Rattle.merges.proofs.lay_whole.Goals as goal

pub loop-k-init : goal.loop-k-init
unfolding lay
loop-k-init c = (refl, refl)

pub loop-k-preserved : goal.loop-k-preserved
unfolding word
loop-k-preserved c =
    let a = c.args in
    let q = c.requires in
    let l = c.loop-k in
    let e = built_more a.part.now a.bytes.now (8 * a.to) 8 (omega arith) (omega arith) l.k (omega arith) l.invariant.1 (c.put_word.ensures ∙ ap (put l.part (8 * a.to + l.k)) c.eight_at-kept.ensures) in
    (ap length e ∙ built_length a.part.now a.bytes.now (8 * a.to) 8 (omega arith) (omega arith) (l.k + 1) (omega arith), e)

pub returns : goal.returns
returns c =
    let a = c.args in
    let q = c.requires in
    let l = c.loop-k in
    let e : l.k ≡ 8 = omega arith in
    built_all a.part.now a.bytes.now (8 * a.to) 8 (omega arith) (omega arith) 8 e l.invariant.1
