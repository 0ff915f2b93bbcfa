use Rattle.merges.proofs.Building.{merging_starts, merging_more, merging_all, merging_unread}
use mathlib.Core.Path.{◌≡◌, ◌∙◌}
use Prim.Native.Nat.{◌+◌, min}
use native.Mathlib.Omega.{arith}
use Rattle.words.specs.Words.{block_at}
use Rattle.words.proofs.Blocks.{length_block}
use Rattle.merges.proofs.merge_within.Goals as goal

pub loop-k-init : goal.loop-k-init
loop-k-init c =
    let a = c.args in
    let q = c.requires in
    merging_starts a.part.now (block_at a.part.now a.from) a.patch.offset a.patch.bytes.now a.to a.window (length_block a.part.now a.from q.0) a.patch.inside q.2.0 q.2.1 q.1

pub loop-k-preserved : goal.loop-k-preserved
loop-k-preserved c =
    let a = c.args in
    let q = c.requires in
    let l = c.loop-k in
    let m = l.invariant in
    let block = block_at a.part.now a.from in
    let sized = length_block a.part.now a.from q.0 in
    let e = c.lay_word-next.ensures in
    let read = c.eight_at-visible.ensures ∙ merging_unread a.part.now block a.patch.offset a.patch.bytes.now a.to a.window sized a.patch.inside q.2.0 q.2.1 q.1 a.from l.k (omega arith) q.0 m in
    merging_more a.part.now block a.patch.offset a.patch.bytes.now a.to a.window sized a.patch.inside q.2.0 q.2.1 q.1 l.k (omega (arith, c.min.ensures)) m e.0 (e.1 block sized read)

pub returns : goal.returns
returns c =
    let a = c.args in
    let q = c.requires in
    let l = c.loop-k in
    let e : l.k ≡ a.window.first + min a.p a.window.count = omega (arith, c.min.ensures) in
    merging_all a.part.now (block_at a.part.now a.from) a.patch.offset a.patch.bytes.now a.to a.window (length_block a.part.now a.from q.0) a.patch.inside q.2.0 q.2.1 q.1 a.p e l.invariant
