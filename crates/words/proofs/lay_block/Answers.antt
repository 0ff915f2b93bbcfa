use mathlib.Core.Path.{◌∙◌, sym}
use Prim.Native.Nat.{◌+◌, ◌*◌, ◌-◌}
use native.Mathlib.Omega.{arith}
use lib.Seq.{take_all}
use Rattle.std.proofs.lemmas.Slice.{put_mid-paste}
use Rattle.words.proofs.Laying.{lays_bytes}
use Rattle.words.proofs.lay_block.Goals as goal

pub returns : goal.returns
returns c =
    let a = c.args in
    let first = rw c.unwrap-kept.ensures at c.first_chunk.ensures.cases in
    let same = c.put_array.ensures ∙ first.same ∙ take_all 64 a.block.now (omega (arith, c.requires.1)) in
    λ p h. lays_bytes p 8 a.place 64 a.block.now a.part.now (omega (arith, c.requires.1)) (omega (arith, c.requires.0)) (omega arith)
    (put_mid-paste (8 * a.place) (8 * a.place + 64 - 8 * a.place) a.part.now c.put_array.new.part a.block.now 64 same (omega arith) (sym c.requires.1))
