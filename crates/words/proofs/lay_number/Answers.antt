use mathlib.Core.Path.{◌≡◌, ap, ◌∙◌, sym}
use Prim.Native.Nat.{◌+◌, ◌*◌, ◌-◌}
use native.Mathlib.Omega.{arith}
use lib.ListN.{length}
use Rattle.std.proofs.lemmas.Slice.{put_mid-paste}
use Rattle.words.proofs.Laying.{lays_bytes, lays_number, lays_none, length-little_endian}
use Rattle.words.proofs.lay_number.Goals as goal

pub returns-then-p-gt0 : goal.returns-then-p-gt0
returns-then-p-gt0 c =
    let a = c.args in
    let e : length c.word_bytes.result ≡ 8 = ap length c.word_bytes.ensures ∙ length-little_endian 8 a.value in
    lays_number a.p a.place a.value c.word_bytes.result c.word_bytes.ensures
    (lays_bytes a.p 1 a.place 8 c.word_bytes.result a.part.now (omega (arith, e)) (omega (arith, c.requires)) (omega (arith, c.if-p-gt0.true))
    (put_mid-paste (8 * a.place) (8 * a.place + 8 - 8 * a.place) a.part.now c.put_array.new.part c.word_bytes.result 8 c.put_array.ensures (omega arith) (sym e)))

pub returns-else-p-gt0 : goal.returns-else-p-gt0
returns-else-p-gt0 c =
    let a = c.args in
    let none : a.p ≡ 0 = omega (arith, c.if-p-gt0.false) in
    rw none (lays_none a.place a.value a.part.now)
