use Rattle.words.proofs.Laying.{lays_bytes}
use native.Mathlib.Omega.{arith}
use Prim.Native.Nat.{◌*◌}
use Rattle.words.proofs.lay_bytes.Goals as goal

pub returns : goal.returns
returns c =
    let a = c.args in
    lays_bytes a.p a.count a.place (8 * c.min.result) a.bytes.now a.part.now (omega arith) (omega arith) (omega (arith, c.min.ensures)) c.put_bytes.ensures
