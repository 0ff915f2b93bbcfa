use Prim.Native.Nat.{◌+◌, ◌-◌}
use lib.ListN.{length}
use native.Mathlib.Omega.{arith}
use Rattle.merges.proofs.Merged.{over_part}
use Rattle.merges.proofs.lay_over.Goals as goal

pub returns : goal.returns
returns c =
    let a = c.args in
    over_part a.kept.now a.bytes.now _ a.offset (a.offset + length a.bytes.now - a.offset) (omega arith) (omega arith) c.copy_part.ensures
