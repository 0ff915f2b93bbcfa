use Rattle.codec.specs.Supposed.{number_at}
use Rattle.fields.proofs.Numbers.{two_at}
use Rattle.fields.specs.Fields.{big_number}
use native.Mathlib.Omega.{arith}
use Rattle.codec.proofs.number_in.Goals as goal

pub returns : goal.returns
unfolding number_at big_number
returns c =
    let a = c.args in
    (rw (two_at a.bytes.now a.start (omega arith)) (omega arith), λ i. omega (arith, c.type_inv.bytes i))
