use Rattle.door.proofs.Sizes.{too_large}
use Rattle.door.specs.Doors as D
use native.Mathlib.Omega.{arith}
use mathlib.Core.Path.{sym}
use Rattle.door.proofs.early.given_sizes.Goals as goal

pub returns-in_default : goal.returns-in_default
returns-in_default c =
    let a = c.args in
    rw c.if-not-formed.false (sym (too_large (D.sized a.blocks a.slots) a.memory a.cache a.table (λ b. c.in_default.ensures (omega (arith, b.blocks)))))

pub returns-in_default-try_from : goal.returns-in_default-try_from
returns-in_default-try_from c =
    let a = c.args in
    rw c.if-not-formed.false (sym (too_large (D.sized a.blocks a.slots) a.memory a.cache a.table (λ b. c.in_default-try_from.ensures (omega (arith, b.slots)))))
