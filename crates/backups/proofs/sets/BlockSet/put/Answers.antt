use Prim.Native.Nat.{ℕ, ◌/◌, ◌%◌}
use native.Mathlib.Omega.{arith}
use Rattle.backups.proofs.Bits.{power_is, set_room, set-put}
use Rattle.backups.proofs.sets.BlockSet.put.Goals as goal

pub overflow_add-self : goal.overflow_add-self
overflow_add-self c =
    let a = c.args in
    rw (power_is (a.block % 64) (omega arith)) (record { fits = set_room a.self.now.words a.block c.requires.1 (omega arith) })

pub returns : goal.returns
returns c =
    let a = c.args in
    let p = c.requires in
    rw (power_is (a.block % 64) (omega arith)) (λ (k : ℕ) h. set-put a.self.now.words a.block p.1 (omega arith) k)
