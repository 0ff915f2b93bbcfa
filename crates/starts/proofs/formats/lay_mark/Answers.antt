use mathlib.Core.Path.{ap}
use Prim.Native.Nat.{ℕ, ◌*◌}
use native.Mathlib.Omega.{arith}
use Rattle.rules.specs.Geometry.{mark_start}
use Rattle.starts.proofs.Formatting.{mark_in_part}
use Rattle.starts.proofs.formats.lay_mark.Goals as goal

pub returns : goal.returns
returns c =
    let a = c.args in
    let p = c.requires in
    let s = c.mark_start-start.ensures in
    mark_in_part a.memory.now _ (mark_start a.g) (ap (λ (place : ℕ). 8 * place) s) a.mark (omega arith) c.lay_number.ensures
