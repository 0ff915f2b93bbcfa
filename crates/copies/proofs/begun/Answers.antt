use mathlib.Core.Path.{ap, ◌∙◌}
use native.Mathlib.Omega.{arith}
use lib.Seq.{take_all}
use Rattle.copies.specs.Records.{begun_record}
use Rattle.copies.proofs.begun.Goals as goal

pub returns : goal.returns
returns c =
    let a = c.args in
    ap (begun_record a.controller) (c.copy_part.ensures ∙ take_all 64 a.registers.now (omega arith))
