use Rattle.copies.proofs.Words.{copied_blocks}
use native.Mathlib.Omega.{arith}
use Rattle.copies.proofs.counts.copies_for.Goals as goal

pub returns : goal.returns
returns c = (omega arith, λ f g cache slot. copied_blocks cache slot g c.args.word f)
