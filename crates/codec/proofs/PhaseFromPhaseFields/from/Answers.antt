use native.Mathlib.Omega.{arith}
use borrow.Author.Tests.{ne_eqb}
use Rattle.codec.specs.Supposed.{phase_for}
use Rattle.codec.proofs.PhaseFromPhaseFields.from.Goals as goal

pub returns-in-0 : goal.returns-in-0
unfolding phase_for
returns-in-0 c = rw c.in-0.is

pub returns-in-1 : goal.returns-in-1
unfolding phase_for
returns-in-1 c = rw c.in-1.is

pub returns-in_default : goal.returns-in_default
unfolding phase_for
returns-in_default c = let f = c.args.fields in simp (ne_eqb f.byte 0 (λ e. omega arith), ne_eqb f.byte 1 (λ e. omega arith))
