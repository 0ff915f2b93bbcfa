use borrow.Author.Tests.{eq-eqb, ne_eqb}
use Rattle.codec.specs.Supposed.{backup_for}
use Rattle.codec.proofs.backup_for.Goals as goal

pub returns-then-byte-eq1 : goal.returns-then-byte-eq1
unfolding backup_for
returns-then-byte-eq1 c = simp (eq-eqb _ _ c.if-byte-eq1.true)

pub returns-else-byte-eq1 : goal.returns-else-byte-eq1
unfolding backup_for
returns-else-byte-eq1 c = simp (ne_eqb _ _ c.if-byte-eq1.false)
