use mathlib.Core.Path.{◌≡◌, sym, ap, ◌∙◌}
use mathlib.Core.Bool.{true}
use Prim.Native.Nat.{ℕ, ◌*◌}
use native.Mathlib.Omega.{arith}
use borrow.Author.Tests.{not-true, not-false}
use Rattle.lending.specs.Lending.{fits, lent_memory}
use Rattle.lending.proofs.Sizes.{fits_sizes, some_lent, none_lent}
use Rattle.std.proofs.lemmas.Bool.{not_from_true, not_from_false}
use Rattle.lending.proofs.lent_memory.Goals as goal

pub returns-then-not-fits_in : goal.returns-then-not-fits_in
unfolding lent_memory
returns-then-not-fits_in c = (none_lent _ (sym c.fits_in.ensures ∙ not-true _ (not_from_false _ c.if-not-fits_in.true)), omega arith)

pub returns : goal.returns
unfolding lent_memory
returns c =
    let f : fits c.args.g ≡ true = sym c.fits_in.ensures ∙ not-false _ (not_from_true _ c.if-not-fits_in.false) in
    let s = fits_sizes c.args.g f in
    (ap (λ (n : ℕ). 8 * n) c.memory_words.ensures ∙ some_lent _ f, omega (arith, c.memory_words.ensures, s.0, s.1))
