use Rattle.forms.proofs.Lists.{fill_one, zeros_lay}
use native.Mathlib.Omega.{arith}
use Rattle.header.proofs.stored.lay_zeros.Goals as goal

pub overflow_add-result : goal.overflow_add-result
overflow_add-result c =
    let first = fill_one _ _ c.fill_words-first.ensures in
    let second = fill_one _ _ c.fill_words-second.ensures in
    omega (arith, first, second)

pub returns : goal.returns
returns c = zeros_lay c.args.g c.memory_words-first_place.ensures c.fill_words-first.ensures c.saturating_sub-left.ensures c.fill_words-second.ensures
