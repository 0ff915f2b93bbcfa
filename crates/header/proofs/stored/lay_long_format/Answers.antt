use Rattle.forms.proofs.Lists.{zeroed_length, header_two, long_lays}
use Rattle.starts.proofs.Formatting.{format_length}
use Prim.Native.Nat.{◌+◌}
use Rattle.rules.specs.Geometry.{home_words, backup_words}
use mathlib.Core.Path.{◌∙◌, sym, refl}
use native.Mathlib.Omega.{arith}
use Rattle.header.proofs.stored.lay_long_format.Goals as goal

pub overflow_add-result : goal.overflow_add-result
overflow_add-result c =
    let a = c.args in
    let formatted = c.lay_format-formatted.ensures.words ∙ sym (format_length a.g a.fill (home_words a.g + backup_words a.g + 2) refl) in
    let headed = c.lay_header-headed.ensures.words ∙ header_two a.g in
    omega (arith, formatted, headed)

pub overflow_add-result-2 : goal.overflow_add-result-2
overflow_add-result-2 c =
    let a = c.args in
    let zeroed = c.zero_first-zeroed.ensures.words ∙ zeroed_length a.g in
    let formatted = c.lay_format-formatted.ensures.words ∙ sym (format_length a.g a.fill (home_words a.g + backup_words a.g + 2) refl) in
    let headed = c.lay_header-headed.ensures.words ∙ header_two a.g in
    omega (arith, zeroed, formatted, headed)

pub returns : goal.returns
returns c = long_lays c.args.g c.args.fill c.zero_first-zeroed.ensures c.saturating_sub-left1.ensures c.lay_format-formatted.ensures c.saturating_sub-left2.ensures c.lay_header-headed.ensures
