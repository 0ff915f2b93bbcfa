use Rattle.starts.proofs.Formatting.{format_length}
use Rattle.rules.specs.Geometry.{home_words, backup_words}
use mathlib.Core.Path.{refl}
use native.Mathlib.Omega.{arith}
use Rattle.forms.proofs.Lists.{long_length}
use Prim.Native.Nat.{ℕ, ◌+◌}
use mathlib.Core.Path.{sym, ap, ◌∙◌}
use Rattle.header.proofs.stored.long_format_words.Goals as goal

pub overflow_add-result : goal.overflow_add-result
overflow_add-result c =
    let a = c.args in
    let old = c.format_words.ensures 0 ∙ sym (format_length a.g 0 (home_words a.g + backup_words a.g + 2) refl) in
    omega (arith, old)

pub returns : goal.returns
returns c = λ fill. ap (λ (n : ℕ). n + 3) (c.format_words.ensures fill) ∙ sym (long_length c.args.g fill)
