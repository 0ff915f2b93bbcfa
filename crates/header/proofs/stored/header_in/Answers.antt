use Rattle.std.proofs.Common.{ℕ, ◌*◌, sym, ap, ◌∙◌}
use Rattle.std.specs.Cmp.Lexicographic.{same_text, other_text}
use Rattle.rules.specs.Geometry.{memory_words}
use Rattle.forms.proofs.HeaderBytes.{says_missing, says_fits, says_other, word_in_part, two_in_part}
use Rattle.header.proofs.stored.header_in.Goals as goal

pub returns-then-eq : goal.returns-then-eq
returns-then-eq c =
    let a = c.args in
    let e = ap (λ (place : ℕ). 8 * place) c.memory_words.ensures in
    sym (says_missing a.g a.memory.now (sym (word_in_part a.memory.now (memory_words a.g) _ e) ∙ same_text _ _ (sym c.if-eq.true ∙ c.eq.ensures)))

pub returns-then-eq-2 : goal.returns-then-eq-2
returns-then-eq-2 c =
    let a = c.args in
    let e = ap (λ (place : ℕ). 8 * place) c.memory_words.ensures in
    sym (says_fits a.g a.memory.now (sym (two_in_part a.memory.now (memory_words a.g) _ e) ∙ same_text _ _ (sym c.if-eq-2.true ∙ c.eq-2.ensures) ∙ c.header_bytes-wanted.ensures))

pub returns : goal.returns
returns c =
    let a = c.args in
    let e = ap (λ (place : ℕ). 8 * place) c.memory_words.ensures in
    sym (says_other a.g a.memory.now
    (λ zero. other_text _ _ (sym c.if-eq.false ∙ c.eq.ensures) (word_in_part a.memory.now (memory_words a.g) _ e ∙ zero))
    (λ these. other_text _ _ (sym c.if-eq-2.false ∙ c.eq-2.ensures) (two_in_part a.memory.now (memory_words a.g) _ e ∙ these ∙ sym c.header_bytes-wanted.ensures)))
