use mathlib.Core.Path.{sym, ◌∙◌}
use mathlib.Core.List.{List}
use Prim.Native.Nat.{ℕ}
use borrow.Author.Tests.{not-false}
use Rattle.backups.proofs.Sound.{took_free, took_twice, took_new, named_low}
use Rattle.std.proofs.lemmas.Bool.{not_from_true}
use Rattle.backups.proofs.sets.BlockSet.take.Goals as goal

pub returns-then-word-eq0 : goal.returns-then-word-eq0
returns-then-word-eq0 c = λ (after : List ℕ) m. took_free _ _ after _ (sym c.clean_word.ensures ∙ not-false _ (not_from_true _ c.if-not-clean_word.false)) c.if-word-eq0.true m

pub has-requires : goal.has-requires
has-requires c = named_low _ _ (sym c.clean_word.ensures ∙ not-false _ (not_from_true _ c.if-not-clean_word.false)) c.if-word-eq0.false c.requires

pub returns-then-has : goal.returns-then-has
returns-then-has c = λ (after : List ℕ) m. took_twice _ _ after _ (sym c.clean_word.ensures ∙ not-false _ (not_from_true _ c.if-not-clean_word.false)) c.if-word-eq0.false c.requires m (sym c.has.ensures ∙ c.if-has.true)

pub put-requires : goal.put-requires
put-requires c =
    (named_low _ _ (sym c.clean_word.ensures ∙ not-false _ (not_from_true _ c.if-not-clean_word.false)) c.if-word-eq0.false c.requires, sym c.has.ensures ∙ c.if-has.false)

pub returns : goal.returns
returns c = λ (after : List ℕ) m. took_new _ _ after _ (sym c.clean_word.ensures ∙ not-false _ (not_from_true _ c.if-not-clean_word.false)) c.if-word-eq0.false c.requires m _ (sym c.has.ensures ∙ c.if-has.false) c.put.ensures
