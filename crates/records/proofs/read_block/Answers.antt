use mathlib.Core.Path.{sym, ◌∙◌}
use native.Mathlib.Omega.{arith}
use borrow.Author.Tests.{not-true, not-false}
use Rattle.words.proofs.Same.{false_is_true}
use Rattle.records.proofs.Recognized.{reads_none, reads_record}
use Rattle.std.proofs.lemmas.Bool.{not_from_true, not_from_false}
use Rattle.records.proofs.read_block.Goals as goal

pub returns-then-not-is_encoding : goal.returns-then-not-is_encoding
returns-then-not-is_encoding c = reads_none _ _ c.supposed-says.ensures (λ e. false_is_true (sym (not-true _ (not_from_false _ c.if-not-is_encoding.true)) ∙ c.is_encoding.ensures.1 e))

pub returns : goal.returns
returns c = reads_record _ _ c.supposed-says.ensures (c.is_encoding.ensures.0 (not-false _ (not_from_true _ c.if-not-is_encoding.false))) (omega arith) _ _ c.from-wire.ensures c.class_of.ensures
