use mathlib.Core.Path.{sym, ◌∙◌}
use borrow.Author.Tests.{not-true, not-false}
use Rattle.trace.specs.Trace.{turned_by}
use Rattle.trace.proofs.Turned.{load_refused, load_accepted}
use Rattle.std.proofs.lemmas.Bool.{not_from_true, not_from_false}
use Rattle.trace.proofs.Bench.load_into.Goals as goal

pub returns-then-not-accepted : goal.returns-then-not-accepted
unfolding turned_by
returns-then-not-accepted c =
    λ value.
    load_refused _ _ c.args.self.now.arrays _ c.load-loaded.ensures c.refused-answer.ensures (sym c.accepted.ensures ∙ not-true _ (not_from_false _ c.if-not-accepted.true)) c.ended.ensures

pub returns : goal.returns
unfolding turned_by
returns c =
    λ value.
    load_accepted _ _ c.args.self.now.arrays _ c.load-loaded.ensures c.refused-answer.ensures (sym c.accepted.ensures ∙ not-false _ (not_from_true _ c.if-not-accepted.false)) c.ended_with.ensures
