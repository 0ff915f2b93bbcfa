use mathlib.Core.Path.{sym, ap, ◌∙◌}
use borrow.Author.Tests.{not-true, not-false}
use Rattle.rules.specs.declared.Registers.{Registers}
use Rattle.rules.specs.Starts.{registers_of}
use Rattle.trace.specs.Trace.{register_text, turned_by}
use Rattle.trace.proofs.Turned.{recover_refused, recover_accepted}
use Rattle.std.proofs.lemmas.Bool.{not_from_true, not_from_false}
use Rattle.trace.proofs.Bench.recover_turn.Goals as goal

pub returns-then-not-accepted : goal.returns-then-not-accepted
unfolding turned_by
returns-then-not-accepted c =
    λ value.
    recover_refused _ _ c.recover-recovery.new.self c.recover-recovery.ensures.outcome (sym c.accepted.ensures ∙ not-true _ (not_from_false _ c.if-not-accepted.true)) c.ended.ensures

pub returns-in-Saved : goal.returns-in-Saved
unfolding turned_by register_text
returns-in-Saved c =
    λ value.
    recover_accepted _ _ c.recover-recovery.new.self c.recover-recovery.ensures.outcome (sym c.accepted.ensures ∙ not-false _ (not_from_true _ c.if-not-accepted.false)) (ap (λ (exist : Registers). registers_of exist c.recover-recovery.result.answer.controller.registers) c.in-Saved.is)
    c.ended_with.ensures

pub returns-in-Absent : goal.returns-in-Absent
unfolding turned_by
returns-in-Absent c =
    λ value.
    recover_accepted _ _ c.recover-recovery.new.self c.recover-recovery.ensures.outcome (sym c.accepted.ensures ∙ not-false _ (not_from_true _ c.if-not-accepted.false)) (ap (λ (exist : Registers). registers_of exist c.recover-recovery.result.answer.controller.registers) c.in-Absent.is)
    c.ended_without.ensures
