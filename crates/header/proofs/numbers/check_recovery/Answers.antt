use Rattle.checks.proofs.Passed.{done_number}
use Rattle.forms.proofs.Checking.{no_checkpoint_lem, not_sound, all_sound}
use Rattle.backups.proofs.Opening.{finished_is, table_in_lem}
use Rattle.rules.specs.Numbers.{number_of}
use Rattle.rules.specs.Starts.{sound}
use borrow.Author.Tests.{not-true, not-false}
use native.Mathlib.Nat.{suc-ne-zero}
use mathlib.Core.Path.{sym, ap, ◌∙◌}
use Rattle.std.proofs.lemmas.Bool.{not_from_true, not_from_false}
use Rattle.header.proofs.numbers.check_recovery.Goals as goal

pub returns-in_default : goal.returns-in_default
unfolding number_of
returns-in_default c =
    let a = c.args in
    λ side. (no_checkpoint_lem a.g a.memory.now side (finished_is a.g a.memory.now _ _ c.mark_in-mark.ensures c.finished_by.ensures c.in_default.is), suc-ne-zero 9)

pub returns-then-not-backup_sound : goal.returns-then-not-backup_sound
unfolding number_of
returns-then-not-backup_sound c =
    let a = c.args in
    let f = finished_is a.g a.memory.now _ _ c.mark_in-mark.ensures c.finished_by.ensures c.in-Some.is in
    let table = table_in_lem a.memory.now _ a.g c.in-Some.backup c.backup_start-start.ensures in
    λ side. (not_sound a.g a.memory.now side c.in-Some.backup f (ap (sound a.g) (sym table) ∙ sym c.backup_sound.ensures ∙ not-true _ (not_from_false _ c.if-not-backup_sound.true)), suc-ne-zero 10)

pub returns : goal.returns
returns c =
    let a = c.args in
    let f = finished_is a.g a.memory.now _ _ c.mark_in-mark.ensures c.finished_by.ensures c.in-Some.is in
    let table = table_in_lem a.memory.now _ a.g c.in-Some.backup c.backup_start-start.ensures in
    λ side. done_number (all_sound a.g a.memory.now side c.in-Some.backup f (ap (sound a.g) (sym table) ∙ sym c.backup_sound.ensures ∙ not-false _ (not_from_true _ c.if-not-backup_sound.false)))
