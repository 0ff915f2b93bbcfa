use mathlib.Core.Path.{◌∙◌, sym}
use Rattle.words.proofs.Makers.{words_part}
use Rattle.backups.proofs.Opening.{opened_saved, opened_absent}
use Rattle.backups.proofs.opened.Goals as goal

pub returns-in-Saved : goal.returns-in-Saved
returns-in-Saved c =
    let a = c.args in
    c.started.ensures ∙ opened_saved a.g a.backup _ _ _ c.in-Saved.is (c.copy_part.ensures ∙ sym (words_part a.part.now 8 0))

pub returns-in-Absent : goal.returns-in-Absent
returns-in-Absent c =
    let a = c.args in
    c.started-in-Absent.ensures ∙ opened_absent a.g a.backup _ _ c.in-Absent.is
