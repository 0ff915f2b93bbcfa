use Rattle.copies.proofs.Words.{to_home, to_checkpoint, to_nowhere}
use Rattle.std.proofs.Common.{◌%◌, ◌≢◌, rules, sym}
use Rattle.copies.proofs.copied_to.Goals as goal

pub returns-in-4 : goal.returns-in-4
returns-in-4 c = let a = c.args in sym (to_home a.g a.slot a.word c.in-4.is)

pub returns-in-5 : goal.returns-in-5
returns-in-5 c = let a = c.args in sym (to_checkpoint a.g a.slot a.word c.in-5.is)

pub returns-in_default : goal.returns-in_default
returns-in_default c =
    let a = c.args in
    let four : a.word % 256 ≢ 4 = search rules in
    let five : a.word % 256 ≢ 5 = search rules in
    sym (to_nowhere a.g a.slot a.word four five)
