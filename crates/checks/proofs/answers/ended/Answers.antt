use Rattle.rules.specs.declared.Number.TheVariants as No
use Rattle.checks.specs.Answers.{answer_of, ended_of}
use Rattle.std.proofs.Common.{ap, ◌∙◌, le-leb}
use borrow.Author.Tests.{lt-leb}
use Rattle.checks.proofs.answers.ended.Goals as goal

pub returns-then-p-words : goal.returns-then-p-words
unfolding ended_of
returns-then-p-words c = rw (lt-leb c.args.words c.args.p c.if-p-words.true) (c.reply.ensures ∙ ap (answer_of No.Cut c.args.p) c.switched_off.ensures)

pub returns : goal.returns
unfolding ended_of
returns c = rw (le-leb c.args.words c.args.p c.if-p-words.false) c.reply-2.ensures
