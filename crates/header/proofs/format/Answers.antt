use Rattle.header.proofs.Calling.{format_refused, format_goes}
use Rattle.forms.proofs.Checking.{fitted}
use Rattle.starts.proofs.Formatting.{cut, done}
use Rattle.checks.specs.Answers.{answer_of}
use Rattle.rules.specs.declared.Number.TheVariants as No
use mathlib.Core.Path.{refl, ap, ◌∙◌}
use Rattle.header.proofs.format.Goals as goal

pub returns-in-Err : goal.returns-in-Err
returns-in-Err c =
    let a = c.args in
    let h = c.in-Err.ensures a.controller in
    format_refused a.p a.memory.now a.cache.now a.table.now a.controller a.g _ a.fill h.0 h.1 c.refused.ensures

pub lay_long_format-requires : goal.lay_long_format-requires
lay_long_format-requires c =
    let a = c.args in
    (fitted a.memory.now a.cache.now a.table.now a.controller a.g (c.in_default.ensures a.controller)).size

pub returns-then-p-words : goal.returns-then-p-words
returns-then-p-words c =
    let a = c.args in
    let z = c.in_default.ensures a.controller in
    let l = fitted a.memory.now a.cache.now a.table.now a.controller a.g z in
    format_goes a.p a.memory.now a.cache.now a.table.now a.controller a.g _ a.fill refl z c.lay_long_format.ensures (c.long_format_words-words.ensures a.fill) l.ready.table
    (cut c.if-p-words.true (c.reply.ensures ∙ ap (answer_of No.Cut a.p) c.cut_short.ensures) refl)

pub returns : goal.returns
returns c =
    let a = c.args in
    let z = c.in_default.ensures a.controller in
    let l = fitted a.memory.now a.cache.now a.table.now a.controller a.g z in
    let w = c.long_format_words-words in
    format_goes a.p a.memory.now a.cache.now a.table.now a.controller a.g _ a.fill refl z c.lay_long_format.ensures (w.ensures a.fill) l.ready.table
    (done c.if-p-words.false (c.reply-2.ensures ∙ ap (answer_of No.Done w.result) c.started-formatted.ensures) c.clear_table.ensures)
