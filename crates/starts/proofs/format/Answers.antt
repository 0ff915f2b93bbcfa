use Rattle.starts.proofs.Formatting.{cut, done, format_refused, format_goes}
use Rattle.checks.proofs.Passed.{sizes_ready}
use Rattle.checks.specs.Answers.{answer_of}
use Rattle.rules.specs.declared.Number.TheVariants as No
use native.Mathlib.Omega.{arith}
use mathlib.Core.Path.{refl, ap, ◌∙◌}
use Rattle.starts.proofs.format.Goals as goal

pub returns-in-Err : goal.returns-in-Err
returns-in-Err c =
    let a = c.args in
    let h = c.in-Err.ensures a.controller in
    format_refused a.p a.memory.now a.cache.now a.table.now a.controller a.g a.fill _ h.0 h.1 c.refused.ensures

pub lay_format-requires : goal.lay_format-requires
lay_format-requires c =
    let a = c.args in
    omega (arith, (sizes_ready a.memory.now a.cache.now a.table.now a.g a.controller (c.in_default.ensures a.controller)).memory)

pub returns-then-p-words : goal.returns-then-p-words
returns-then-p-words c =
    let a = c.args in
    let z = c.in_default.ensures a.controller in
    format_goes a.p a.memory.now a.cache.now a.table.now a.controller a.g a.fill _ refl z c.lay_format.ensures (c.format_words-words.ensures a.fill)
    (sizes_ready a.memory.now a.cache.now a.table.now a.g a.controller z).table (cut c.if-p-words.true (c.reply.ensures ∙ ap (answer_of No.Cut a.p) c.cut_short.ensures) refl)

pub returns : goal.returns
returns c =
    let a = c.args in
    let z = c.in_default.ensures a.controller in
    let w = c.format_words-words in
    format_goes a.p a.memory.now a.cache.now a.table.now a.controller a.g a.fill _ refl z c.lay_format.ensures (w.ensures a.fill)
    (sizes_ready a.memory.now a.cache.now a.table.now a.g a.controller z).table (done c.if-p-words.false (c.reply-2.ensures ∙ ap (answer_of No.Done w.result) c.started-formatted.ensures) c.clear_table.ensures)
