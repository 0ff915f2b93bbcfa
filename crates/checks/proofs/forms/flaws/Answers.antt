use Rattle.checks.proofs.Flaws.{flaws_word}
use Rattle.checks.proofs.forms.flaws.Goals as goal

pub returns : goal.returns
returns c =
    let a = c.args in
    let l = c.lowered-low in
    λ g some blocks e. flaws_word g some blocks a.word l.result c.wrapping_add_u64.result l.ensures.0 l.ensures.1 (rw (← e) c.wrapping_add_u64.ensures.value)
