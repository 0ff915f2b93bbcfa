use native.Mathlib.Omega.{arith}
use Rattle.starts.proofs.Formatting.{format_lays, mark_words, fill_words}
use Rattle.starts.proofs.formats.lay_format.Goals as goal

pub overflow_add-result : goal.overflow_add-result
overflow_add-result c =
    let w3 = fill_words _ _ _ c.lay_fill-cleared.ensures in
    let w4 = mark_words _ _ c.lay_mark-marked.ensures in
    omega arith

pub overflow_add-result-2 : goal.overflow_add-result-2
overflow_add-result-2 c =
    let w2 = fill_words _ _ _ c.lay_fill-filled.ensures in
    let w3 = fill_words _ _ _ c.lay_fill-cleared.ensures in
    let w4 = mark_words _ _ c.lay_mark-marked.ensures in
    omega arith

pub overflow_add-result-3 : goal.overflow_add-result-3
overflow_add-result-3 c =
    let w1 = mark_words _ _ c.lay_mark-unmarked.ensures in
    let w2 = fill_words _ _ _ c.lay_fill-filled.ensures in
    let w3 = fill_words _ _ _ c.lay_fill-cleared.ensures in
    let w4 = mark_words _ _ c.lay_mark-marked.ensures in
    omega arith

pub returns : goal.returns
returns c =
    let a = c.args in
    format_lays a.g a.fill c.home_start-home.ensures c.home_words-home_words.ensures c.backup_start-backup.ensures c.backup_words-backup_words.ensures
    c.lay_mark-unmarked.ensures c.saturating_sub-left1.ensures c.lay_fill-filled.ensures c.saturating_sub-left2.ensures c.lay_fill-cleared.ensures c.saturating_sub-left3.ensures c.lay_mark-marked.ensures
