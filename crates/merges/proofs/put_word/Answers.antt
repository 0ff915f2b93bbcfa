use native.Mathlib.Omega.{arith}
use mathlib.Core.Path.{◌∙◌}
use Rattle.merges.proofs.Merged.{put_eight}
use Rattle.merges.proofs.put_word.Goals as goal

pub returns : goal.returns
returns c =
    let a = c.args in
    c.put_bytes.ensures ∙ put_eight a.part.now a.kept a.place (omega arith)
