use mathlib.Core.Path.{sym, ◌∙◌}
use Rattle.loads.proofs.Laws.{block_out, offset_out, length_out, end_out}
use Rattle.loads.proofs.out_of_range.Goals as goal

pub returns-then-no_block : goal.returns-then-no_block
returns-then-no_block c = λ board e. block_out board _ _ _ (sym (c.no_block.ensures board e) ∙ c.if-no_block.true)

pub returns-then-offset-gt63 : goal.returns-then-offset-gt63
returns-then-offset-gt63 c = λ board e. offset_out board _ _ _ (sym (c.no_block.ensures board e) ∙ c.if-no_block.false) c.if-offset-gt63.true

pub returns-then-len-eq0 : goal.returns-then-len-eq0
returns-then-len-eq0 c = λ board e. length_out board _ _ _ (sym (c.no_block.ensures board e) ∙ c.if-no_block.false) c.if-offset-gt63.false c.if-len-eq0.true

pub returns : goal.returns
returns c = λ board e. end_out board _ _ _ (sym (c.no_block.ensures board e) ∙ c.if-no_block.false) c.if-offset-gt63.false c.if-len-eq0.false
