use Rattle.backups.proofs.Sound.{clean_free, clean_is}
use Rattle.backups.proofs.clean_word.Goals as goal

pub returns-then-word-eq0 : goal.returns-then-word-eq0
returns-then-word-eq0 c = clean_free _ _ c.if-word-eq0.true

pub returns : goal.returns
returns c = clean_is _ _ c.if-word-eq0.false
