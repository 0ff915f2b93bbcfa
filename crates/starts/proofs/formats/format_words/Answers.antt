use Prim.Native.Nat.{ℕ}
use Rattle.starts.proofs.Formatting.{format_length}
use Rattle.starts.proofs.formats.format_words.Goals as goal

pub returns : goal.returns
returns c = λ (fill : ℕ). format_length c.args.g fill _ (rw (c.home_words.ensures, c.backup_words.ensures))
