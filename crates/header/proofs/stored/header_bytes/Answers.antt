use Rattle.forms.proofs.HeaderBytes.{header_laid}
use Rattle.header.proofs.stored.header_bytes.Goals as goal

pub returns : goal.returns
returns c = rw (c.to_be_bytes.ensures, c.to_be_bytes-2.ensures) (header_laid c.args.g)
