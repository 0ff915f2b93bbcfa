use Rattle.checks.proofs.Flaws.{all_formed_is}
use Rattle.checks.proofs.forms.all_formed.Goals as goal

pub returns : goal.returns
returns c = all_formed_is c.args.flawed c.args.seen
