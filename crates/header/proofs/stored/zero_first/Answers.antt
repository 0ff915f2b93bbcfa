use Rattle.forms.proofs.Lists.{zeroed_lays}
use Rattle.header.proofs.stored.zero_first.Goals as goal

pub returns : goal.returns
returns c = zeroed_lays c.args.g c.memory_words-first_place.ensures c.fill_words.ensures
