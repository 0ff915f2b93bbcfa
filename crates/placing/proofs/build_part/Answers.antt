use Rattle.rules.specs.Loads.{block_in}
use Rattle.placing.proofs.Built.{lays_all}
use Rattle.placing.proofs.build_part.Goals as goal

pub returns-in-Memory : goal.returns-in-Memory
unfolding block_in
returns-in-Memory c = rw c.in-Memory.is (lays_all c.args.p c.args.to _ c.all_words-all.ensures c.merge_within.ensures)

pub returns-in-Cache : goal.returns-in-Cache
unfolding block_in
returns-in-Cache c = rw c.in-Cache.is (lays_all c.args.p c.args.to _ c.all_words-all.ensures c.merge_across.ensures)
