use native.Mathlib.Omega.{arith}
use Prim.Native.Nat.{◌*◌}
use Rattle.rules.specs.Loads.{block_in}
use Rattle.placing.specs.Spots.{spot_of}
use Rattle.placing.proofs.Built.{whole_lays, lays_all}
use Rattle.placing.proofs.build_all.Goals as goal

pub returns-then-patch-eq64 : goal.returns-then-patch-eq64
returns-then-patch-eq64 c =
    let a = c.args in
    let q = c.requires in
    whole_lays a.memory.now a.cache.now (spot_of a.from) (8 * a.to) a.patch.offset a.patch.bytes.now q.0 (omega arith) a.patch.inside c.lay_whole.ensures

pub returns-in-Memory : goal.returns-in-Memory
unfolding block_in
returns-in-Memory c = rw c.in-Memory.is (lays_all 8 c.args.to _ c.all_words-all.ensures c.merge_within.ensures)

pub returns-in-Cache : goal.returns-in-Cache
unfolding block_in
returns-in-Cache c = rw c.in-Cache.is (lays_all 8 c.args.to _ c.all_words-all.ensures c.merge_across.ensures)
