use lib.ListN.{set}
use Prim.Native.Nat.{ℕ}
use Rattle.rules.specs.declared.Window.{Window}
use Rattle.rules.specs.Loads.{block_in}
use Rattle.rules.specs.Stores.{replaced}
use Rattle.placing.specs.Spots.{spot_of}
use Rattle.placing.proofs.Placed.{cache_ended}
use Rattle.placing.proofs.store_cache.Goals as goal

pub returns : goal.returns
returns c =
    let a = c.args in
    λ (p : ℕ) (window : Window).
    cache_ended p a.memory.now a.cache.now a.table.now a.controller (replaced (block_in a.memory.now a.cache.now (spot_of a.from)) a.patch.offset a.patch.bytes.now) window (set a.table.now a.slot a.word) _ a.to
    c.build_cache.ensures c.ended.ensures
