use mathlib.Core.Path.{refl}
use lib.ListN.{set}
use Rattle.rules.specs.Loads.{block_in}
use Rattle.rules.specs.Stores.{replaced, all}
use Rattle.placing.specs.Spots.{spot_of}
use Rattle.placing.proofs.Placed.{memory_ended}
use Rattle.placing.proofs.Built.{lays_window}
use Rattle.placing.proofs.store_memory.Goals as goal

pub returns : goal.returns
returns c =
    let a = c.args in
    let fresh = replaced (block_in a.memory.now a.cache.now (spot_of a.from)) a.patch.offset a.patch.bytes.now in
    memory_ended a.p a.memory.now a.cache.now a.table.now a.controller fresh all (set a.table.now a.slot a.word) _ a.to (lays_window a.p a.to fresh refl c.build_memory-words.ensures) c.ended.ensures
