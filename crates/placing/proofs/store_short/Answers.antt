use mathlib.Core.List.{List}
use Prim.Native.Nat.{ℕ}
use lib.ListN.{length, set}
use Rattle.words.specs.Words.{block_at}
use Rattle.rules.specs.Stores.{replaced, touched}
use Rattle.placing.proofs.Placed.{memory_ended}
use Rattle.placing.proofs.store_short.Goals as goal

pub returns : goal.returns
returns c =
    let a = c.args in
    let fresh = replaced (block_at a.memory.now a.to) a.patch.offset a.patch.bytes.now in
    λ (cache : List ℕ).
    memory_ended a.p a.memory.now cache a.table.now a.controller fresh (touched a.patch.offset (length a.patch.bytes.now)) (set a.table.now a.slot a.word) _ a.to
    c.build_short-count.ensures c.ended.ensures
