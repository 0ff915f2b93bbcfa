use Rattle.merges.proofs.Building.{Merging}
use Prim.Native.Nat.{◌+◌, ◌-◌, ◌≤◌}
use Rattle.words.specs.Words.{block_at}
use Rattle.merges.proofs.merge_across.Given as goal

abbrev pub invariant-loop-k : goal.invariant-loop-k
invariant-loop-k l = Merging l.initial.part (block_at l.source l.from) l.patch.offset l.patch.bytes.now l.to l.window l.part l.next l.k
