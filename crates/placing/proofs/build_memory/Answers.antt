use Prim.Native.Nat.{◌*◌}
use Rattle.placing.proofs.Built.{lays_any}
use Rattle.placing.proofs.build_memory.Goals as goal

pub returns : goal.returns
returns c = lays_any c.args.p (8 * c.args.to) _ c.if-p-lt-BLOCK_WORDS.false c.build_all.ensures
