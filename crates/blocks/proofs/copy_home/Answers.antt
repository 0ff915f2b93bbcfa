use native.Mathlib.Omega.{arith}
use lib.ListN.{length}
use mathlib.Core.Path.{◌≡◌}
use Rattle.blocks.proofs.Laws.{part_length, copied}
use Rattle.blocks.proofs.copy_home.Goals as goal

pub copy_part-requires : goal.copy_part-requires
copy_part-requires c =
    let a = c.args in
    let size : length c.part_home.result.now ≡ 64 = part_length a.block (omega arith) c.part_home.ensures in
    omega arith

pub returns : goal.returns
returns c =
    let a = c.args in
    copied a.block (length a.into.now) a.offset c.part_home.ensures c.copy_part.ensures
