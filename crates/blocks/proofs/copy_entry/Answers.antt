use native.Mathlib.Omega.{arith}
use lib.ListN.{length}
use mathlib.Core.Path.{◌≡◌}
use Prim.Native.Nat.{◌+◌}
use Rattle.rules.specs.declared.Place.TheVariants.{Home, Checkpoint, Cache}
use Rattle.rules.specs.Loads.{spot_in, block_in}
use Rattle.blocks.proofs.Laws.{part_length, copied, shows_at}
use Rattle.blocks.proofs.copy_entry.Goals as goal

pub copy_part-requires : goal.copy_part-requires
copy_part-requires c =
    let a = c.args in
    let size : length c.part_checkpoint.result.now ≡ 64 = part_length (a.g.blocks + a.entry.slot) (omega arith) c.part_checkpoint.ensures in
    omega arith

pub copy_part-requires-in-Cache : goal.copy_part-requires-in-Cache
copy_part-requires-in-Cache c =
    let a = c.args in
    let size : length c.block_of.result.now ≡ 64 = part_length a.entry.slot (omega arith) c.block_of.ensures in
    omega arith

pub returns-in-Home : goal.returns-in-Home
unfolding spot_in block_in
returns-in-Home c =
    let a = c.args in
    rw (shows_at a.g a.block a.entry.slot a.entry.state Home c.place_of.ensures c.in-Home.is) c.copy_home.ensures

pub returns-in-Checkpoint : goal.returns-in-Checkpoint
unfolding spot_in block_in
returns-in-Checkpoint c =
    let a = c.args in
    rw (shows_at a.g a.block a.entry.slot a.entry.state Checkpoint c.place_of.ensures c.in-Checkpoint.is)
    (copied (a.g.blocks + a.entry.slot) (length a.into.now) a.offset c.part_checkpoint.ensures c.copy_part.ensures)

pub returns-in-Cache : goal.returns-in-Cache
unfolding spot_in block_in
returns-in-Cache c =
    let a = c.args in
    rw (shows_at a.g a.block a.entry.slot a.entry.state Cache c.place_of.ensures c.in-Cache.is)
    (copied a.entry.slot (length a.into.now) a.offset c.block_of.ensures c.copy_part-in-Cache.ensures)
