use Rattle.rules.specs.declared.Place.TheVariants.{Home, Checkpoint, Cache}
use Rattle.rules.specs.Loads.{spot_in}
use Rattle.blocks.specs.Shown.{Shown}
use Rattle.blocks.proofs.Laws.{shows_at}
use Rattle.blocks.proofs.part_entry.Goals as goal

pub returns-in-Home : goal.returns-in-Home
unfolding Shown spot_in
returns-in-Home c =
    let a = c.args in
    rw (shows_at a.g a.block a.entry.slot a.entry.state Home c.place_of.ensures c.in-Home.is) c.part_home.ensures

pub returns-in-Checkpoint : goal.returns-in-Checkpoint
unfolding Shown spot_in
returns-in-Checkpoint c =
    let a = c.args in
    rw (shows_at a.g a.block a.entry.slot a.entry.state Checkpoint c.place_of.ensures c.in-Checkpoint.is) c.part_checkpoint.ensures

pub returns-in-Cache : goal.returns-in-Cache
unfolding Shown spot_in
returns-in-Cache c =
    let a = c.args in
    rw (shows_at a.g a.block a.entry.slot a.entry.state Cache c.place_of.ensures c.in-Cache.is) c.block_of.ensures
