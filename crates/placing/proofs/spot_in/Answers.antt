use Rattle.rules.specs.Loads.{spot_in}
use Rattle.placing.proofs.spot_in.Goals as goal

pub returns-in-Home : goal.returns-in-Home
unfolding spot_in
returns-in-Home c = rw c.in-Home.is

pub returns-in-Checkpoint : goal.returns-in-Checkpoint
unfolding spot_in
returns-in-Checkpoint c = rw c.in-Checkpoint.is

pub returns-in-Cache : goal.returns-in-Cache
unfolding spot_in
returns-in-Cache c = rw c.in-Cache.is
