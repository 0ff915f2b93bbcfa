use Rattle.words.proofs.Laying.{lays_nothing}
use Rattle.forms.specs.Calls.{up_list}
use Rattle.header.proofs.stored.lay_up.Goals as goal

pub returns-in-Missing : goal.returns-in-Missing
unfolding up_list
returns-in-Missing c = rw c.in-Missing.is c.lay_header.ensures

pub returns-in-Fits : goal.returns-in-Fits
unfolding up_list
returns-in-Fits c = rw c.in-Fits.is (lays_nothing c.args.p c.args.memory.now)

pub returns-in-Other : goal.returns-in-Other
unfolding up_list
returns-in-Other c = rw c.in-Other.is (lays_nothing c.args.p c.args.memory.now)
