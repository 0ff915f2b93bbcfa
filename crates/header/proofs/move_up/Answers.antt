use mathlib.Core.Bool.{false}
use mathlib.Core.Path.{refl}
use Rattle.header.proofs.Calling.{up_refused, up_goes}
use Rattle.forms.proofs.Checking.{headed_size}
use Rattle.header.proofs.move_up.Goals as goal

pub returns-in-Err : goal.returns-in-Err
returns-in-Err c =
    let a = c.args in
    let h = c.in-Err.ensures a.controller in
    up_refused a.p a.memory.now a.cache.now a.table.now a.controller a.g _ h.0 h.1 c.refused.ensures

pub header_in-header-requires : goal.header_in-header-requires
header_in-header-requires c =
    let a = c.args in
    headed_size false a.memory.now a.cache.now a.table.now a.controller a.g (c.in_default.ensures a.controller)

pub lay_up-words-requires : goal.lay_up-words-requires
lay_up-words-requires c =
    let a = c.args in
    headed_size false a.memory.now a.cache.now a.table.now a.controller a.g (c.in_default.ensures a.controller)

pub returns : goal.returns
returns c =
    let a = c.args in
    up_goes a.p a.memory.now a.cache.now a.table.now a.controller a.g _ refl (c.in_default.ensures a.controller) c.header_in-header.ensures c.lay_up-words.ensures c.ended.ensures
