use mathlib.Core.Bool.{true}
use mathlib.Core.Path.{refl}
use Rattle.header.proofs.Calling.{back_refused, back_goes}
use Rattle.forms.proofs.Checking.{headed_size}
use Rattle.header.proofs.move_back.Goals as goal

pub returns-in-Err : goal.returns-in-Err
returns-in-Err c =
    let a = c.args in
    let h = c.in-Err.ensures a.controller in
    back_refused a.p a.memory.now a.cache.now a.table.now a.controller a.g _ h.0 h.1 c.refused.ensures

pub lay_zeros-words-requires : goal.lay_zeros-words-requires
lay_zeros-words-requires c =
    let a = c.args in
    headed_size true a.memory.now a.cache.now a.table.now a.controller a.g (c.in_default.ensures a.controller)

pub returns : goal.returns
returns c =
    let a = c.args in
    back_goes a.p a.memory.now a.cache.now a.table.now a.controller a.g _ refl (c.in_default.ensures a.controller) c.lay_zeros-words.ensures c.ended.ensures
