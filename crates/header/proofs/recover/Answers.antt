use mathlib.Core.Bool.{true}
use Rattle.header.proofs.Calling.{recover_refused, recover_goes}
use Rattle.forms.proofs.Checking.{named_passed, front_length}
use Prim.Native.Nat.{ℕ, ◌*◌}
use mathlib.Core.Path.{refl, sym, ap, ◌∙◌}
use Rattle.header.proofs.recover.Goals as goal

pub returns-in-Err : goal.returns-in-Err
returns-in-Err c =
    let a = c.args in
    let h = c.in-Err.ensures a.controller in
    λ (p : ℕ). recover_refused p a.memory.now a.cache.now a.table.now a.controller a.g _ h.0 h.1 c.refused_recovery.ensures

pub slice_bounds-recover-end : goal.slice_bounds-recover-end
slice_bounds-recover-end c =
    let a = c.args in
    let l = named_passed true a.memory.now a.cache.now a.table.now a.g c.in_default.ensures in
    ap (λ (n : ℕ). 8 * n) c.memory_words-end.ensures ∙ sym (front_length a.memory.now a.g l.size c.memory_words-end.ensures)

pub returns : goal.returns
returns c =
    let a = c.args in
    let l = named_passed true a.memory.now a.cache.now a.table.now a.g c.in_default.ensures in
    λ (p : ℕ). recover_goes p a.memory.now a.cache.now a.table.now a.controller a.g _ refl (c.in_default.ensures a.controller) l.size c.memory_words-end.ensures (c.recover.ensures p)
