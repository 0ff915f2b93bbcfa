use Prim.Native.Nat.{ℕ, suc, ◌+◌, ◌-◌}
use mathlib.Core.Path.{◌≡◌, ap, subst}
use native.Mathlib.Omega.{arith}
use Rattle.lines.proofs.Digits.{ToPut, room_64, put_first, put_next, put_whole}
use Rattle.lines.proofs.put_decimal.Goals as goal

pub overflow_add-end : goal.overflow_add-end
overflow_add-end c = omega (arith, c.digit_count.ensures, room_64 c.args.value (omega arith))

pub loop-place-init : goal.loop-place-init
loop-place-init c =
    let a = c.args in
    (omega arith, put_first a.value a.start _ a.into.now (omega (arith, c.digit_count.ensures)))

pub bounds-into-place : goal.bounds-into-place
bounds-into-place c = omega (arith, c.digit_count.ensures, room_64 c.args.value (omega arith))

pub loop-place-preserved : goal.loop-place-preserved
loop-place-preserved c =
    let a = c.args in
    let l = c.loop-place in
    let left : l.place - a.start ≡ suc (l.place - 1 - a.start) = omega arith in
    (omega arith, put_next (l.place - 1) c.digit.result (omega arith) c.digit.ensures (subst (λ (n : ℕ). ToPut a.value a.start a.into.now l.into n l.rest) left l.invariant.1))

pub returns : goal.returns
returns c = put_whole (omega arith) (ap (λ k. c.args.start + k) c.digit_count.ensures) c.loop-place.invariant.1
