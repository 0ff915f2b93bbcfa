use Prim.Native.Nat.{◌-◌, ◌≤◌}
use Rattle.lines.proofs.Digits.{ToPut}
use Rattle.lines.proofs.put_decimal.Given as goal

abbrev pub invariant-loop-place : goal.invariant-loop-place
invariant-loop-place l = (l.start ≤ l.place) × ToPut l.value l.start l.initial.into l.into (l.place - l.start) l.rest
