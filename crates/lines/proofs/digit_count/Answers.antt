use native.Mathlib.Omega.{arith}
use Rattle.lines.proofs.Digits.{length_one, length_more, room_64}
use Rattle.lines.proofs.digit_count.Goals as goal

pub overflow_add-count : goal.overflow_add-count
overflow_add-count c = omega (arith, room_64 c.args.value (omega arith))

pub loop-rest-preserved : goal.loop-rest-preserved
loop-rest-preserved c = omega (arith, length_more c.loop-rest.rest (omega arith))

pub returns : goal.returns
returns c = omega (arith, length_one c.loop-rest.rest (omega arith))
