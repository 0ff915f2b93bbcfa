use native.Mathlib.Omega.{arith}
use Rattle.lines.specs.Lines.{line}
use Rattle.lines.proofs.Digits.{room_64}
use Rattle.lines.proofs.Places.{puts_then}
use Rattle.trace.proofs.printing.put_bad.Goals as goal

pub put_byte-requires : goal.put_byte-requires
put_byte-requires c = omega (arith, c.put_bytes-number_place.ensures.after, c.put_decimal-after_number.ensures.after, room_64 c.args.field (omega arith))

pub returns : goal.returns
unfolding line
returns c = (
  puts_then c.put_bytes-number_place.ensures (puts_then c.put_decimal-after_number.ensures c.put_byte.ensures),
  omega (arith, c.put_bytes-number_place.ensures.after, c.put_decimal-after_number.ensures.after, room_64 c.args.field (omega arith), c.put_byte.ensures.after),
)
