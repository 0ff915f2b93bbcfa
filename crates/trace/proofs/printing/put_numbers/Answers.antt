use native.Mathlib.Omega.{arith}
use Rattle.lines.proofs.Digits.{room_64}
use Rattle.lines.proofs.Places.{puts_then}
use Rattle.trace.proofs.printing.put_numbers.Goals as goal

pub put_byte-number_place-requires : goal.put_byte-number_place-requires
put_byte-number_place-requires c = omega (arith, c.put_decimal-after_field.ensures.after, room_64 c.args.field (omega arith))

pub put_decimal-after_number-requires : goal.put_decimal-after_number-requires
put_decimal-after_number-requires c = omega (arith, c.put_decimal-after_field.ensures.after, room_64 c.args.field (omega arith), c.put_byte-number_place.ensures.after)

pub put_byte-words_place-requires : goal.put_byte-words_place-requires
put_byte-words_place-requires c = omega (arith, c.put_decimal-after_field.ensures.after, room_64 c.args.field (omega arith), c.put_byte-number_place.ensures.after, c.put_decimal-after_number.ensures.after, room_64 c.from-returned.result (omega arith))

pub put_decimal-requires : goal.put_decimal-requires
put_decimal-requires c = omega (arith, c.put_decimal-after_field.ensures.after, room_64 c.args.field (omega arith), c.put_byte-number_place.ensures.after, c.put_decimal-after_number.ensures.after, room_64 c.from-returned.result (omega arith), c.put_byte-words_place.ensures.after)

pub returns : goal.returns
returns c =
    let a = c.args in (
      rw (← c.from-returned.ensures) (puts_then c.put_decimal-after_field.ensures (puts_then c.put_byte-number_place.ensures (puts_then c.put_decimal-after_number.ensures (puts_then c.put_byte-words_place.ensures c.put_decimal.ensures)))),
      omega (arith, c.put_decimal-after_field.ensures.after, room_64 a.field (omega arith), c.put_byte-number_place.ensures.after, c.put_decimal-after_number.ensures.after, room_64 c.from-returned.result (omega arith), c.put_byte-words_place.ensures.after, c.put_decimal.ensures.after, room_64 a.words (omega arith)),
    )
