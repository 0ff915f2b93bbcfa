use native.Mathlib.Omega.{arith}
use mathlib.Core.Path.{refl}
use Rattle.lines.proofs.Digits.{length_hex}
use Rattle.trace.specs.Trace.{ends}
use Rattle.trace.proofs.Lines.{bytes_end}
use Rattle.trace.proofs.Bench.ended_with.Goals as goal

pub put_byte-length-requires : goal.put_byte-length-requires
put_byte-length-requires c = omega (arith, c.put_numbers-after_numbers.ensures.1, c.put_byte-bytes_place.ensures.after, c.put_hex-after_bytes.ensures.after, length_hex c.args.bytes.now)

pub returns : goal.returns
unfolding ends
returns c =
    record {
      puts = bytes_end _ _ _ c.put_numbers-after_numbers.ensures.0 _ c.put_byte-bytes_place.ensures c.put_hex-after_bytes.ensures c.put_byte-length.ensures;
      room = omega (arith, c.put_numbers-after_numbers.ensures.1, c.put_byte-bytes_place.ensures.after, c.put_hex-after_bytes.ensures.after, length_hex c.args.bytes.now, c.put_byte-length.ensures.after);
      goes = refl;
      bench = refl;
    }
