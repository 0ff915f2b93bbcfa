use native.Mathlib.Omega.{arith}
use mathlib.Core.Path.{refl}
use Rattle.trace.specs.Trace.{ends}
use Rattle.trace.proofs.Lines.{numbers_end}
use Rattle.trace.proofs.Bench.ended.Goals as goal

pub returns : goal.returns
unfolding ends
returns c =
    record {
      puts = numbers_end _ _ _ c.put_numbers-after_numbers.ensures.0 c.put_byte-length.ensures;
      room = omega (arith, c.put_numbers-after_numbers.ensures.1, c.put_byte-length.ensures.after);
      goes = refl;
      bench = refl;
    }
