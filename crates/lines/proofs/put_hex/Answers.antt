use native.Mathlib.Omega.{arith}
use Rattle.lines.specs.Lines.{hex_bytes}
use Rattle.lines.proofs.Places.{puts_nothing}
use Rattle.lines.proofs.Digits.{hex_turn, hex_place}
use Rattle.lines.proofs.put_hex.Goals as goal

pub loop-byte-init : goal.loop-byte-init
unfolding hex_bytes
loop-byte-init c = puts_nothing c.args.into.now c.args.start

pub put_hex_byte-place-requires : goal.put_hex_byte-place-requires
put_hex_byte-place-requires c =
    let l = c.loop-byte in
    omega (arith, hex_place c.args.bytes.now l.byte-index (omega arith) l.invariant)

pub loop-byte-preserved : goal.loop-byte-preserved
loop-byte-preserved c =
    let l = c.loop-byte in
    hex_turn c.args.bytes.now l.byte-index (omega arith) l.invariant c.put_hex_byte-place.ensures
