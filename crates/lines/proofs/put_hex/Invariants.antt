use lib.ListN.{take}
use Rattle.lines.specs.Puts.{Puts}
use Rattle.lines.specs.Lines.{hex_bytes}
use Rattle.lines.proofs.put_hex.Given as goal

abbrev pub invariant-loop-byte : goal.invariant-loop-byte
invariant-loop-byte l = Puts (hex_bytes (take l.byte-index l.bytes)) l.start l.initial.into l.into l.place
