-- Room for a new wire after sweep, begin and finish: a written wire is a block of 64 bytes, for which the board has room again.
use mathlib.Core.Path.{◌∙◌, sym}
use native.Mathlib.Omega.{arith}
use native.Mathlib.Nat.{suc-ne-zero}
use Rattle.rules.specs.SweepPromises.{RoomAgain}
use Rattle.rules.proofs.NewBlocks.{room_again}
use Rattle.records.proofs.Encoding.{written_whole}
use Rattle.wires.specs.Promises.{RoomForWire}

pub room_for_wire : RoomForWire
unfolding RoomForWire RoomAgain
room_for_wire after made q w wire below supply =
    room_again after made q w 0 _ below (omega arith)
    (λ none. suc-ne-zero 63 (sym (written_whole wire) ∙ none)) (omega (arith, written_whole wire)) supply
