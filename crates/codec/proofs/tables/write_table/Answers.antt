use Rattle.codec.proofs.WordBytes.{write_turn}
use Rattle.words.specs.Words.{number_bytes}
use native.Mathlib.Omega.{arith}
use mathlib.Core.Path.{refl}
use Rattle.codec.proofs.tables.write_table.Goals as goal

pub loop-slot-init : goal.loop-slot-init
unfolding number_bytes
loop-slot-init c = (refl, refl)

pub loop-slot-preserved : goal.loop-slot-preserved
loop-slot-preserved c =
    let a = c.args in
    let l = c.loop-slot in
    (omega arith, write_turn a.table.now a.bytes.now l.bytes l.slot c.requires (omega arith) l.invariant.1 c.lay_number.ensures)
