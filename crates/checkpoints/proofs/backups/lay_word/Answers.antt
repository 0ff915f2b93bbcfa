use mathlib.Core.Path.{refl}
use mathlib.Core.List.{map}
use native.Mathlib.Omega.{arith}
use lib.ListN.{length-map}
use Rattle.rules.specs.TableWords.{changed}
use Rattle.rules.specs.Checkpoints.{saved}
use Rattle.checkpoints.proofs.Lists.{lays_register, lays_saved, lays_mark}
use Rattle.checkpoints.proofs.backups.lay_word.Goals as goal

pub returns-then-index-lt-REGISTER_WORDS : goal.returns-then-index-lt-REGISTER_WORDS
returns-then-index-lt-REGISTER_WORDS c =
    let a = c.args in
    lays_register a.place a.mark a.registers.now (map (changed saved) a.table.now) a.index _ c.if-index-lt-REGISTER_WORDS.true refl c.lay_bytes.ensures

pub returns-then-slot-table : goal.returns-then-slot-table
returns-then-slot-table c =
    let a = c.args in
    lays_saved a.place a.mark a.registers.now a.table.now a.index _ c.if-index-lt-REGISTER_WORDS.false (omega (arith, c.if-slot-table.true)) c.saved_word.ensures c.lay_number.ensures

pub returns : goal.returns
returns c =
    let a = c.args in
    lays_mark a.place a.mark a.registers.now (map (changed saved) a.table.now) a.index (omega (arith, length-map a.table.now (changed saved), c.if-slot-table.false, c.if-index-lt-REGISTER_WORDS.false, c.requires.1)) c.lay_number-2.ensures
