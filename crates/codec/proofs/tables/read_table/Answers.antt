use Rattle.codec.specs.Promises.{TableBytesBack}
use Rattle.codec.proofs.WordBytes.{read_turn, all_read, table_bytes_back}
use Rattle.words.specs.Words.{number_bytes}
use lib.ListN.{length, length-set}
use native.Mathlib.Omega.{arith}
use mathlib.Core.Path.{◌∙◌, ap}
use Rattle.codec.proofs.tables.read_table.Goals as goal

pub loop-slot-preserved : goal.loop-slot-preserved
loop-slot-preserved c =
    let a = c.args in
    let l = c.loop-slot in
    (simp length-set l.invariant.0, rw (l.invariant.1, c.number_at.ensures) (read_turn a.table.now a.bytes.now l.slot (omega arith)))

pub returns : goal.returns
unfolding TableBytesBack
returns c =
    let a = c.args in
    let l = c.loop-slot in
    let read = l.invariant.1 ∙ all_read a.table.now a.bytes.now l.slot (omega arith) in
    (read, ap number_bytes read ∙ table_bytes_back a.bytes.now (length a.table.now) (λ i. omega (arith, c.type_inv.bytes i)) c.requires)
