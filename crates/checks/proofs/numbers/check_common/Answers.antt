use Rattle.checks.proofs.Passed.{handed_on, early_refuses, early_passed, table_stops, all_passed, table_refuses, lengths, formed_in, sample, sample_lengths}
use Rattle.std.proofs.Common.{refl}
use Rattle.std.proofs.lemmas.Bool.{not_from_true, not_from_false}
use Rattle.checks.proofs.numbers.check_common.Goals as goal

pub returns-in_err-check_early : goal.returns-in_err-check_early
returns-in_err-check_early c =
    λ board l. handed_on c.from_residual.result _ c.from_residual.ensures.1 (early_refuses board c.args.unfit (c.in_err-check_early.ensures board (lengths l) l.geometry l.phase))

pub table_formed-requires : goal.table_formed-requires
table_formed-requires c =
    let a = c.args in
    let r = early_passed (sample a.memory a.cache a.table.now a.g a.phase) a.unfit (c.in_ok-check_early.ensures _ (sample_lengths a.memory a.cache a.table.now a.g a.phase) refl refl) in
    (r.some_block, r.blocks)

pub returns-then-not-table_formed : goal.returns-then-not-table_formed
returns-then-not-table_formed c =
    λ board l. (table_stops board c.args.unfit (c.in_ok-check_early.ensures board (lengths l) l.geometry l.phase) _ (formed_in l c.table_formed.ensures) (not_from_false _ c.if-not-table_formed.true), table_refuses)

pub returns : goal.returns
returns c =
    λ board l. all_passed board c.args.unfit (c.in_ok-check_early.ensures board (lengths l) l.geometry l.phase) _ (formed_in l c.table_formed.ensures) (not_from_true _ c.if-not-table_formed.false)
