-- Demand 3 in both forms: seen without the two words, a run is one of the old form, and its invariant is kept by the old form's own proofs.
use Rattle.rules.specs.declared.Geometry.{Geometry}
use Rattle.rules.specs.PlainMachine.{Plain, formatted}
use Rattle.rules.specs.Runs.{Run}
use Rattle.rules.proofs.LiveShown.{inv_shows}
use Rattle.rules.proofs.Demand3.{good_recovers, own_lengths}
use Rattle.forms.specs.Stored.{old_board}
use Rattle.forms.specs.Runs.{old_run, doing, noted, formatted_run, run_from}
use Rattle.forms.specs.Promises.{RecoversInBoth, SafeInBoth, Demand3}
use Rattle.forms.proofs.Moves.{in_both}
use Rattle.forms.proofs.Invariant.{Well, call_well, Standing, runs_well}
use Rattle.forms.proofs.Starting.{formatted_well}

-- ---- recovery in both forms

well_recovers : (g : Geometry) (run : Run) (plain : Plain) → Well g run plain → RecoversInBoth g plain.kept run.board.memory
well_recovers g run plain w = in_both g plain.kept run.board.memory w.clear (good_recovers g (old_run run) plain w.good)

pub well_safe : (g : Geometry) (run : Run) → Standing g run → SafeInBoth g run
unfolding doing
well_safe g run s =
    let w = s.well in
    let now = well_recovers g run s.plain w in
    let own = own_lengths g (old_run run) s.plain w.good in
    record {
      plain = s.plain;
      stands = w.good.stands;
      shows = inv_shows (old_board run.board) s.plain w.good.inv;
      now = now;
      without_loss = now.old_form.whatever run.board.volatile own;
      without_loss_new = λ ne p. now.new_form ne run.board.volatile own p;
      inside = λ c nf p. well_recovers g (doing p c run) (noted p run.board s.plain c) (call_well g p c run s.plain nf w);
    }

pub demand_3 : Demand3
unfolding Demand3
demand_3 g from =
    well_safe g (run_from from)
    (runs_well g from.events (formatted_run from.fill from.board) from.allowed
    (record { plain = formatted from.fill; well = formatted_well g from.fill from.board from.begins }))
