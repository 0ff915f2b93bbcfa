-- Until another checkpoint is finished, what is kept stays; so after a format there are no registers, and the next checkpoint goes to B.
use mathlib.Core.Path.{◌≡◌, refl, sym, ap, ◌∙◌, subst}
use mathlib.Core.Bool.{false}
use mathlib.Core.List.{List, [], ◌∷◌, map}
use Rattle.std.specs.Prelude.{Option, None}
use Prim.Native.Nat.{ℕ, zero, suc}
use lib.ListN.{take, drop}
use Rattle.words.specs.Words.{Store}
use Rattle.rules.specs.declared.Geometry.{Geometry}
use Rattle.rules.specs.TableWords.{changed}
use Rattle.rules.specs.Board.{sizes, phase_of, table_of}
use Rattle.rules.specs.Numbers.{number_of}
use Rattle.rules.specs.Power.{stored}
use Rattle.rules.specs.Checkpoints.{saved, other, checkpoint_list, count_of, next_words}
use Rattle.rules.specs.Starts.{recorded}
use Rattle.rules.specs.Calls.{Call, load, peek, store, begin, step, format, recover, sweep, plan, call}
use Rattle.rules.specs.PlainMachine.{Picture, Plain, formatted, did, has_mark, note}
use Rattle.rules.specs.Runs.{Event, does, stop, Run, doing, stopping, advance, runs, FromFormat, formatted_run, run_from, NoneFinished, no_more, and_call, and_stop}
use Rattle.rules.specs.Promises.{NoRegistersYet, NextToB}
use Rattle.rules.proofs.Saving.{Kept, absent_is_A}
use Rattle.rules.proofs.Invariant.{note_unmarked}
use Rattle.rules.proofs.Demand3.{Good, next, call_good, back, stop_good, good_recovers, formatted_started}

-- what is kept changes by the mark alone
did_kept : (plain : Plain) (c : Call) (n : ℕ) → (did plain c n).kept ≡ plain.kept
unfolding did
did_kept plain (load block offset len) n = refl
did_kept plain (peek block) n = refl
did_kept plain (store block offset bytes) zero = refl
did_kept plain (store block offset bytes) (suc n) = refl
did_kept plain (begin registers) zero = refl
did_kept plain (begin registers) (suc n) = refl
did_kept plain (step most) n = refl
did_kept plain (format h fill) n = refl
did_kept plain (recover h) zero = refl
did_kept plain (recover h) (suc n) = refl
did_kept plain (sweep limit) n = refl

noted_kept : (g : Geometry) (plain : Plain) (c : Call) (n : ℕ) (words : List Store) → has_mark g words ≡ false → (note g plain c n words).kept ≡ plain.kept
noted_kept g plain c n words unmarked = ap (λ (z : Plain). z.kept) (note_unmarked g plain c n words unmarked) ∙ did_kept plain c n

-- the board looks like a plain machine that keeps this picture
pub record Keeping (picture : Picture) (g : Geometry) (run : Run) : Type 0 where
  pub plain : Plain
  pub good : Good g run plain
  pub kept : plain.kept ≡ picture

pub kept_later : (picture : Picture) (g : Geometry) (run : Run) (events : List Event) → NoneFinished g run events → Keeping picture g run
    → Keeping picture g (runs events run)
unfolding runs advance
kept_later picture g run [] no_more s = s
kept_later picture g run (does p c ∷ events) (and_call nf unmarked rest) s =
    let n = number_of (call p run.board c).number in
    let words = stored p (plan run.board c) in
    kept_later picture g (doing p c run) events rest
    (record {
      plain = next run s.plain p c;
      good = call_good g p c run s.plain nf s.good;
      kept =
          subst (λ (h : Geometry). (note h s.plain c n words).kept ≡ picture) (sym s.good.same) (noted_kept g s.plain c n words unmarked ∙ s.kept);
    })
kept_later picture g run (stop volatile ∷ events) (and_stop lengths rest) s =
    kept_later picture g (stopping volatile run) events rest
    (record { plain = back s.plain; good = stop_good g volatile run s.plain lengths s.good; kept = s.kept })

-- from the format on
from_format : (g : Geometry) (from : FromFormat g) → NoneFinished g (formatted_run from) from.events → Keeping (formatted from.fill).kept g (run_from from)
from_format g from none-finished =
    kept_later (formatted from.fill).kept g (formatted_run from) from.events none-finished
    (record { plain = formatted from.fill; good = formatted_started g from; kept = refl })

pub no_registers_yet : NoRegistersYet
unfolding NoRegistersYet formatted recorded
no_registers_yet g from none-finished volatile lengths p =
    let s = from_format g from none-finished in
    let v = (good_recovers g (run_from from) s.plain s.good).whatever volatile lengths p in
    let e = ap (λ (z : Picture). z.registers) s.kept in
    record { accepted = v.accepted; registers = v.registers ∙ e; in_record = v.in_record ∙ ap recorded e }

pub next_to_b : NextToB
unfolding NextToB next_words formatted
next_to_b g from none-finished n =
    let s = from_format g from none-finished in
    let board = (run_from from).board in
    let v = s.good.inv in
    let absent : v.registers ≡ None = v.kept.given ∙ ap (λ (z : Picture). z.registers) s.kept in
    let named = absent_is_A (subst (λ (z : Option (List ℕ)). Kept (sizes board) board.memory board.volatile.controller.finished z v.keeps s.plain.kept) absent v.kept) in
    λ i. take n
    (drop (count_of (phase_of board))
    (checkpoint_list (s.good.same i) (other (named i)) board.volatile.controller.registers (map (changed saved) (table_of board))))
