-- Demand 2 in both forms: any events, formats of both forms among them, on any board of the longer memory.
use mathlib.Core.Path.{◌≡◌, refl, sym, ap, subst}
use mathlib.Core.Bool.{Bool, true, false}
use mathlib.Core.List.{List, [], ◌∷◌, ◌++◌}
use Rattle.std.specs.Prelude.{Option, None, Some}
use Prim.Native.Nat.{ℕ, zero, suc, ◌≤◌}
use native.Mathlib.Omega.{arith}
use lib.Dec.{eqb}
use lib.ListN.{length, take, length-append}
use borrow.Author.Tests.{eqb-true, eqb-false, ne_eqb}
use Rattle.words.specs.Words.{lay}
use Rattle.rules.specs.declared.Geometry.{Geometry}
use Rattle.rules.specs.Board.{Board, Volatile, sizes}
use Rattle.rules.specs.Numbers.{number_of, first_of}
use Rattle.rules.specs.Power.{Outcome, switched_off}
use Rattle.rules.specs.Starts.{formatted_side}
use Rattle.rules.specs.Calls as Old
use Rattle.rules.specs.PlainMachine.{Plain, formatted}
use Rattle.rules.specs.Runs as OldRuns
use Rattle.rules.specs.Runs.{Run}
use Rattle.rules.specs.Promises.{Shows}
use Rattle.rules.proofs.Clashes.{none_some}
use Rattle.rules.proofs.LiveShown.{inv_shows}
use Rattle.rules.proofs.Demand2.{Stands, unpromised, standing_by, runs_stand}
use Rattle.forms.specs.Stored.{without, last_two, old_board}
use Rattle.forms.specs.Calls.{sizes_checks, headed_number, long_format_list, Call, old, format, recover, up, back, call}
use Rattle.forms.specs.Runs.{old_run, promised, doing, lost, stopping, stopping_new, Event, does, stop, stop_new, advance, runs}
use Rattle.forms.specs.Promises.{IsMove, is_up, is_back, Demand2}
use Rattle.forms.proofs.Checking.{sizes_uncut, headed}
use Rattle.forms.proofs.Recovering.{recover_memory}
use Rattle.forms.proofs.Moving.{Left}
use Rattle.forms.proofs.Following.{last_length, old_follows, stop_follows, recover_follows, recover_stays, stop_new_follows, Ends, refused, finished, stopped}
use Rattle.forms.proofs.Moves.{asks, list, move_ends, move_left}
use Rattle.forms.proofs.Formats.{format_left}
use Rattle.forms.proofs.Invariant.{off_board, off_inv}
use Rattle.forms.proofs.Starting.{sizes_lent, long_size, format_ends, new_begins}
use Rattle.forms.proofs.Fitting.{header_of_lem}

-- the two words are there, and the rest looks like the plain machine, or nothing is promised
pub record Holds (run : Run) : Type 0 where
  pub two : 16 ≤ length run.board.memory
  pub stands : Stands (old_board run.board) run.promise

-- a run whose part without the two words is one of the old form
as_old : (run : Run) (next : Run) → old_run run ≡ next → Stands next.board next.promise → Stands (old_board run.board) run.promise
as_old run next e s = subst (λ (r : Run). Stands r.board r.promise) (sym e) s

beside_two : (part memory : List ℕ) → 16 ≤ length memory → 16 ≤ length (part ++ last_two memory)
beside_two part memory h = simp length-append (omega (arith, last_length memory h))

-- ---- calls

old_holds : (p : ℕ) (c : Old.Call) (run : Run) → Holds run → Holds (doing p (old c) run)
unfolding doing call OldRuns.runs OldRuns.advance
old_holds p c run h = record {
  two = beside_two (Old.call p (old_board run.board) c).board.memory run.board.memory h.two;
  stands = as_old (doing p (old c) run) (OldRuns.doing p c (old_run run)) (old_follows p c run h.two) (runs_stand (OldRuns.does p c ∷ []) (old_run run) h.stands);
}

recover_holds : (p : ℕ) (g : Geometry) (run : Run) → Holds run → Holds (doing p (recover g) run)
unfolding doing OldRuns.runs OldRuns.advance
recover_holds p g run h = go (eqb (number_of (headed_number true run.board g)) 0) refl
  where
    go : (b : Bool) → eqb (number_of (headed_number true run.board g)) 0 ≡ b → Holds (doing p (recover g) run)
    go true e = record {
      two = subst (λ (memory : List ℕ). 16 ≤ length memory) (sym (recover_memory p run.board g)) h.two;
      stands =
          as_old (doing p (recover g) run) (OldRuns.doing p (Old.recover g) (old_run run)) (recover_follows p g run (eqb-true (number_of (headed_number true run.board g)) 0 e))
          (runs_stand (OldRuns.does p (Old.recover g) ∷ []) (old_run run) h.stands);
    }
    go false e = subst Holds (sym (recover_stays p g run (eqb-false (number_of (headed_number true run.board g)) 0 e))) h

off_stands : (board : Board) (promise : Option Plain) → Stands board promise → Stands (off_board board) promise
off_stands board None unpromised = unpromised
off_stands board (Some plain) (standing_by i) = standing_by (off_inv board plain i)

move_holds : (p : ℕ) (g : Geometry) (c : Call) (m : IsMove g c) (run : Run) → Holds run → Holds (record { board = (call p run.board c).board; promise = run.promise })
move_holds p g c m run h = go (call p run.board c) (move_ends p run.board g c m)
  where
    left_at : number_of (headed_number (asks m) run.board g) ≡ 0 → Left g (without run.board.memory) (lay (take p (list m run.board)) run.board.memory)
    left_at z = move_left run.board g c m (headed (asks m) run.board g z) p

    moved : {memory : List ℕ} (volatile : Volatile) → Left g (without run.board.memory) memory
        → Stands (record { memory = without run.board.memory; volatile = volatile }) run.promise
        → Holds (record { board = record { memory = memory; volatile = volatile }; promise = run.promise })
    moved volatile l s = record {
      two = (let e = l.size in omega (arith, e));
      stands = subst (λ (part : List ℕ). Stands (record { memory = part; volatile = volatile }) run.promise) (sym l.same) s;
    }

    go : (o : Outcome) → Ends p run.board (headed_number (asks m) run.board g) (list m run.board) run.board.volatile o
        → Holds (record { board = o.board; promise = run.promise })
    go o (refused ne) = h
    go o (finished z e) = moved run.board.volatile (left_at z) h.stands
    go o (stopped z e) = moved (switched_off run.board run.board.volatile) (left_at z) (off_stands (old_board run.board) run.promise h.stands)

-- ---- a format: accepted it starts all anew, cut it leaves nothing promised

format_two : (p : ℕ) (board : Board) (g : Geometry) (fill : ℕ) → 16 ≤ length board.memory → number_of (first_of (sizes_checks board g)) ≡ 0
    → 16 ≤ length (lay (take p (long_format_list g fill)) board.memory)
unfolding lay
format_two zero board g fill h z = h
format_two (suc q) board g fill h z = let e = (format_left g fill board.memory (long_size board g (sizes_lent board g z)) q).size in omega (arith, e)

format_holds : (p : ℕ) (g : Geometry) (fill : ℕ) (run : Run) → Holds run → Holds (doing p (format g fill) run)
unfolding doing promised OldRuns.after_format number_of
format_holds p g fill run h = go (call p run.board (format g fill)) (format_ends p run.board g fill) refl
  where
    after : Outcome → Run
    after o = record { board = o.board; promise = OldRuns.after_format run.promise fill (number_of o.number) }

    go : (o : Outcome) → Ends p run.board (first_of (sizes_checks run.board g)) (long_format_list g fill) (formatted_side run.board g) o
        → call p run.board (format g fill) ≡ o → Holds (after o)
    go o (refused ne) q =
        let n = number_of (first_of (sizes_checks run.board g)) in
        subst (λ (promise : Option Plain). Holds (record { board = run.board; promise = promise }))
        (sym (let e : OldRuns.after_format run.promise fill n ≡ run.promise = rw (ne_eqb n 0 ne, ne_eqb n 20 (sizes_uncut run.board g)) in e)) h
    go o (finished z e) q =
        let w = new_begins g fill p run.board (ap (λ (x : Outcome). number_of x.number) q) in
        record {
          two = format_two p run.board g fill h.two z;
          stands = subst (λ (x : Outcome). Stands (old_board x.board) (Some (formatted fill))) q (standing_by w.good.inv);
        }
    go o (stopped z e) q = record { two = format_two p run.board g fill h.two z; stands = unpromised }

call_holds : (p : ℕ) (c : Call) (run : Run) → Holds run → Holds (doing p c run)
unfolding doing promised
call_holds p (old c) run h = old_holds p c run h
call_holds p (format g fill) run h = format_holds p g fill run h
call_holds p (recover g) run h = recover_holds p g run h
call_holds p (up g) run h = move_holds p g (up g) is_up run h
call_holds p (back g) run h = move_holds p g (back g) is_back run h

-- ---- losses of supply

stop_holds : (volatile : Volatile) (run : Run) → Holds run → Holds (stopping volatile run)
unfolding stopping OldRuns.runs OldRuns.advance
stop_holds volatile run h = record {
  two = beside_two (OldRuns.stopping volatile (old_run run)).board.memory run.board.memory h.two;
  stands = as_old (stopping volatile run) (OldRuns.stopping volatile (old_run run)) (stop_follows volatile run h.two) (runs_stand (OldRuns.stop volatile ∷ []) (old_run run) h.stands);
}

stop_new_holds : (volatile : Volatile) (run : Run) → Holds run → Holds (stopping_new volatile run)
unfolding stopping_new OldRuns.unless_refused OldRuns.runs OldRuns.advance
stop_new_holds volatile run h = record {
  two = subst (λ (memory : List ℕ). 16 ≤ length memory) (sym (recover_memory 0 board g)) h.two;
  stands = go (eqb n 0) refl;
}
  where
    board : Board
    board = lost run.board volatile

    g : Geometry
    g = sizes run.board

    n : ℕ
    n = number_of (call 0 board (recover g)).number

    go : (b : Bool) → eqb n 0 ≡ b → Stands (old_board (stopping_new volatile run).board) (stopping_new volatile run).promise
    go true e =
        as_old (stopping_new volatile run) (OldRuns.stopping volatile (old_run run)) (stop_new_follows volatile run (header_of_lem 0 board g (eqb-true n 0 e)))
        (runs_stand (OldRuns.stop volatile ∷ []) (old_run run) h.stands)
    go false e = rw e unpromised

-- ---- runs

advance_holds : (e : Event) (run : Run) → Holds run → Holds (advance e run)
unfolding advance
advance_holds (does p c) run h = call_holds p c run h
advance_holds (stop volatile) run h = stop_holds volatile run h
advance_holds (stop_new volatile) run h = stop_new_holds volatile run h

runs_hold : (events : List Event) (run : Run) → Holds run → Holds (runs events run)
unfolding runs
runs_hold [] run h = h
runs_hold (e ∷ events) run h = runs_hold events (advance e run) (advance_holds e run h)

pub demand_2 : Demand2
unfolding Demand2
demand_2 board events plain two e = go end.promise (runs_hold events start (record { two = two; stands = unpromised })).stands e
  where
    start : Run
    start = record { board = board; promise = None }

    end : Run
    end = runs events start

    go : (promise : Option Plain) → Stands (old_board end.board) promise → promise ≡ Some plain → Shows (old_board end.board) plain
    go None unpromised q = absurd (none_some plain q)
    go (Some found) (standing_by i) q =
        let same : found ≡ plain = cc in
        subst (Shows (old_board end.board)) same (inv_shows (old_board end.board) found i)
