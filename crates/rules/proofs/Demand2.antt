-- Demand 2: from an accepted format or recovery on, an accepted load gives the bytes last stored, formatted or recovered.
use mathlib.Core.Path.{◌≡◌, refl, sym, ap, ◌∙◌, subst}
use mathlib.Core.Bool.{Bool, true, false, cond}
use mathlib.Core.List.{List, [], ◌∷◌}
use Rattle.std.specs.Prelude.{Option, None, Some}
use Prim.Native.Nat.{ℕ}
use lib.Dec.{eqb}
use borrow.Author.Tests.{eqb-true, eqb-false}
use Rattle.words.specs.Words.{Store, lay}
use Rattle.rules.specs.declared.Geometry.{Geometry}
use Rattle.rules.specs.declared.Number.TheVariants as No
use Rattle.rules.specs.Board.{Board, Volatile, sizes, table_of}
use Rattle.rules.specs.Numbers.{number_of, ◌⇒◌}
use Rattle.rules.specs.Power.{Outcome, stored}
use Rattle.rules.specs.Starts.{finished_in, no_checkpoint, unsound, recover_number, recover_from, recover_plan}
use Rattle.rules.specs.Calls.{Call, load, peek, store, begin, step, format, recover, sweep, plan, call}
use Rattle.rules.specs.PlainMachine.{Plain, formatted, opened}
use Rattle.rules.specs.Runs.{stop, Event, does, Run, after_format, from_none, from_some, promised, doing, unless_refused, stopping, advance, runs, NoFormat, a_load, a_peek, a_store, a_begin, a_step, a_recover, a_sweep}
use Rattle.rules.specs.Promises.{Demand2}
use Rattle.rules.specs.SweepPromises.{NeverTwice}
use Rattle.rules.proofs.Clashes.{none_some}
use Rattle.rules.proofs.Apart.{apart_distinct}
use Rattle.rules.proofs.Changing.{found}
use Rattle.rules.proofs.Checked.{sizes_passed, Lent}
use Rattle.rules.proofs.Invariant.{Inv, settled}
use Rattle.rules.proofs.Answers.{refused, guard_accepted}
use Rattle.rules.proofs.Started.{format_inv, opened_inv}
use Rattle.rules.proofs.LiveShown.{inv_apart, inv_shows}
use Rattle.rules.proofs.Demand3.{call_keeps, noted, lost, stop_recovers, back, noted_back, stop_inv}

-- nothing is promised, or the board looks like the plain machine
pub data Stands (board : Board) : Option Plain → Type 0 where
  unpromised : Stands board None
  standing_by : {plain : Plain} → Inv board plain → Stands board (Some plain)

-- ---- a format, accepted, refused or cut

format_stands : (p : ℕ) (board : Board) (was : Option Plain) → Stands board was → (g : Geometry) (fill : ℕ)
    → Stands (call p board (format g fill)).board (after_format was fill (number_of (call p board (format g fill)).number))
unfolding after_format
format_stands p board was s g fill = go (eqb n 0) refl (eqb n 20) refl
  where
    o : Outcome
    o = call p board (format g fill)

    n : ℕ
    n = number_of o.number

    go : (a : Bool) → eqb n 0 ≡ a → (b : Bool) → eqb n 20 ≡ b → Stands o.board (cond a (Some (formatted fill)) (cond b None was))
    go true e b f = standing_by (format_inv g fill p board (eqb-true n 0 e)).0
    go false e true f = unpromised
    go false e false f = subst (λ (z : Board). Stands z was) (sym (refused p board (format g fill) (eqb-false n 0 e) (eqb-false n 20 f)).same) s

-- ---- any call

module _ (p : ℕ) (board : Board) where
  abbrev outcome : Call → Outcome
  outcome c = call p board c

  abbrev after : Option Plain → Call → Option Plain
  after was c = promised (sizes board) was c (call p board c) (stored p (plan board c))

  noted_stands : (plain : Plain) → Inv board plain → (c : Call) → NoFormat c → Stands (outcome c).board (after (Some plain) c)
  unfolding promised call
  noted_stands plain v c nf =
      subst (Stands (outcome c).board) (sym (noted (sizes board) plain c (number_of (outcome c).number) (stored p (plan board c)) nf))
      (standing_by (settled board plain c p (plan board c) (call_keeps board plain v c nf) v))

  recover_stands : (g : Geometry) → Stands (outcome (recover g)).board (from_none (recover g) (number_of (outcome (recover g)).number) (outcome (recover g)).board)
  unfolding from_none
  recover_stands g = go (eqb (number_of (outcome (recover g)).number) 0) refl
    where
      found : number_of (outcome (recover g)).number ≡ 0 → (o : Option Plain) → opened g (outcome (recover g)).board.memory ≡ o → Stands (outcome (recover g)).board o
      found e None q = unpromised
      found e (Some plain) q = standing_by (opened_inv g p board e plain q)

      go : (a : Bool) → eqb (number_of (outcome (recover g)).number) 0 ≡ a
          → Stands (outcome (recover g)).board (cond a (opened g (outcome (recover g)).board.memory) None)
      go true e = found (eqb-true (number_of (outcome (recover g)).number) 0 e) (opened g (outcome (recover g)).board.memory) refl
      go false e = unpromised

  call_stands : (was : Option Plain) → Stands board was → (c : Call) → Stands (outcome c).board (after was c)
  unfolding promised from_none from_some
  call_stands None unpromised (load block offset len) = unpromised
  call_stands None unpromised (peek block) = unpromised
  call_stands None unpromised (store block offset bytes) = unpromised
  call_stands None unpromised (begin registers) = unpromised
  call_stands None unpromised (step n) = unpromised
  call_stands None unpromised (format g fill) = format_stands p board None unpromised g fill
  call_stands None unpromised (recover g) = recover_stands g
  call_stands None unpromised (sweep limit) = unpromised
  call_stands (Some plain) (standing_by v) (load block offset len) = noted_stands plain v (load block offset len) a_load
  call_stands (Some plain) (standing_by v) (peek block) = noted_stands plain v (peek block) a_peek
  call_stands (Some plain) (standing_by v) (store block offset bytes) = noted_stands plain v (store block offset bytes) a_store
  call_stands (Some plain) (standing_by v) (begin registers) = noted_stands plain v (begin registers) a_begin
  call_stands (Some plain) (standing_by v) (step n) = noted_stands plain v (step n) a_step
  call_stands (Some plain) (standing_by v) (format g fill) = format_stands p board (Some plain) (standing_by v) g fill
  call_stands (Some plain) (standing_by v) (recover g) = noted_stands plain v (recover g) a_recover
  call_stands (Some plain) (standing_by v) (sweep limit) = noted_stands plain v (sweep limit) a_sweep

-- ---- a loss of supply: after an accepted recovery the board looks like what was kept, after a refused one nothing stands

module _ (board : Board) (volatile : Volatile) where
  abbrev g : Geometry
  g = sizes board

  abbrev o : Outcome
  o = call 0 (lost board volatile) (recover (sizes board))

  abbrev ws : List Store
  ws = stored 0 (plan (lost board volatile) (recover (sizes board)))

  -- an accepted recovery checked the lengths itself
  accepted_lent : number_of o.number ≡ 0 → Lent g (lost board volatile)
  unfolding call plan recover_plan recover_number
  accepted_lent e =
      let finished = finished_in g board.memory in
      let a = guard_accepted 0 (lost board volatile) (recover_number (lost board volatile) g finished) (recover_from (lost board volatile) g finished) e in
      (sizes_passed (lost board volatile) g ((no_checkpoint finished ⇒ No.NoCheckpoint) ∷ (unsound g board.memory finished ⇒ No.Backup) ∷ []) a.0).1

  stop_stands : (was : Option Plain) → Stands board was → Stands o.board (unless_refused (number_of o.number) (promised g was (recover g) o ws))
  unfolding unless_refused promised lay
  stop_stands was s = go was s (eqb (number_of o.number) 0) refl
    where
      go : (was : Option Plain) → Stands board was → (a : Bool) → eqb (number_of o.number) 0 ≡ a
          → Stands o.board (cond a (promised g was (recover g) o ws) None)
      go was s false e = unpromised
      go None unpromised true e = recover_stands 0 (lost board volatile) g
      go (Some plain) (standing_by v) true e =
          let n = eqb-true (number_of o.number) 0 e in
          let l = accepted_lent n in
          let is = stop_recovers board plain v volatile l 0 in
          subst (Stands o.board)
          (sym (ap (λ (z : ℕ). from_some g plain (recover g) z ws) n ∙ noted_back g plain (plan (lost board volatile) (recover g))))
          (subst (λ (z : Outcome). Stands z.board (Some (back plain))) (sym is) (standing_by (stop_inv board plain v volatile l)))

-- ---- runs

pub runs_stand : (events : List Event) (run : Run) → Stands run.board run.promise → Stands (runs events run).board (runs events run).promise
unfolding runs advance doing stopping
runs_stand [] run s = s
runs_stand (does p c ∷ events) run s = runs_stand events (doing p c run) (call_stands p run.board run.promise s c)
runs_stand (stop volatile ∷ events) run s = runs_stand events (stopping volatile run) (stop_stands run.board volatile run.promise s)

-- a run that a promise stands behind looks like the plain machine
pub run_inv : (board : Board) (events : List Event) (plain : Plain) → (runs events (record { board = board; promise = None })).promise ≡ Some plain
    → Inv (runs events (record { board = board; promise = None })).board plain
run_inv board events plain e = go run.promise (runs_stand events (record { board = board; promise = None }) unpromised) e
  where
    run : Run
    run = runs events (record { board = board; promise = None })

    go : (promise : Option Plain) → Stands run.board promise → promise ≡ Some plain → Inv run.board plain
    go None unpromised q = absurd (none_some plain q)
    go (Some found) (standing_by v) q =
        let same : found ≡ plain = cc in
        subst (Inv run.board) same v

pub demand_2 : Demand2
unfolding Demand2
demand_2 board events plain e = inv_shows (runs events (record { board = board; promise = None })).board plain (run_inv board events plain e)

-- no call makes a table that names a block twice, nor does a recovery that is accepted
pub never_twice : NeverTwice
unfolding NeverTwice
never_twice board events plain e awake =
    let run = runs events (record { board = board; promise = None }) in
    apart_distinct (table_of run.board) (inv_apart run.board plain (run_inv board events plain e) awake)
