-- Each event of a run on the longer memory, seen on the memory without the two words: an event of the old form's run, nothing, or a loss of the phase.
use mathlib.Core.Path.{◌≡◌, refl, sym, ap, ◌∙◌, subst}
use mathlib.Core.Logic.{◌≢◌}
use mathlib.Core.Bool.{Bool, true, false}
use mathlib.Core.List.{List, [], ◌++◌}
use Rattle.std.specs.Prelude.{Option, None, Some}
use Prim.Native.Nat.{ℕ, ◌-◌, ◌≤◌, ◌<◌}
use native.Mathlib.Omega.{arith}
use lib.Dec.{eqb, leb}
use lib.ListN.{length, take, length-append, length-drop, take-append-drop}
use lib.Seq.{take_all, take_at, drop_at}
use borrow.Author.Tests.{eq-eqb, ne_eqb, eqb-true, eqb-false, le-leb, lt-leb, leb-true, leb-false}
use Rattle.words.specs.Words.{Store, lay}
use Rattle.words.proofs.All.{done}
use Rattle.rules.specs.declared.Geometry.{Geometry}
use Rattle.rules.specs.declared.Number.{Number}
use Rattle.rules.specs.declared.Number.TheVariants as No
use Rattle.rules.specs.Board.{Board, Volatile, sizes}
use Rattle.rules.specs.Numbers.{number_of, first_of}
use Rattle.rules.specs.Power.{Plan, carry, guard, Outcome, whole, cut, settle}
use Rattle.rules.specs.Starts.{finished_in, recover_from}
use Rattle.rules.specs.Calls as Old
use Rattle.rules.specs.PlainMachine.{Plain}
use Rattle.rules.specs.Runs as OldRuns
use Rattle.rules.specs.Runs.{Run}
use Rattle.rules.proofs.Invariant.{did_not, no_mark, note_unmarked}
use Rattle.checks.proofs.Settled.{guard_on}
use Rattle.forms.specs.Stored.{header_of, without, last_two, old_board}
use Rattle.forms.specs.Calls.{header_checks, headed_number, recover_plan, old, recover, call}
use Rattle.forms.specs.Runs.{old_run, shortened, promised, doing, lost, stopping, stopping_new}
use Rattle.forms.proofs.Checking.{headed}
use Rattle.forms.proofs.Recovering.{recover_same, recover_stores}

-- ---- two words beside what an old call leaves

pub last_length : (memory : List ℕ) → 16 ≤ length memory → length (last_two memory) ≡ 16
unfolding last_two
last_length memory h = simp length-drop (omega (arith, h))

pub split : (memory : List ℕ) → without memory ++ last_two memory ≡ memory
unfolding without last_two
split memory = take-append-drop (length memory - 16) memory

module _ (old two : List ℕ) (e : length two ≡ 16) where
  beside-length : length (old ++ two) - 16 ≡ length old
  beside-length = simp length-append (omega (arith, e))

  pub beside_without : without (old ++ two) ≡ old
  unfolding without
  beside_without = take_at old two (length (old ++ two) - 16) (sym beside-length)

  pub beside_last : last_two (old ++ two) ≡ two
  unfolding last_two
  beside_last = drop_at old two (length (old ++ two) - 16) (sym beside-length)

-- an old call and a loss with the old form's recovery
pub old_follows : (p : ℕ) (c : Old.Call) (run : Run) → 16 ≤ length run.board.memory → old_run (doing p (old c) run) ≡ OldRuns.doing p c (old_run run)
unfolding doing promised call OldRuns.doing
old_follows p c run h =
    let next = OldRuns.doing p c (old_run run) in
    ap (λ (memory : List ℕ). record { board = record { memory = memory; volatile = next.board.volatile }; promise = next.promise })
    (beside_without next.board.memory (last_two run.board.memory) (last_length run.board.memory h))

pub stop_follows : (volatile : Volatile) (run : Run) → 16 ≤ length run.board.memory → old_run (stopping volatile run) ≡ OldRuns.stopping volatile (old_run run)
unfolding stopping
stop_follows volatile run h =
    let next = OldRuns.stopping volatile (old_run run) in
    ap (λ (memory : List ℕ). record { board = record { memory = memory; volatile = next.board.volatile }; promise = next.promise })
    (beside_without next.board.memory (last_two run.board.memory) (last_length run.board.memory h))

-- ---- a recovery of the new form

-- what stands after a recovery that is refused: what stood
refused_promise : (g h : Geometry) (promise : Option Plain) (outcome : Outcome) → number_of outcome.number ≢ 0
    → OldRuns.promised g promise (Old.recover h) outcome [] ≡ promise
unfolding OldRuns.promised OldRuns.from_none OldRuns.from_some
refused_promise g h None outcome ne = rw (ne_eqb (number_of outcome.number) 0 ne)
refused_promise g h (Some plain) outcome ne =
    ap (λ (z : Plain). Some z) (note_unmarked g plain (Old.recover h) (number_of outcome.number) [] (no_mark g done) ∙ did_not plain (Old.recover h) (number_of outcome.number) ne)

-- a plan behind checks that it doesn't pass
abbrev pub refusal : Board → Number → Outcome
refusal board n = record { number = n; words = 0; gives = []; board = board }

pub guard_refuses : (p : ℕ) (board : Board) (n : Number) (q : Plan) → number_of n ≢ 0 → settle p board (guard n q) ≡ refusal board n
unfolding settle guard
guard_refuses p board n q ne = rw (ne_eqb (number_of n) 0 ne)

module _ (p : ℕ) (h : Geometry) (run : Run) where
  abbrev outcome : Outcome
  outcome = call p run.board (recover h)

  pub recover_follows : number_of (headed_number true run.board h) ≡ 0 → old_run (doing p (recover h) run) ≡ OldRuns.doing p (Old.recover h) (old_run run)
  unfolding doing promised OldRuns.doing
  recover_follows e =
      let after : Outcome → List Store → Run =
      λ o stores. record { board = o.board; promise = OldRuns.promised (sizes run.board) run.promise (Old.recover h) o stores }
      in
      ap (λ (o : Outcome). after o []) (recover_same p run.board h (headed true run.board h e).header)
      ∙ ap (after (Old.call p (old_board run.board) (Old.recover h))) (sym (recover_stores p (old_board run.board) h))

  pub recover_stays : number_of (headed_number true run.board h) ≢ 0 → doing p (recover h) run ≡ run
  unfolding doing promised call recover_plan
  recover_stays ne =
      let n = headed_number true run.board h in
      ap (λ (o : Outcome). record { board = o.board; promise = OldRuns.promised (sizes run.board) run.promise (Old.recover h) (shortened o) [] })
      (guard_refuses p run.board n (recover_from (old_board run.board) h (finished_in h (without run.board.memory))) ne)
      ∙ ap (λ (promise : Option Plain). record { board = run.board; promise = promise })
      (refused_promise (sizes run.board) h run.promise (shortened (refusal run.board n)) ne)

-- a loss with the new form's recovery, where the header passes
pub stop_new_follows : (volatile : Volatile) (run : Run) → number_of (first_of (header_checks true (header_of (sizes run.board) run.board.memory))) ≡ 0
    → old_run (stopping_new volatile run) ≡ OldRuns.stopping volatile (old_run run)
unfolding stopping_new OldRuns.stopping
stop_new_follows volatile run e =
    let g = sizes run.board in
    let after : Outcome → List Store → Run =
    λ o stores. record { board = o.board; promise = OldRuns.unless_refused (number_of o.number) (OldRuns.promised g run.promise (Old.recover g) o stores) }
    in
    ap (λ (o : Outcome). after o []) (recover_same 0 (lost run.board volatile) g e)
    ∙ ap (after (Old.call 0 (old_board (lost run.board volatile)) (Old.recover g))) (sym (recover_stores 0 (old_board (lost run.board volatile)) g))

-- ---- a list behind its checks

-- how it ends: refused, whole, or cut
pub data Ends (p : ℕ) (board : Board) (n : Number) (stores : List Store) (after : Volatile) : Outcome → Type 0 where
  refused : number_of n ≢ 0 → Ends p board n stores after (refusal board n)
  finished :
      number_of n ≡ 0 → length stores ≤ p
      → Ends p board n stores after
      (record { number = No.Done; words = length stores; gives = []; board = record { memory = lay (take p stores) board.memory; volatile = after } })
  stopped : number_of n ≡ 0 → p < length stores → Ends p board n stores after (cut p board stores after)

settles_whole : (p : ℕ) (board : Board) (stores : List Store) (after : Volatile) → length stores ≤ p
    → settle p board (carry stores after [])
    ≡ record { number = No.Done; words = length stores; gives = []; board = record { memory = lay (take p stores) board.memory; volatile = after } }
unfolding settle
settles_whole p board stores after h = rw (le-leb (length stores) p h, take_all p stores h)

settles_cut : (p : ℕ) (board : Board) (stores : List Store) (after : Volatile) → p < length stores → settle p board (carry stores after []) ≡ cut p board stores after
unfolding settle
settles_cut p board stores after h = rw (lt-leb (length stores) p h)

pub ends : (p : ℕ) (board : Board) (n : Number) (stores : List Store) (after : Volatile) → Ends p board n stores after (settle p board (guard n (carry stores after [])))
ends p board n stores after = go (eqb (number_of n) 0) refl (leb (length stores) p) refl
  where
    list : Plan
    list = carry stores after []

    go : (a : Bool) → eqb (number_of n) 0 ≡ a → (b : Bool) → leb (length stores) p ≡ b → Ends p board n stores after (settle p board (guard n list))
    go false e b f = let ne = eqb-false (number_of n) 0 e in subst (Ends p board n stores after) (sym (guard_refuses p board n list ne)) (refused ne)
    go true e true f =
        let z = eqb-true (number_of n) 0 e in
        let h = leb-true (length stores) p f in
        subst (Ends p board n stores after) (sym (guard_on p board list n n refl z ∙ settles_whole p board stores after h)) (finished z h)
    go true e false f =
        let z = eqb-true (number_of n) 0 e in
        let h = leb-false (length stores) p f in
        subst (Ends p board n stores after) (sym (guard_on p board list n n refl z ∙ settles_cut p board stores after h)) (stopped z h)

-- its checks passed and its allowance enough, it is whole
pub carried : (p : ℕ) (board : Board) (n : Number) (stores : List Store) (after : Volatile) → number_of n ≡ 0 → length stores ≤ p
    → settle p board (guard n (carry stores after [])) ≡ whole board stores after []
unfolding settle guard
carried p board n stores after z enough = rw (eq-eqb (number_of n) 0 z, le-leb (length stores) p enough)
