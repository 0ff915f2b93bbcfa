-- Runs: lists of calls and losses of supply, and what stands promised after them.
use Rattle.std.specs.Prelude.{◌≡◌, false, cond, List, [], ◌∷◌, ℕ, ◌*◌, eqb, length, Option, None, Some}
use Rattle.words.specs.Words.{Store}
use Rattle.rules.specs.declared.Geometry.{Geometry}
use Rattle.rules.specs.Board.{Board, Volatile, sizes}
use Rattle.rules.specs.Numbers.{number_of}
use Rattle.rules.specs.Power.{Outcome, stored}
use Rattle.rules.specs.Calls.{Call, load, peek, store, begin, step, format, recover, sweep, plan, call}
use Rattle.rules.specs.PlainMachine.{Plain, formatted, opened, has_mark, note}

pub data Event : Type 0 where
  -- a call with its allowance
  does : ℕ → Call → Event
  -- a loss of supply, after which CACHE, table and record hold anything; a recovery with the board's sizes comes next
  stop : Volatile → Event

-- the board, and the plain machine that it must look like; none where no accepted format or recovery stands behind it
pub record Run : Type 0 where
  pub board : Board
  pub promise : Option Plain

-- what stands after a format: all anew where it was accepted, nothing where it was cut, the same where it was refused
unfoldable pub after_format : Option Plain → ℕ → ℕ → Option Plain
unfolding formatted
after_format was fill n = cond (eqb n 0) (Some (formatted fill)) (cond (eqb n 20) None was)

-- what stands after a call of which nothing stood before: only an accepted recovery (or format) starts a promise
unfoldable pub from_none : Call → ℕ → Board → Option Plain
unfolding opened after_format
from_none (load block offset len) n board = None
from_none (peek block) n board = None
from_none (store block offset bytes) n board = None
from_none (begin registers) n board = None
from_none (step count) n board = None
from_none (format g fill) n board = after_format None fill n
from_none (recover g) n board = cond (eqb n 0) (opened g board.memory) None
from_none (sweep limit) n board = None

unfoldable pub from_some : Geometry → Plain → Call → ℕ → List Store → Option Plain
unfolding note after_format
from_some g plain (load block offset len) n stores = Some (note g plain (load block offset len) n stores)
from_some g plain (peek block) n stores = Some (note g plain (peek block) n stores)
from_some g plain (store block offset bytes) n stores = Some (note g plain (store block offset bytes) n stores)
from_some g plain (begin registers) n stores = Some (note g plain (begin registers) n stores)
from_some g plain (step count) n stores = Some (note g plain (step count) n stores)
from_some g plain (format h fill) n stores = after_format (Some plain) fill n
from_some g plain (recover h) n stores = Some (note g plain (recover h) n stores)
from_some g plain (sweep limit) n stores = Some (note g plain (sweep limit) n stores)

unfoldable pub promised : Geometry → Option Plain → Call → Outcome → List Store → Option Plain
unfolding from_none from_some number_of
promised g None c outcome stores = from_none c (number_of outcome.number) outcome.board
promised g (Some plain) c outcome stores = from_some g plain c (number_of outcome.number) stores

unfoldable pub doing : ℕ → Call → Run → Run
unfolding promised call plan stored
doing p c run =
    let outcome = call p run.board c in
    record { board = outcome.board; promise = promised (sizes run.board) run.promise c outcome (stored p (plan run.board c)) }

-- a recovery after a loss that is refused leaves lost volatile memory behind, of which nothing is promised
unfoldable pub unless_refused : ℕ → Option Plain → Option Plain
unless_refused n promise = cond (eqb n 0) promise None

unfoldable pub stopping : Volatile → Run → Run
unfolding promised call plan stored unless_refused
stopping volatile run =
    let lost : Board = record { memory = run.board.memory; volatile = volatile } in
    let c = recover (sizes run.board) in
    let outcome = call 0 lost c in
    record {
      board = outcome.board;
      promise =
          unless_refused (number_of outcome.number) (promised (sizes run.board) run.promise c outcome (stored 0 (plan lost c)));
    }

unfoldable pub advance : Event → Run → Run
unfolding doing stopping
advance (does p c) run = doing p c run
advance (stop volatile) run = stopping volatile run

unfoldable pub runs : List Event → Run → Run
unfolding advance
runs [] run = run
runs (e ∷ events) run = runs events (advance e run)

-- ---- the runs of demand 3

-- the buffers that a loss leaves have their lengths, whatever they hold
pub record Lengths (g : Geometry) (volatile : Volatile) : Type 0 where
  pub cache : length volatile.cache ≡ 64 * g.slots
  pub table : length volatile.table ≡ g.slots

-- any call but another format, with any arguments and any allowance
pub data NoFormat : Call → Type 0 where
  a_load : {block offset len : ℕ} → NoFormat (load block offset len)
  a_peek : {block : ℕ} → NoFormat (peek block)
  a_store : {block offset : ℕ} {bytes : List ℕ} → NoFormat (store block offset bytes)
  a_begin : {registers : List ℕ} → NoFormat (begin registers)
  a_step : {n : ℕ} → NoFormat (step n)
  a_recover : {h : Geometry} → NoFormat (recover h)
  a_sweep : {limit : ℕ} → NoFormat (sweep limit)

pub data Allowed (g : Geometry) : Event → Type 0 where
  a_call : {p : ℕ} {c : Call} → NoFormat c → Allowed g (does p c)
  a_stop : {volatile : Volatile} → Lengths g volatile → Allowed g (stop volatile)

-- every event is one of these
pub data AllAllowed (g : Geometry) : List Event → Type 0 where
  no_more : AllAllowed g []
  and_then : {e : Event} {events : List Event} → Allowed g e → AllAllowed g events → AllAllowed g (e ∷ events)

-- one finished format on any memory contents, then any allowed events
pub record FromFormat (g : Geometry) : Type 0 where
  pub fill : ℕ
  pub p : ℕ
  pub before : Board
  pub finished : number_of (call p before (format g fill)).number ≡ 0
  pub events : List Event
  pub allowed : AllAllowed g events

-- the format counts as the first checkpoint
abbrev pub formatted_run : {g : Geometry} → FromFormat g → Run
formatted_run {g} from = record { board = (call from.p from.before (format g from.fill)).board; promise = Some (formatted from.fill) }

-- the run as it stands after the events
abbrev pub run_from : {g : Geometry} → FromFormat g → Run
run_from from = runs from.events (formatted_run from)

-- a run goes on by allowed events, none of which finishes a checkpoint
pub data NoneFinished (g : Geometry) : Run → List Event → Type 0 where
  no_more : {run : Run} → NoneFinished g run []
  and_call :
      {run : Run} {p : ℕ} {c : Call} {events : List Event}
      → NoFormat c
      → has_mark g (stored p (plan run.board c)) ≡ false
      → NoneFinished g (doing p c run) events
      → NoneFinished g run (does p c ∷ events)
  and_stop :
      {run : Run} {volatile : Volatile} {events : List Event}
      → Lengths g volatile
      → NoneFinished g (stopping volatile run) events
      → NoneFinished g run (stop volatile ∷ events)
