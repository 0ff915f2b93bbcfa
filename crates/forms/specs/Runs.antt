-- Runs on a board of the longer memory: calls of both forms, moves and losses of supply, and what stands promised after them.
use Rattle.std.specs.Prelude.{◌≡◌, ◌≢◌, ◌⊎◌, List, [], ◌∷◌, ◌++◌, ℕ, ◌+◌, ◌*◌, ◌≤◌, Option, Some}
use Rattle.words.specs.Words.{word, words}
use Rattle.rules.specs.declared.Geometry.{Geometry}
use Rattle.rules.specs.Board.{Board, Volatile, sizes}
use Rattle.rules.specs.Numbers.{number_of}
use Rattle.rules.specs.Power.{Outcome, stored}
use Rattle.rules.specs.Calls as Old
use Rattle.rules.specs.PlainMachine.{Plain, formatted, note}
use Rattle.rules.specs.Runs as OldRuns
use Rattle.rules.specs.Runs.{Run, Lengths}
use Rattle.forms.specs.Stored.{header_bytes, header_start, zero_word, without, last_two, old_board}
use Rattle.forms.specs.Calls.{Call, old, format, recover, up, back, call}

-- ---- one call

-- the run that the old form's calls are in
abbrev pub old_run : Run → Run
old_run run = record { board = old_board run.board; promise = run.promise }

-- an outcome, its memory without the two words
abbrev pub shortened : Outcome → Outcome
shortened outcome = record { number = outcome.number; words = outcome.words; gives = outcome.gives; board = old_board outcome.board }

-- what stands after a call: by the old form's rules, which an old call, a recovery and a format keep. A move changes nothing
unfoldable pub promised : ℕ → Run → Call → Option Plain
unfolding OldRuns.doing OldRuns.promised OldRuns.after_format call number_of
promised p run (old c) = (OldRuns.doing p c (old_run run)).promise
promised p run (format g fill) = OldRuns.after_format run.promise fill (number_of (call p run.board (format g fill)).number)
promised p run (recover g) =
    OldRuns.promised (sizes run.board) run.promise (Old.recover g) (shortened (call p run.board (recover g))) []
promised p run (up g) = run.promise
promised p run (back g) = run.promise

unfoldable pub doing : ℕ → Call → Run → Run
unfolding call promised
doing p c run = record { board = (call p run.board c).board; promise = promised p run c }

-- ---- a loss of supply

abbrev pub lost : Board → Volatile → Board
lost board volatile = record { memory = board.memory; volatile = volatile }

-- the old form's recovery with the board's sizes comes next
unfoldable pub stopping : Volatile → Run → Run
unfolding OldRuns.stopping last_two without
stopping volatile run =
    let next = OldRuns.stopping volatile (old_run run) in
    record {
      board = record { memory = next.board.memory ++ last_two run.board.memory; volatile = next.board.volatile };
      promise = next.promise;
    }

-- the new form's recovery with the board's sizes comes next
unfoldable pub stopping_new : Volatile → Run → Run
unfolding OldRuns.unless_refused OldRuns.promised call number_of
stopping_new volatile run =
    let g = sizes run.board in
    let outcome = call 0 (lost run.board volatile) (recover g) in
    record {
      board = outcome.board;
      promise = OldRuns.unless_refused (number_of outcome.number) (OldRuns.promised g run.promise (Old.recover g) (shortened outcome) []);
    }

-- ---- runs

pub data Event : Type 0 where
  -- a call with its allowance
  does : ℕ → Call → Event
  -- a loss of supply, after which CACHE, table and record hold anything, and the old form's recovery, or the new form's
  stop : Volatile → Event
  stop_new : Volatile → Event

unfoldable pub advance : Event → Run → Run
unfolding doing stopping stopping_new
advance (does p c) run = doing p c run
advance (stop volatile) run = stopping volatile run
advance (stop_new volatile) run = stopping_new volatile run

unfoldable pub runs : List Event → Run → Run
unfolding advance
runs [] run = run
runs (e ∷ events) run = runs events (advance e run)

-- ---- the runs of demand 3

-- any call but a format of either form: moves and recoveries with any sizes
pub data NoFormat : Call → Type 0 where
  an_old : {c : Old.Call} → OldRuns.NoFormat c → NoFormat (old c)
  a_recover : {h : Geometry} → NoFormat (recover h)
  an_up : {h : Geometry} → NoFormat (up h)
  a_back : {h : Geometry} → NoFormat (back h)

-- after a loss the host recovers in the old form, or in the new form where the first word isn't zero
pub data Allowed (g : Geometry) (run : Run) : Event → Type 0 where
  a_call : {p : ℕ} {c : Call} → NoFormat c → Allowed g run (does p c)
  a_stop : {volatile : Volatile} → Lengths g volatile → Allowed g run (stop volatile)
  a_stop_new : {volatile : Volatile} → Lengths g volatile → word run.board.memory (header_start g) ≢ zero_word → Allowed g run (stop_new volatile)

-- every event is one of these
pub data AllAllowed (g : Geometry) : Run → List Event → Type 0 where
  no_more : {run : Run} → AllAllowed g run []
  and_then :
      {run : Run} {e : Event} {events : List Event} → Allowed g run e → AllAllowed g (advance e run) events → AllAllowed g run (e ∷ events)

-- the first header word is zero, or the header fits
unfoldable pub Clear : Geometry → List ℕ → Type 0
Clear g memory = (word memory (header_start g) ≡ zero_word) ⊎ (words memory (header_start g) 2 ≡ header_bytes g)

-- one format on any memory contents, and the board that it leaves
pub data Formatted (g : Geometry) (fill : ℕ) : Board → Type 0 where
  -- the old form's, finished, beside two words that are no other board's header
  by_old :
      (p : ℕ) (before : Board)
      → number_of (call p before (old (Old.format g fill))).number ≡ 0
      → Clear g before.memory
      → Formatted g fill (call p before (old (Old.format g fill))).board
  -- the new form's, finished
  by_new : (p : ℕ) (before : Board) → number_of (call p before (format g fill)).number ≡ 0 → Formatted g fill (call p before (format g fill)).board
  -- the new form's, cut between its mark and its last header word: a new board in the old form, after the recovery that follows
  by_cut :
      (p : ℕ) (before : Board) (volatile : Volatile)
      → number_of (call p before (format g fill)).number ≡ 20
      → 8 * g.blocks + g.slots + 11 ≤ p
      → Lengths g volatile
      → Formatted g fill (call 0 (lost (call p before (format g fill)).board volatile) (old (Old.recover g))).board

-- the format counts as the first checkpoint
abbrev pub formatted_run : ℕ → Board → Run
formatted_run fill board = record { board = board; promise = Some (formatted fill) }

pub record FromFormat (g : Geometry) : Type 0 where
  pub fill : ℕ
  pub board : Board
  pub begins : Formatted g fill board
  pub events : List Event
  pub allowed : AllAllowed g (formatted_run fill board) events

-- the run as it stands after the events
abbrev pub run_from : {g : Geometry} → FromFormat g → Run
run_from from = runs from.events (formatted_run from.fill from.board)

-- the plain machine after a call of such a run, which is no format
unfoldable pub noted : ℕ → Board → Plain → Call → Plain
unfolding note number_of stored Old.plan Old.call call
noted p board plain (old c) = note (sizes board) plain c (number_of (Old.call p (old_board board) c).number) (stored p (Old.plan (old_board board) c))
noted p board plain (format g fill) = plain
noted p board plain (recover g) = note (sizes board) plain (Old.recover g) (number_of (call p board (recover g)).number) []
noted p board plain (up g) = plain
noted p board plain (back g) = plain
