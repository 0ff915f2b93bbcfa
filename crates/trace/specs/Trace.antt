-- The bench: its state, and what each field makes of it and prints (document 01, The bench trace).
use Rattle.std.specs.Prelude.{◌≡◌, Bool, true, false, cond, List, [], ◌∷◌, ◌++◌, ℕ, ◌+◌, ◌≤◌, Some, None, eqb, get_or, replicate, Option}
use Rattle.std.specs.Prelude as P
use Rattle.std.specs.declared.ops.ControlFlow.{ControlFlow}
use Rattle.std.specs.declared.ops.ControlFlow.TheVariants.{Continue, Break}
use Rattle.rules.specs.declared.Backup.TheVariants.{A}
use Rattle.rules.specs.declared.Phase.TheVariants.{Off}
use Rattle.rules.specs.declared.Controller.{Controller}
use Rattle.rules.specs.Board.{Board, sizes, board_of}
use Rattle.rules.specs.Numbers.{number_of}
use Rattle.rules.specs.Power.{Outcome}
use Rattle.rules.specs.Starts.{registers_given}
use Rattle.rules.specs.Calls.{load, store, begin, step, format, recover}
use Rattle.lines.specs.Lines.{decimal, hex_bytes, line}
use Rattle.lines.specs.Puts.{Puts}
use Rattle.fields.specs.Fields.{Field}
use Rattle.trace.specs.declared.Bench as D
use Rattle.asking.specs.declared.Asked.{Asked}
use Rattle.asking.specs.declared.Asked.TheVariants.{Format, Store, Load, Begin, Step, Allow, Recover, Bad}
use Rattle.asking.specs.Asking.{asked, store_bytes}
use Rattle.lending.specs.Lending.{board_in, called}

-- ---- the bench

-- the words of a field of tag 6, or none
abbrev pub Allowance : Type 0
Allowance = P.Option ℕ

pub record Bench : Type 0 where
  -- the arrays whole, and the record
  pub board : Board
  -- of a field of tag 6 that isn't used yet
  pub allowance : Allowance

-- the words of an allowance; without a field of tag 6 it is unlimited
unfoldable pub words_of : Allowance → ℕ
words_of None = 18446744073709551615
words_of (Some p) = p

-- sizes 0, so that calls give GEOMETRY
abbrev pub first_record : Controller
first_record = record { geometry = record { blocks = 0; slots = 0 }; registers = replicate 64 0; finished = A; phase = Off }

-- the bench at the start: all zero
unfoldable pub fresh : Bench
fresh = record { board = board_of (replicate 5512 0) (replicate 1024 0) (replicate 16 0) first_record; allowance = None }

-- ---- the lines

-- field number, number returned, words stored
abbrev pub numbers_of : ℕ → Outcome → List (List ℕ)
numbers_of number outcome = decimal number ∷ (decimal (number_of outcome.number) ∷ (decimal outcome.words ∷ []))

-- bytes in hex after an accepted call
unfoldable pub shown : Outcome → List ℕ → List (List ℕ)
shown outcome bytes = cond (eqb (number_of outcome.number) 0) (hex_bytes bytes ∷ []) []

-- the first register after an accepted recovery, or `--` where there are none (document 02, No. 2)
unfoldable pub register_text : Option (List ℕ) → List ℕ
register_text None = 45 ∷ (45 ∷ [])
register_text (Some registers) = hex_bytes (get_or registers 0 0 ∷ [])

unfoldable pub shown_register : Outcome → List (List ℕ)
shown_register outcome = cond (eqb (number_of outcome.number) 0) (register_text (registers_given outcome.gives) ∷ []) []

-- `bad`
abbrev pub bad : List ℕ
bad = 98 ∷ (97 ∷ (100 ∷ []))

-- ---- a field

-- the line of a field, whether the run goes on, and the bench after it
pub record Turned : Type 0 where
  pub prints : List ℕ
  pub goes : Bool
  pub bench : Bench

-- a call's end: the line with what is shown after the numbers, and the allowance that is left
unfoldable pub ends : ℕ → Allowance → List (List ℕ) → Outcome → Turned
ends number allowance shows outcome = record {
  prints = line (numbers_of number outcome ++ shows);
  goes = true;
  bench = record { board = outcome.board; allowance = allowance };
}

-- Tags 1, 2, 4 and 5 use the allowance up, accepted or not. A load and a recovery store no word and leave it.
unfoldable pub turned_by : Bench → ℕ → List ℕ → Asked → Turned
turned_by bench number value (Format g fill) =
    ends number None [] (called (words_of bench.allowance) bench.board g (format g fill))
turned_by bench number value (Store block offset) =
    ends number None []
    (called (words_of bench.allowance) bench.board (sizes bench.board) (store block offset (store_bytes value)))
turned_by bench number value (Load block offset len) =
    let outcome = called 0 bench.board (sizes bench.board) (load block offset len) in
    ends number bench.allowance (shown outcome outcome.gives) outcome
turned_by bench number value (Begin byte) =
    ends number None [] (called (words_of bench.allowance) bench.board (sizes bench.board) (begin (replicate 64 byte)))
turned_by bench number value (Step n) =
    ends number None [] (called (words_of bench.allowance) bench.board (sizes bench.board) (step n))
turned_by bench number value (Allow p) = record {
  prints = line (decimal number ∷ (decimal 0 ∷ (decimal 0 ∷ [])));
  goes = true;
  bench = record { board = bench.board; allowance = Some p };
}
turned_by bench number value Recover =
    let outcome = called 0 bench.board (sizes bench.board) (recover (sizes bench.board)) in
    ends number bench.allowance (shown_register outcome) outcome
turned_by bench number value Bad = record { prints = line (bad ∷ (decimal number ∷ [])); goes = false; bench = bench }

unfoldable pub turned : Bench → ℕ → ℕ → List ℕ → Turned
turned bench number tag value = turned_by bench number value (asked tag value)

-- ---- a whole trace of whole fields

unfoldable pub printed : Bench → ℕ → List Field → List ℕ
printed bench number [] = []
printed bench number (f ∷ fields) =
    let t = turned bench number f.tag f.value in
    t.prints ++ cond t.goes (printed t.bench (number + 1) fields) []

-- ---- what a turn of the program promises

abbrev pub bench_of : D.Bench → Bench
bench_of bench = record { board = board_in bench.arrays bench.controller; allowance = bench.allowance }

-- the length of a line, whether the run goes on or breaks off
abbrev pub length_of : ControlFlow ℕ ℕ → ℕ
length_of (Continue n) = n
length_of (Break n) = n

abbrev pub goes_on : ControlFlow ℕ ℕ → Bool
goes_on (Continue n) = true
goes_on (Break n) = false

-- the line stands at the start of the slice lent for it, whose rest is as it was; the arrays and the record are those of the bench after
pub record Turns (t : Turned) (slice slice' : List ℕ) (bench' : D.Bench) (r : ControlFlow ℕ ℕ) : Type 0 where
  pub puts : Puts t.prints 0 slice slice' (length_of r)
  pub room : length_of r ≤ 640
  pub goes : goes_on r ≡ t.goes
  pub bench : bench_of bench' ≡ t.bench
