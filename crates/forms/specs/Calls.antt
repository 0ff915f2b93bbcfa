-- The calls of the new stored form, and the one outcome of each (document 02, No. 6).
use Rattle.std.specs.Prelude.{Bool, true, false, not, ◌&&◌, List, [], ◌∷◌, ◌++◌, ℕ, ◌*◌, eqb, length}
use Rattle.words.specs.Words.{Store}
use Rattle.rules.specs.declared.Geometry.{Geometry}
use Rattle.rules.specs.declared.Number.{Number}
use Rattle.rules.specs.declared.Number.TheVariants as No
use Rattle.rules.specs.Board.{Board, cache_of, table_of}
use Rattle.rules.specs.Numbers.{Check, ◌⇒◌, first_of, outside}
use Rattle.rules.specs.Power.{Plan, carry, guard, Outcome, settle}
use Rattle.rules.specs.Starts.{format_list, formatted_side, finished_in, recovery_checks, recover_from}
use Rattle.rules.specs.Calls as Old
use Rattle.forms.specs.declared.Header.{Header}
use Rattle.forms.specs.declared.Header.TheVariants.{Missing, Fits, Other}
use Rattle.forms.specs.Stored.{long_words, header_of, without, last_two, old_board, first_zeroed, header_to, zeros_to}

-- ---- the numbers: GEOMETRY, BUFFER, 13 NO HEADER, 14 WRONG BOARD, NO CHECKPOINT, BACKUP

-- BUFFER: the memory is two words longer
unfoldable pub long_inexact : Geometry → Board → Bool
long_inexact g board =
    not (eqb (length board.memory) (8 * long_words g) && eqb (length (cache_of board)) (64 * g.slots) && eqb (length (table_of board)) g.slots)

abbrev pub sizes_checks : Board → Geometry → List Check
sizes_checks board g = (outside g ⇒ No.Geometry) ∷ (long_inexact g board ⇒ No.Buffer) ∷ []

-- 13: the first word is zero
unfoldable pub is_missing : Header → Bool
is_missing Missing = true
is_missing Fits = false
is_missing Other = false

-- 14: it isn't, and the header is unlike the sizes given
unfoldable pub is_other : Header → Bool
is_other Missing = false
is_other Fits = false
is_other Other = true

-- move up has no NO HEADER; `needed` tells whether a call has
unfoldable pub header_checks : Bool → Header → List Check
unfolding is_missing is_other
header_checks true header = (is_missing header ⇒ No.NoHeader) ∷ (is_other header ⇒ No.WrongBoard) ∷ []
header_checks false header = (is_other header ⇒ No.WrongBoard) ∷ []

-- the number of the new recovery and of both moves: all check that the board recovers, by the memory without the two words
unfoldable pub headed_number : Bool → Board → Geometry → Number
unfolding first_of long_inexact header_checks header_of finished_in without
headed_number needed board g =
    first_of
    (sizes_checks board g
    ++ (header_checks needed (header_of g board.memory) ++ recovery_checks (old_board board) g (finished_in g (without board.memory))))

-- ---- the calls

-- format first zeroes the first header word and ends with the second, then the first
unfoldable pub long_format_list : Geometry → ℕ → List Store
unfolding first_zeroed format_list header_to
long_format_list g fill = first_zeroed g ++ (format_list g fill ++ header_to g)

unfoldable pub format_plan : Board → Geometry → ℕ → Plan
unfolding guard first_of long_inexact long_format_list
format_plan board g fill = guard (first_of (sizes_checks board g)) (carry (long_format_list g fill) (formatted_side board g) [])

-- behind its checks a recovery is the old form's
unfoldable pub recover_plan : Board → Geometry → Plan
unfolding guard headed_number recover_from finished_in without
recover_plan board g = guard (headed_number true board g) (recover_from (old_board board) g (finished_in g (without board.memory)))

-- moving up a board whose header already fits stores 0 words
unfoldable pub up_list : Geometry → Header → List Store
unfolding header_to
up_list g Missing = header_to g
up_list g Fits = []
up_list g Other = []

-- only a cut changes the record
unfoldable pub up_plan : Board → Geometry → Plan
unfolding guard headed_number up_list header_of
up_plan board g = guard (headed_number false board g) (carry (up_list g (header_of g board.memory)) board.volatile [])

unfoldable pub back_plan : Board → Geometry → Plan
unfolding guard headed_number zeros_to
back_plan board g = guard (headed_number true board g) (carry (zeros_to g) board.volatile [])

-- ---- all calls on a board of the longer memory

pub data Call : Type 0 where
  -- a call of the old form, which takes the memory without the two words
  old : Old.Call → Call
  -- sizes, fill byte
  format : Geometry → ℕ → Call
  -- sizes
  recover : Geometry → Call
  up : Geometry → Call
  back : Geometry → Call

-- what an old call leaves, and the two words beside it
abbrev pub beside : List ℕ → Outcome → Outcome
beside two outcome = record {
  number = outcome.number;
  words = outcome.words;
  gives = outcome.gives;
  board = record { memory = outcome.board.memory ++ two; volatile = outcome.board.volatile };
}

-- a call on a board, with an allowance of p words
unfoldable pub call : ℕ → Board → Call → Outcome
unfolding settle format_plan recover_plan up_plan back_plan Old.call without last_two
call p board (old c) = beside (last_two board.memory) (Old.call p (old_board board) c)
call p board (format g fill) = settle p board (format_plan board g fill)
call p board (recover g) = settle p board (recover_plan board g)
call p board (up g) = settle p board (up_plan board g)
call p board (back g) = settle p board (back_plan board g)
