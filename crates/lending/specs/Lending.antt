-- The part of the bench's own arrays that a board of some sizes is lent, and a call on it (document 01, The bench trace).
use Rattle.std.specs.Prelude.{Bool, ◌&&◌, cond, ◌++◌, ℕ, ◌*◌, leb, take, drop}
use Rattle.rules.specs.declared.Geometry.{Geometry}
use Rattle.rules.specs.declared.Controller.{Controller}
use Rattle.rules.specs.declared.Answer.{Answer}
use Rattle.rules.specs.Geometry.{memory_words}
use Rattle.rules.specs.Board.{Board, cache_of, table_of, board_of}
use Rattle.rules.specs.Power.{Outcome, outcome_of}
use Rattle.rules.specs.Calls.{Call, call}
use Rattle.lending.specs.declared.Arrays.{Arrays}

-- the board in the arrays with a record, and a call's outcome in them
abbrev pub board_in : Arrays → Controller → Board
board_in arrays controller = board_of arrays.memory arrays.cache arrays.table controller

abbrev pub outcome_in : Answer → Arrays → Outcome
outcome_in answer arrays = outcome_of answer arrays.memory arrays.cache arrays.table

-- N up to 64 and B up to 16
unfoldable pub fits : Geometry → Bool
fits g = leb g.blocks 64 && leb g.slots 16

-- Larger sizes are lent nothing, so that they get BUFFER (or GEOMETRY) from the board. A test of the lengths alone would not do:
-- N = 74, B = 8 has the length of N = 64, B = 16.
unfoldable pub lent_memory : Geometry → ℕ
lent_memory g = cond (fits g) (8 * memory_words g) 0

unfoldable pub lent_cache : Geometry → ℕ
lent_cache g = cond (fits g) (64 * g.slots) 0

unfoldable pub lent_table : Geometry → ℕ
lent_table g = cond (fits g) g.slots 0

-- the board that a call with sizes g is lent: the first bytes of the memory, of CACHE and the first words of the table
abbrev pub lent : Geometry → Board → Board
lent g board =
    board_of (take (lent_memory g) board.memory) (take (lent_cache g) (cache_of board)) (take (lent_table g) (table_of board))
    board.volatile.controller

-- the outcome for the arrays: the lent part as the call left it, the rest as it was
unfoldable pub restored : Geometry → Board → Outcome → Outcome
restored g board outcome = record {
  number = outcome.number;
  words = outcome.words;
  gives = outcome.gives;
  board = board_of (outcome.board.memory ++ drop (lent_memory g) board.memory)
      (cache_of outcome.board ++ drop (lent_cache g) (cache_of board))
      (table_of outcome.board ++ drop (lent_table g) (table_of board))
      outcome.board.volatile.controller;
}

-- a call with sizes g on the bench's arrays
unfoldable pub called : ℕ → Board → Geometry → Call → Outcome
called p board g c = restored g board (call p (lent g board) c)
