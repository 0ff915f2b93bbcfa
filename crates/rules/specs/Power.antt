-- What a call plans, and what the supply makes of a plan (document 01, Power).
use Rattle.std.specs.Prelude.{cond, List, [], ℕ, eqb, leb, length, take}
use Rattle.words.specs.Words.{Store, lay}
use Rattle.rules.specs.declared.Phase.TheVariants.{Off}
use Rattle.rules.specs.declared.Number.{Number}
use Rattle.rules.specs.declared.Number.TheVariants as No
use Rattle.rules.specs.declared.Answer.{Answer}
use Rattle.rules.specs.Board.{Board, Volatile, board_of}
use Rattle.rules.specs.Numbers.{number_of}

pub data Plan : Type 0 where
  refuse : Number → Plan
  -- the fixed list of word stores, the volatile side after them, and the bytes handed out
  carry : List Store → Volatile → List ℕ → Plan

-- a plan behind its checks: refused, or carried out
unfoldable pub guard : Number → Plan → Plan
unfolding number_of
guard n plan = cond (eqb (number_of n) 0) plan (refuse n)

-- all that a call leaves: the number, the words stored, the bytes handed out, and every byte of the board
pub record Outcome : Type 0 where
  pub number : Number
  pub words : ℕ
  pub gives : List ℕ
  pub board : Board

-- the words are all stored
abbrev pub whole : Board → List Store → Volatile → List ℕ → Outcome
whole board stores after gives = record {
  number = No.Done;
  words = length stores;
  gives = gives;
  board = record { memory = lay stores board.memory; volatile = after };
}

-- CUT: exactly the first p words are stored, the phase is Off, and the rest is as at entry.
-- The sizes are those of the volatile side after: the same ones, but for a format, which records the new.
abbrev pub switched_off : Board → Volatile → Volatile
switched_off board after = record {
  cache = board.volatile.cache;
  table = board.volatile.table;
  controller = record {
    geometry = after.controller.geometry;
    registers = board.volatile.controller.registers;
    finished = board.volatile.controller.finished;
    phase = Off;
  };
}

abbrev pub cut : ℕ → Board → List Store → Volatile → Outcome
cut p board stores after = record {
  number = No.Cut;
  words = p;
  gives = [];
  board = record { memory = lay (take p stores) board.memory; volatile = switched_off board after };
}

-- the one outcome of a plan under an allowance of p words
unfoldable pub settle : ℕ → Board → Plan → Outcome
unfolding lay
settle p board (refuse n) = record { number = n; words = 0; gives = []; board = board }
settle p board (carry stores after gives) = cond (leb (length stores) p) (whole board stores after gives) (cut p board stores after)

-- the words of its list that a call stores
unfoldable pub stored : ℕ → Plan → List Store
stored p (refuse n) = []
stored p (carry stores after gives) = take p stores

-- what a call answers and leaves in the lent memory, as an outcome
abbrev pub outcome_of : Answer → List ℕ → List ℕ → List ℕ → Outcome
outcome_of answer memory cache table = record {
  number = answer.number;
  words = answer.words;
  gives = [];
  board = board_of memory cache table answer.controller;
}
