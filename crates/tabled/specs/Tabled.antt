-- A table of bytes: its words, and the board's calls on them (document 02, No. 4).
use Rattle.std.specs.Prelude.{◌≡◌, Bool, ◌||◌, cond, List, ℕ, ◌*◌, ◌/◌, ◌≤◌, eqb, length}
use Rattle.words.specs.Words.{numbers, number_bytes}
use Rattle.rules.specs.declared.Number.{Number}
use Rattle.rules.specs.declared.Answer.{Answer}
use Rattle.rules.specs.declared.Recovery.{Recovery}
use Rattle.rules.specs.Board.{table_of}
use Rattle.rules.specs.Numbers.{number_of}
use Rattle.rules.specs.Power.{Outcome, outcome_of}
use Rattle.rules.specs.Starts.{Recovered}

-- little-endian words, eight bytes each
unfoldable pub table_words : List ℕ → List ℕ
unfolding numbers
table_words bytes = numbers bytes 0 (length bytes / 8)

-- whole words, and no more than the bounds of the sizes allow
abbrev pub Whole : List ℕ → Type 0
Whole bytes = (length bytes ≡ 8 * (length bytes / 8)) × (length bytes ≤ 4096)

-- a refused call changes nothing; DONE and CUT change
unfoldable pub changes : Number → Bool
unfolding number_of
changes n = eqb (number_of n) 0 || eqb (number_of n) 20

-- a call that had the outcome o on a table of these bytes
pub record Tabled (o : Outcome) (r : Answer) (memory cache table_bytes tableBytes' : List ℕ) : Type 0 where
  pub outcome : o ≡ outcome_of r memory cache (table_of o.board)
  pub table : tableBytes' ≡ cond (changes r.number) (number_bytes (table_of o.board)) table_bytes

pub record TabledRecovery (o : Outcome) (r : Recovery) (memory cache table_bytes tableBytes' : List ℕ) : Type 0 where
  pub outcome : Recovered o r memory cache (table_of o.board)
  pub table : tableBytes' ≡ cond (changes r.answer.number) (number_bytes (table_of o.board)) table_bytes
