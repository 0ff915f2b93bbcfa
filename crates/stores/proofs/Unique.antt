-- What the contracts of store and of its number leave open: nothing.
use mathlib.Core.Path.{◌≡◌, sym, ◌∙◌}
use mathlib.Core.List.{List}
use Prim.Native.Nat.{ℕ}
use Rattle.rules.specs.declared.Number.{Number}
use Rattle.rules.specs.declared.Answer.{Answer}
use Rattle.rules.specs.Board.{Board}
use Rattle.rules.specs.Power.{outcome_of}
use Rattle.rules.specs.Stores.{store_number}
use Rattle.rules.specs.Calls.{store, call}
use Rattle.rules.proofs.Answers.{SameOutcome, one_outcome}

pub store_one : (p : ℕ) (board : Board) (block offset : ℕ) (bytes : List ℕ) {answer answer' : Answer} {memory memory' cache cache' table table' : List ℕ}
    → call p board (store block offset bytes) ≡ outcome_of answer memory cache table
    → call p board (store block offset bytes) ≡ outcome_of answer' memory' cache' table'
    → SameOutcome answer answer' memory memory' cache cache' table table'
store_one p board block offset bytes = one_outcome

pub number_one : (board : Board) (block offset : ℕ) (bytes : List ℕ) {n n' : Number}
    → n ≡ store_number board block offset bytes → n' ≡ store_number board block offset bytes → n ≡ n'
number_one board block offset bytes a b = a ∙ sym b
