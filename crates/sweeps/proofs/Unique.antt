-- What the contract of sweep leaves open: nothing.
use mathlib.Core.Path.{◌≡◌}
use mathlib.Core.List.{List}
use Prim.Native.Nat.{ℕ}
use Rattle.rules.specs.declared.Answer.{Answer}
use Rattle.rules.specs.Board.{Board}
use Rattle.rules.specs.Power.{outcome_of}
use Rattle.rules.specs.Calls.{sweep, call}
use Rattle.rules.proofs.Answers.{SameOutcome, one_outcome}

pub sweep_one : (p : ℕ) (board : Board) (limit : ℕ) {answer answer' : Answer} {memory memory' cache cache' table table' : List ℕ}
    → call p board (sweep limit) ≡ outcome_of answer memory cache table
    → call p board (sweep limit) ≡ outcome_of answer' memory' cache' table'
    → SameOutcome answer answer' memory memory' cache cache' table table'
sweep_one p board limit = one_outcome
