-- What the contracts of begin and step leave open: nothing.
use mathlib.Core.Path.{◌≡◌}
use mathlib.Core.List.{List}
use Prim.Native.Nat.{ℕ}
use Rattle.rules.specs.declared.Answer.{Answer}
use Rattle.rules.specs.Board.{Board}
use Rattle.rules.specs.Power.{outcome_of}
use Rattle.rules.specs.Calls.{begin, step, call}
use Rattle.rules.proofs.Answers.{SameOutcome, one_outcome}

pub begin_one : (p : ℕ) (board : Board) (registers : List ℕ) {answer answer' : Answer} {memory memory' cache cache' table table' : List ℕ}
    → call p board (begin registers) ≡ outcome_of answer memory cache table
    → call p board (begin registers) ≡ outcome_of answer' memory' cache' table'
    → SameOutcome answer answer' memory memory' cache cache' table table'
begin_one p board registers = one_outcome

pub step_one : (p : ℕ) (board : Board) (most : ℕ) {answer answer' : Answer} {memory memory' cache cache' table table' : List ℕ}
    → call p board (step most) ≡ outcome_of answer memory cache table
    → call p board (step most) ≡ outcome_of answer' memory' cache' table'
    → SameOutcome answer answer' memory memory' cache cache' table table'
step_one p board most = one_outcome
