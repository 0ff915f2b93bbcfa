-- What the contracts of the new form's calls leave open: nothing.
use mathlib.Core.Path.{◌≡◌}
use mathlib.Core.List.{List}
use Prim.Native.Nat.{ℕ}
use Rattle.rules.specs.declared.Geometry.{Geometry}
use Rattle.rules.specs.declared.Answer.{Answer}
use Rattle.rules.specs.declared.Recovery.{Recovery}
use Rattle.rules.specs.Board.{Board}
use Rattle.rules.specs.Power.{outcome_of}
use Rattle.rules.specs.Starts.{Recovered}
use Rattle.rules.proofs.Answers.{SameOutcome, one_outcome}
use Rattle.starts.proofs.Unique.{SameRecovery, one_recovery}
use Rattle.forms.specs.Calls.{Call, recover, call}

-- format and both moves
pub call_one : (p : ℕ) (board : Board) (c : Call) {answer answer' : Answer} {memory memory' cache cache' table table' : List ℕ}
    → call p board c ≡ outcome_of answer memory cache table
    → call p board c ≡ outcome_of answer' memory' cache' table'
    → SameOutcome answer answer' memory memory' cache cache' table table'
call_one p board c = one_outcome

pub recover_one : (board : Board) (g : Geometry) {r r' : Recovery} {memory memory' cache cache' table table' : List ℕ}
    → ((p : ℕ) → Recovered (call p board (recover g)) r memory cache table)
    → ((p : ℕ) → Recovered (call p board (recover g)) r' memory' cache' table')
    → SameRecovery r r' memory memory' cache cache' table table'
recover_one board g a b = one_recovery (a 0) (b 0)
