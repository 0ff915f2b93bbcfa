-- What the contracts of format and recovery leave open: nothing.
use mathlib.Core.Path.{◌≡◌, refl, sym, ap, ◌∙◌}
use mathlib.Core.List.{List}
use Prim.Native.Nat.{ℕ}
use Rattle.rules.specs.declared.Geometry.{Geometry}
use Rattle.rules.specs.declared.Answer.{Answer}
use Rattle.rules.specs.declared.Controller.{Controller}
use Rattle.rules.specs.declared.Registers.{Registers}
use Rattle.rules.specs.declared.Registers.TheVariants.{Saved, Absent}
use Rattle.rules.specs.declared.Recovery.{Recovery}
use Rattle.rules.specs.Board.{Board, cache_of, table_of}
use Rattle.rules.specs.Power.{Outcome, outcome_of}
use Rattle.rules.specs.Starts.{registers_of, Recovered}
use Rattle.rules.specs.Calls.{format, recover, call}
use Rattle.rules.proofs.Clashes.{none_some}
use Rattle.rules.proofs.Answers.{SameOutcome, one_outcome}

pub format_one : (p : ℕ) (board : Board) (g : Geometry) (fill : ℕ) {answer answer' : Answer} {memory memory' cache cache' table table' : List ℕ}
    → call p board (format g fill) ≡ outcome_of answer memory cache table
    → call p board (format g fill) ≡ outcome_of answer' memory' cache' table'
    → SameOutcome answer answer' memory memory' cache cache' table table'
format_one p board g fill = one_outcome

-- two recoveries, with all that they leave in the lent memory
pub record SameRecovery (r r' : Recovery) (memory memory' cache cache' table table' : List ℕ) : Type 0 where
  pub answers : r.answer ≡ r'.answer
  pub registers : r.registers ≡ r'.registers
  pub memories : memory ≡ memory'
  pub caches : cache ≡ cache'
  pub tables : table ≡ table'

-- with the same bytes in the record, a value belongs to one answer
registers_one : (x y : Registers) (bytes : List ℕ) → registers_of x bytes ≡ registers_of y bytes → x ≡ y
registers_one Saved Saved bytes e = refl
registers_one Saved Absent bytes e = absurd (none_some bytes (sym e))
registers_one Absent Saved bytes e = absurd (none_some bytes e)
registers_one Absent Absent bytes e = refl

-- a contract that gives a recovery's outcome leaves one
pub one_recovery : {outcome : Outcome} {r r' : Recovery} {memory memory' cache cache' table table' : List ℕ}
    → Recovered outcome r memory cache table
    → Recovered outcome r' memory' cache' table'
    → SameRecovery r r' memory memory' cache cache' table table'
one_recovery {outcome} {r} {r'} a b =
    let boards = a.board ∙ sym b.board in
    let number : r.answer.number ≡ r'.answer.number = a.number ∙ sym b.number in
    let words : r.answer.words ≡ r'.answer.words = a.words ∙ sym b.words in
    let controller : r.answer.controller ≡ r'.answer.controller = ap (λ (z : Board). z.volatile.controller) boards in
    record {
      answers = λ i. record { number = number i; words = words i; controller = controller i };
      registers =
          registers_one r.registers r'.registers r.answer.controller.registers
          (a.registers ∙ sym b.registers ∙ ap (λ (z : Controller). registers_of r'.registers z.registers) (sym controller));
      memories = ap (λ (z : Board). z.memory) boards;
      caches = ap (λ (z : Board). cache_of z) boards;
      tables = ap (λ (z : Board). table_of z) boards;
    }

pub recover_one : (board : Board) (g : Geometry) {r r' : Recovery} {memory memory' cache cache' table table' : List ℕ}
    → ((p : ℕ) → Recovered (call p board (recover g)) r memory cache table)
    → ((p : ℕ) → Recovered (call p board (recover g)) r' memory' cache' table')
    → SameRecovery r r' memory memory' cache cache' table table'
recover_one board g a b = one_recovery (a 0) (b 0)
