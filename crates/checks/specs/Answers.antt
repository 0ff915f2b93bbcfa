-- The answers that a call gives, and the record after a loss of supply, written out.
use Rattle.std.specs.Prelude.{ℕ, cond, nat_le}
use Rattle.rules.specs.declared.Phase.TheVariants.{Off}
use Rattle.rules.specs.declared.Controller.{Controller}
use Rattle.rules.specs.declared.Number.{Number}
use Rattle.rules.specs.declared.Number.TheVariants as No
use Rattle.rules.specs.declared.Answer.{Answer}

-- the phase is Off, the rest as at entry
abbrev pub off_of : Controller → Controller
off_of controller = record {
  geometry = controller.geometry;
  registers = controller.registers;
  finished = controller.finished;
  phase = Off;
}

abbrev pub answer_of : Number → ℕ → Controller → Answer
answer_of number words controller = record { number = number; words = words; controller = controller }

abbrev pub refused_of : Number → Controller → Answer
refused_of number controller = answer_of number 0 controller

-- the end of a list of so many words that leaves the record as it was: only a cut changes it, to Off
unfoldable pub ended_of : ℕ → ℕ → Controller → Answer
ended_of p words controller = cond (nat_le words p) (answer_of No.Done words controller) (answer_of No.Cut p (off_of controller))
