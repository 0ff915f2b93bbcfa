-- How a store ends: the answer and the table, by the words of its list and the allowance.
use Rattle.std.specs.Prelude.{◌≡◌, List, ℕ, ◌≤◌, ◌<◌}
use Rattle.rules.specs.declared.Controller.{Controller}
use Rattle.rules.specs.declared.Answer.{Answer}
use Rattle.rules.specs.declared.Number.TheVariants as No
use Rattle.checks.specs.Answers.{off_of, answer_of}

pub data Ended (p words : ℕ) (controller : Controller) (after before : List ℕ) (answer : Answer) (table : List ℕ) : Type 0 where
  cut : p < words → answer ≡ answer_of No.Cut p (off_of controller) → table ≡ before → Ended p words controller after before answer table
  whole : words ≤ p → answer ≡ answer_of No.Done words controller → table ≡ after → Ended p words controller after before answer table
