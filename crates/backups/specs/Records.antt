-- The record of a board that starts from a backup, and what going back to a backup leaves.
use Rattle.std.specs.Prelude.{◌≡◌, cond, List, ℕ, Option}
use Rattle.words.specs.Words.{words, numbers}
use Rattle.rules.specs.declared.Geometry.{Geometry}
use Rattle.rules.specs.declared.Backup.{Backup}
use Rattle.rules.specs.declared.Phase.TheVariants.{Running}
use Rattle.rules.specs.declared.Controller.{Controller}
use Rattle.rules.specs.declared.Number.TheVariants as No
use Rattle.rules.specs.declared.Number.{Number}
use Rattle.rules.specs.declared.Registers.{Registers}
use Rattle.rules.specs.declared.Registers.TheVariants.{Absent}
use Rattle.rules.specs.declared.Recovery.{Recovery}
use Rattle.rules.specs.Starts.{sound, recorded, registers_of}
use Rattle.checks.specs.Answers.{answer_of, refused_of}

abbrev pub started_of : Geometry → Backup → List ℕ → Controller
started_of g backup registers = record { geometry = g; registers = registers; finished = backup; phase = Running }

-- where there are none, the record's are 0
abbrev pub opened_of : Geometry → Backup → Option (List ℕ) → Controller
opened_of g backup registers = started_of g backup (recorded registers)

abbrev pub opened_recovery : Geometry → Backup → Registers → List ℕ → Recovery
opened_recovery g backup registers part = record {
  answer = answer_of No.Done 0 (opened_of g backup (registers_of registers (words part 0 8)));
  registers = registers;
}

abbrev pub refused_recovery : Number → Controller → Recovery
refused_recovery number controller = record { answer = refused_of number controller; registers = Absent }

-- going back to the backup that starts the part: its table and its record where the table is sound, and else a refusal
pub record Opens (g : Geometry) (backup : Backup) (registers : Registers) (controller : Controller) (part table table' : List ℕ) (r : Recovery) : Type 0 where
  pub table_is : table' ≡ cond (sound g (numbers part 8 g.slots)) (numbers part 8 g.slots) table
  pub recovery_is : r
      ≡ cond (sound g (numbers part 8 g.slots)) (opened_recovery g backup registers part) (refused_recovery No.Backup controller)
