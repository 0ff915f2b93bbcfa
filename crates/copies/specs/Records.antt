-- The controller record as begin leaves it, written out.
use Rattle.std.specs.Prelude.{List, ℕ}
use Rattle.rules.specs.declared.Phase.TheVariants.{Writing}
use Rattle.rules.specs.declared.Controller.{Controller}

-- the registers are kept, the phase is Writing with count 0
abbrev pub begun_record : Controller → List ℕ → Controller
begun_record controller registers = record {
  geometry = controller.geometry;
  registers = registers;
  finished = controller.finished;
  phase = Writing 0;
}
