-- The controller record as a step leaves it, written out.
use Rattle.std.specs.Prelude.{cond, ℕ, ◌+◌, eqb}
use Rattle.rules.specs.declared.Phase.TheVariants.{Running, Writing}
use Rattle.rules.specs.declared.Controller.{Controller}
use Rattle.rules.specs.Checkpoints.{other}

-- the count of words stored; with the mark stored the phase is Running and the finished backup has changed
abbrev pub stepped_record : Controller → ℕ → Controller
stepped_record controller count = record {
  geometry = controller.geometry;
  registers = controller.registers;
  finished = cond (eqb count (controller.geometry.slots + 9)) (other controller.finished) controller.finished;
  phase = cond (eqb count (controller.geometry.slots + 9)) Running (Writing count);
}
