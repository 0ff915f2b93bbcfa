-- The record that a cut format leaves.
use Rattle.rules.specs.declared.Geometry.{Geometry}
use Rattle.rules.specs.declared.Phase.TheVariants.{Off}
use Rattle.rules.specs.declared.Controller.{Controller}

-- the sizes are the new ones, the phase is Off, the rest as at entry
abbrev pub cut_short_of : Controller → Geometry → Controller
cut_short_of controller g = record { geometry = g; registers = controller.registers; finished = controller.finished; phase = Off }
