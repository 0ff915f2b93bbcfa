-- The board as a whole: the nonvolatile memory, and what a loss of supply takes away (document 01, What the board is).
use Rattle.std.specs.Prelude.{List, ℕ}
use Rattle.rules.specs.declared.Geometry.{Geometry}
use Rattle.rules.specs.declared.Phase.{Phase}
use Rattle.rules.specs.declared.Controller.{Controller}

-- CACHE, the table and the controller record
pub record Volatile : Type 0 where
  pub cache : List ℕ
  pub table : List ℕ
  pub controller : Controller

pub record Board : Type 0 where
  pub memory : List ℕ
  pub volatile : Volatile

abbrev pub sizes : Board → Geometry
sizes board = board.volatile.controller.geometry

abbrev pub phase_of : Board → Phase
phase_of board = board.volatile.controller.phase

abbrev pub cache_of : Board → List ℕ
cache_of board = board.volatile.cache

abbrev pub table_of : Board → List ℕ
table_of board = board.volatile.table

-- the board that a call is lent: the memory, CACHE, the table and the record
abbrev pub board_of : List ℕ → List ℕ → List ℕ → Controller → Board
board_of memory cache table controller = record { memory = memory; volatile = record { cache = cache; table = table; controller = controller } }
