-- A board of which a call has the lent lengths, the table, the sizes and the phase.
use Rattle.std.specs.Prelude.{◌≡◌, ℕ, List, length}
use Rattle.rules.specs.declared.Geometry.{Geometry}
use Rattle.rules.specs.declared.Phase.{Phase}
use Rattle.rules.specs.Board.{Board, sizes, phase_of, cache_of, table_of}

pub record Lengths (board : Board) (m c t : ℕ) : Type 0 where
  pub memory : length board.memory ≡ m
  pub cache : length (cache_of board) ≡ c
  pub table : length (table_of board) ≡ t

pub record Lent (board : Board) (m c : ℕ) (t : List ℕ) (g : Geometry) (now : Phase) : Type 0 where
  pub memory : length board.memory ≡ m
  pub cache : length (cache_of board) ≡ c
  pub table : table_of board ≡ t
  pub geometry : sizes board ≡ g
  pub phase : phase_of board ≡ now
