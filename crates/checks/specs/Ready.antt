-- The sizes and the lent lengths of a board, as a call has them once its checks 1 and 2 are passed.
use Rattle.std.specs.Prelude.{◌≡◌, ℕ, ◌*◌, ◌≤◌, List, length}
use Rattle.rules.specs.declared.Geometry.{Geometry}
use Rattle.rules.specs.Geometry.{memory_words}

pub record Ready (g : Geometry) (m c t : List ℕ) : Type 0 where
  pub some_block : 1 ≤ g.blocks
  pub blocks : g.blocks ≤ 4096
  pub some_slot : 1 ≤ g.slots
  pub slots : g.slots ≤ 512
  pub memory : length m ≡ 8 * memory_words g
  pub cache : length c ≡ 64 * g.slots
  pub table : length t ≡ g.slots
