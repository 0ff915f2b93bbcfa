-- What a sweep's loops ask of a table word and of the board.
use Rattle.std.specs.Prelude.{◌≡◌, Bool, true, List, ℕ, ◌*◌, ◌%◌, ◌≤◌, eqb, length}
use Rattle.rules.specs.declared.Geometry.{Geometry}
use Rattle.rules.specs.declared.Phase.TheVariants.{Running}
use Rattle.rules.specs.Geometry.{memory_words}
use Rattle.rules.specs.TableWords.{every}
use Rattle.rules.specs.Numbers.{well_formed, allows}

-- a word has the code of a clean entry
unfoldable pub is_clean : ℕ → Bool
is_clean word = eqb (word % 256) 1

-- sizes and lengths that fit, and a well formed table
pub record Sweepable (g : Geometry) (m t : List ℕ) : Type 0 where
  pub blocks : g.blocks ≤ 4096
  pub slots : g.slots ≤ 512
  pub memory : length m ≡ 8 * memory_words g
  pub table : length t ≡ g.slots
  pub formed : every (well_formed (allows Running) g) t ≡ true
