-- A set of blocks as bits, and a table word taken before the words whose blocks it holds.
use Rattle.std.specs.Prelude.{◌≡◌, Bool, true, not, ◌&&◌, List, ◌∷◌, ℕ, ◌/◌, ◌%◌, ◌^◌, ◌<◌, eqb, get_or}
use Rattle.rules.specs.declared.Geometry.{Geometry}
use Rattle.rules.specs.TableWords.{says, lookup, is_nothing, new_to}
use Rattle.rules.specs.Numbers.{well_formed}
use Rattle.rules.specs.Starts.{only_clean}

-- the block is in the set
unfoldable pub has : List ℕ → ℕ → Bool
has set block = eqb (get_or set (block / 64) 0 / 2 ^ (block % 64) % 2) 1

-- the set holds the blocks that the table words name
pub record Marks (set table : List ℕ) : Type 0 where
  pub marks : (block : ℕ) → block < 4096 → has set block ≡ not (is_nothing (lookup block table))

-- whether the word may stand before the others; if so, the set holds its block too
pub record Took (g : Geometry) (word : ℕ) (after set : List ℕ) (r : Bool) : Type 0 where
  pub answer : r ≡ well_formed only_clean g word && new_to after (says word)
  pub then : r ≡ true → Marks set (word ∷ after)
