-- Where a block shows, load and peek (document 01, Where a block shows).
use Rattle.std.specs.Prelude.{false, List, [], ◌∷◌, ◌++◌, ℕ, take, drop, Option, Some, None}
use Rattle.words.specs.Words.{block_at}
use Rattle.rules.specs.declared.Geometry.{Geometry}
use Rattle.rules.specs.declared.State.{State}
use Rattle.rules.specs.declared.State.TheVariants.{Clean, Dirty, Hidden, PreHidden, PreDirty}
use Rattle.rules.specs.declared.Entry.{Entry}
use Rattle.rules.specs.declared.Place.{Place}
use Rattle.rules.specs.declared.Place.TheVariants.{Home, Checkpoint, Cache}
use Rattle.rules.specs.declared.Number.{Number}
use Rattle.rules.specs.declared.Number.TheVariants as No
use Rattle.rules.specs.Geometry.{home_block, checkpoint_block}
use Rattle.rules.specs.TableWords.{lookup}
use Rattle.rules.specs.Board.{Board, sizes, cache_of, table_of}
use Rattle.rules.specs.Numbers.{◌⇒◌, first_of, common_checks, no_block, out_of_range}
use Rattle.rules.specs.Power.{Plan, carry, guard}

-- 64 bytes of one of the two lent slices: block q of the nonvolatile memory, or block q of CACHE
pub data Spot : Type 0 where
  in_memory : ℕ → Spot
  in_cache : ℕ → Spot

-- the 64 bytes of a place, for a block and its slot
unfoldable pub spot_in : Geometry → ℕ → ℕ → Place → Spot
spot_in g block slot Home = in_memory (home_block g block)
spot_in g block slot Checkpoint = in_memory (checkpoint_block g slot)
spot_in g block slot Cache = in_cache slot

-- the table 'Where a block shows'
abbrev pub shows : State → Place
shows Hidden = Home
shows Clean = Checkpoint
shows Dirty = Checkpoint
shows PreHidden = Cache
shows PreDirty = Cache

unfoldable pub spot_of : Geometry → ℕ → Option Entry → Spot
unfolding spot_in
spot_of g block None = in_memory (home_block g block)
spot_of g block (Some entry) = spot_in g block entry.slot (shows entry.state)

unfoldable pub block_in : List ℕ → List ℕ → Spot → List ℕ
unfolding block_at
block_in memory cache (in_memory q) = block_at memory q
block_in memory cache (in_cache q) = block_at cache q

unfoldable pub visible : Geometry → List ℕ → List ℕ → List ℕ → ℕ → List ℕ
unfolding spot_of block_in lookup
visible g memory cache table block = block_in memory cache (spot_of g block (lookup block table))

-- the visible block of a board
unfoldable pub seen : Board → ℕ → List ℕ
unfolding visible
seen board block = visible (sizes board) board.memory (cache_of board) (table_of board) block

-- ---- load: a range of one block

unfoldable pub load_number : Board → ℕ → ℕ → ℕ → Number
unfolding first_of common_checks out_of_range
load_number board block offset len = first_of (common_checks board false ++ (out_of_range board block offset len ⇒ No.Range) ∷ [])

unfoldable pub load_plan : Board → ℕ → ℕ → ℕ → Plan
unfolding guard load_number seen
load_plan board block offset len = guard (load_number board block offset len) (carry [] board.volatile (take len (drop offset (seen board block))))

-- ---- peek: the whole visible block

unfoldable pub peek_number : Board → ℕ → Number
unfolding first_of common_checks no_block
peek_number board block = first_of (common_checks board false ++ (no_block board block ⇒ No.Range) ∷ [])

unfoldable pub peek_plan : Board → ℕ → Plan
unfolding guard peek_number seen
peek_plan board block = guard (peek_number board block) (carry [] board.volatile (seen board block))
