-- The code's places, as those of the rules.
use Rattle.std.specs.Prelude.{List, ℕ, ◌+◌, ◌*◌, ◌≤◌, length}
use Rattle.rules.specs.Loads as L
use Rattle.placing.specs.declared.Spot.{Spot}
use Rattle.placing.specs.declared.Spot.TheVariants.{Memory, Cache}

abbrev pub spot_of : Spot → L.Spot
spot_of (Memory index) = L.in_memory index
spot_of (Cache index) = L.in_cache index

-- a block of the lent slices
abbrev pub Fits : List ℕ → List ℕ → L.Spot → Type 0
Fits memory cache (L.in_memory q) = 64 * q + 64 ≤ length memory
Fits memory cache (L.in_cache q) = 64 * q + 64 ≤ length cache

-- a block of the nonvolatile memory
pub data InMemory : L.Spot → Type 0 where
  is_in_memory : (index : ℕ) → InMemory (L.in_memory index)
