-- A part of a lent slice, and the part where a block shows (document 01, Where a block shows).
use Rattle.std.specs.Prelude.{◌≡◌, List, ℕ, ◌+◌, ◌*◌, take, drop}
use Rattle.std.specs.Borrow.{Bor}
use Rattle.rules.specs.Loads.{Spot, in_memory, in_cache}

-- r is the part of s of n bytes from byte a on: it points at that byte of s, and holds what s holds there
pub record PartOf (r s : Bor (List ℕ)) (a n : ℕ) : Type 0 where
  pub object : r.ref_ptr.0 ≡ s.ref_ptr.0
  pub offset : r.ref_ptr.1 ≡ s.ref_ptr.1 + a
  pub bytes : r.now ≡ take n (drop a s.now)

-- the 64 bytes of the memory or of CACHE where a block shows
unfoldable pub Shown : Bor (List ℕ) → Bor (List ℕ) → Bor (List ℕ) → Spot → Type 0
Shown r memory cache (in_memory q) = PartOf r memory (64 * q) 64
Shown r memory cache (in_cache q) = PartOf r cache (64 * q) 64
