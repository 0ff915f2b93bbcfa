-- What a function promises that puts bytes at a place of a lent slice.
use Rattle.std.specs.Prelude.{◌≡◌, List, ℕ, ◌+◌, length}
use Rattle.std.proofs.lemmas.List.Edits.{sets}

-- the bytes stand from start on, the rest of the slice is as it was, and r is the place after them
pub record Puts (bytes : List ℕ) (start : ℕ) (slice slice' : List ℕ) (r : ℕ) : Type 0 where
  pub after : r ≡ start + length bytes
  pub stands : slice' ≡ sets slice start bytes
