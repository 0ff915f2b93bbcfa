-- The tests of table words that the loops over a table make.
use Rattle.std.specs.Prelude.{◌≡◌, ℕ, ◌+◌, ◌/◌, ◌%◌, ◌<◌, ◌≤◌, Bool, true, false, cond, not, ◌&&◌, ◌≢◌, List, length, ◌==◌, slice_index, Option, Some, None}
use Rattle.rules.specs.declared.State.{State}
use Rattle.rules.specs.Numbers.{while_writing}

-- the codes allowed while Writing, and else
unfoldable pub allowed_while : Bool → State → Bool
allowed_while true = while_writing
allowed_while false = λ state. true

-- a word has the block's number; the free word has that of block 0
unfoldable pub of_block : ℕ → ℕ → Bool
of_block block word = word / 256 % 4294967296 == block

-- a word of the block is free, or isn't
unfoldable pub wanted : ℕ → Bool → ℕ → Bool
unfolding of_block
wanted block vacant word = of_block block word && cond vacant (word == 0) (not (word == 0))

-- no word passes a test from one slot up to another
abbrev pub Skipped : (ℕ → Bool) → List ℕ → ℕ → ℕ → Type 0
Skipped test table start end = (i : ℕ) → start ≤ i → i < end → test (slice_index table i) ≡ false

-- the first word that passes a test among so many from a slot on, counted from that slot, or none
abbrev pub Among : (ℕ → Bool) → List ℕ → ℕ → ℕ → Option ℕ → Type 0
Among test table start count None = Skipped test table start (start + count)
Among test table start count (Some offset) = (offset < count) × Skipped test table start (start + offset) × (test (slice_index table (start + offset)) ≡ true)

-- the lowest slot from a start on whose word passes a test, or the number of slots
pub record Next (test : ℕ → Bool) (table : List ℕ) (start slot : ℕ) : Type 0 where
  pub after : start ≤ slot
  pub within : slot ≤ length table
  pub between : (i : ℕ) → start ≤ i → i < slot → test (slice_index table i) ≡ false
  pub here : slot < length table → test (slice_index table slot) ≡ true

-- the slot from a start on, if there is one
abbrev pub NextOf : (ℕ → Bool) → List ℕ → ℕ → Option ℕ → Type 0
NextOf test table start None = Next test table start (length table)
NextOf test table start (Some slot) = Next test table start slot × (slot < length table)

-- the same from the first slot on
pub record Lowest (test : ℕ → Bool) (table : List ℕ) (slot : ℕ) : Type 0 where
  pub within : slot ≤ length table
  pub before : (i : ℕ) → i < slot → test (slice_index table i) ≡ false
  pub here : slot < length table → test (slice_index table slot) ≡ true

abbrev pub LowestOf : (ℕ → Bool) → List ℕ → Option ℕ → Type 0
LowestOf test table None = Lowest test table (length table)
LowestOf test table (Some slot) = Lowest test table slot × (slot < length table)

-- a table word that is free or names a block of some board
pub record FormedWord (word : ℕ) : Type 0 where
  pub low : word ≢ 0 → 1 ≤ word % 256
  pub high : word % 256 ≤ 5
  pub block : word / 256 < 4096

abbrev pub Formed : List ℕ → Type 0
Formed table = (i : ℕ) → i < length table → FormedWord (slice_index table i)
