-- Where the range of a store goes on in a block that is built word by word.
use Rattle.std.specs.Prelude.{◌≡◌, ℕ, ◌+◌, ◌*◌, ◌≤◌, ◌<◌}
use Rattle.rules.specs.declared.Window.{Window}

-- words of a block, the first of them not behind the start of the range
abbrev pub Opens : ℕ → Window → Type 0
Opens offset window = (8 * window.first ≤ offset) × (window.first + window.count ≤ 8)

-- the words before byte `at` are built; `next` is the first byte of the range from there on, or 64 where there is none
pub data Next (offset end at next : ℕ) : Type 0 where
  ahead : at ≤ offset → next ≡ offset → Next offset end at next
  inside : offset < at → at < end → next ≡ at → Next offset end at next
  past : offset < at → end ≤ at → next ≡ 64 → Next offset end at next
