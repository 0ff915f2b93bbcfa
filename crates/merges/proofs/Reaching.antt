-- Where the range of a store goes on, from one word of the block to the next.
use mathlib.Core.Path.{◌≡◌}
use Prim.Native.Nat.{ℕ, ◌+◌, ◌≤◌, ◌<◌}
use native.Mathlib.Omega.{arith}
use Rattle.merges.specs.Ranges.{Next, ahead, inside, past}

-- a word that the range does not reach
pub not_reached : {offset end at next : ℕ} → at + 8 ≤ 64 → at + 8 ≤ next → Next offset end at next → Next offset end (at + 8) next
not_reached l h (ahead a e) = ahead (omega arith) e
not_reached l h (inside a b e) = absurd (omega arith)
not_reached l h (past a b e) = past (omega arith) (omega arith) e

-- such a word lies before the range or behind it
pub data Outside (offset end at : ℕ) : Type 0 where
  before : at + 8 ≤ offset → Outside offset end at
  behind : end ≤ at → Outside offset end at

pub outside : {offset end at next : ℕ} → at + 8 ≤ next → Next offset end at next → Outside offset end at
outside h (ahead a e) = before (omega arith)
outside h (inside a b e) = absurd (omega arith)
outside h (past a b e) = behind b

-- a word that it reaches: next is its first byte of the range
pub record Reached (offset end at next : ℕ) : Type 0 where
  pub from : at ≤ next
  pub starts : offset ≤ next
  pub early : offset < at + 8
  pub order : next ≤ end
  pub first : at < next → next ≡ offset

pub reached : {offset end at next : ℕ} → at + 8 ≤ 64 → offset ≤ end → next < at + 8 → Next offset end at next → Reached offset end at next
reached l o h (ahead a e) = record { from = omega arith; starts = omega arith; early = omega arith; order = omega arith; first = λ b. e }
reached l o h (inside a b e) = record { from = omega arith; starts = omega arith; early = omega arith; order = omega arith; first = λ x. absurd (omega arith) }
reached l o h (past a b e) = absurd (omega arith)
