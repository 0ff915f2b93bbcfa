-- The words that the bytes of a range touch.
use mathlib.Core.Path.{◌≡◌}
use Prim.Native.Nat.{ℕ, ◌+◌, ◌-◌, ◌/◌}
use Rattle.rules.specs.Stores.{touched}

pub touched_by : (offset len first count : ℕ) → first ≡ offset / 8 → count ≡ (offset + len + 7) / 8 - offset / 8 → record { first = first; count = count } ≡ touched offset len
unfolding touched
touched_by offset len first count e f = rw (e, f)
