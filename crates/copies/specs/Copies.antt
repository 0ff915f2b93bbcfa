-- The room that a slot's copy at begin needs.
use Rattle.std.specs.Prelude.{◌≡◌, true, ℕ, ◌+◌, ◌*◌, ◌≤◌}
use Rattle.rules.specs.declared.Geometry.{Geometry}
use Rattle.rules.specs.declared.Phase.TheVariants.{Running}
use Rattle.rules.specs.Numbers.{well_formed, allows}

-- a slot of a board with so many bytes of memory and CACHE, and its word
pub record Slotted (g : Geometry) (slot word m c : ℕ) : Type 0 where
  pub low : slot ≤ 512
  pub formed : well_formed (allows Running) g word ≡ true
  pub memory : 64 * (g.blocks + slot) + 64 ≤ m
  pub cache : 64 * slot + 64 ≤ c
