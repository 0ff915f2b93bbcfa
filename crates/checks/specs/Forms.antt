-- What the flaws of table words tell when they are gathered.
use Rattle.std.specs.Prelude.{ℕ, ◌+◌, ◌-◌, ◌*◌, ◌/◌, ◌%◌, Bool, ◌&&◌, ◌==◌}
use Rattle.rules.specs.declared.Geometry.{Geometry}

abbrev pub margin_of : Geometry → ℕ
margin_of g = 256 * (4096 - g.blocks) + 123

-- bit 7 and the bits from 20 on are 0
unfoldable pub flawless : ℕ → Bool
flawless n = n / 1048576 == 0 && n / 128 % 2 == 0

-- bit 1 is 0
unfoldable pub calm : ℕ → Bool
calm n = n / 2 % 2 == 0

unfoldable pub all_formed : ℕ → ℕ → Bool
unfolding flawless calm
all_formed flawed seen = flawless flawed && calm seen
