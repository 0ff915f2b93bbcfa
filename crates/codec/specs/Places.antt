-- The tests that tell whether 90 bytes encode a record, at the places where its fields stand. For the code only.
use Rattle.std.specs.Prelude.{Bool, ◌&&◌, ◌||◌, List, ℕ, ◌+◌, eqb, get_or}
use Rattle.codec.specs.Supposed.{number_at}

unfoldable pub begins_at : List ℕ → ℕ → ℕ → ℕ → Bool
begins_at bytes start tag size = (eqb (get_or bytes start 0) tag && eqb (get_or bytes (start + 1) 0) 0) && eqb (get_or bytes (start + 2) 0) size

unfoldable pub has_fields : List ℕ → Bool
unfolding begins_at
has_fields bytes =
    ((((begins_at bytes 0 1 2 && begins_at bytes 5 2 2) && begins_at bytes 10 3 64) && begins_at bytes 77 4 1) && begins_at bytes 81 5 1) && begins_at bytes 85 6 2

unfoldable pub is_backup : ℕ → Bool
is_backup byte = eqb byte 1 || eqb byte 2

unfoldable pub is_phase : ℕ → ℕ → Bool
is_phase byte count = eqb byte 1 || (eqb count 0 && (eqb byte 0 || eqb byte 2))

unfoldable pub tests_hold : List ℕ → Bool
unfolding has_fields is_backup is_phase number_at
tests_hold bytes = (has_fields bytes && is_backup (get_or bytes 80 0)) && is_phase (get_or bytes 84 0) (number_at bytes 88)
