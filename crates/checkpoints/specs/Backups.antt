-- The list of a checkpoint as it lies in the part of the memory that starts with the backup.
use Rattle.std.specs.Prelude.{List, [], ◌∷◌, ◌++◌, ℕ, ◌+◌, ◌*◌, ◌≤◌}
use Rattle.words.specs.Words.{Store, bytes_to, numbers_to}

-- the 8 registers and the table from the part's start, then the mark
unfoldable pub backup_list : ℕ → ℕ → List ℕ → List ℕ → List Store
unfolding bytes_to numbers_to
backup_list markPlace mark registers table = (bytes_to 0 8 registers ++ numbers_to 8 table) ++ numbers_to markPlace (mark ∷ [])

-- a part of so many bytes has room for it
pub record Room (markPlace slots size : ℕ) : Type 0 where
  pub table : 8 * (8 + slots) ≤ size
  pub mark : 8 * markPlace + 8 ≤ size
