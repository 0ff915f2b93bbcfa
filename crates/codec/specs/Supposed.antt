-- Whether bytes encode a record, and which: read off the places where the values of its fields stand (document 02, No. 4).
use Rattle.std.specs.Prelude.{Bool, true, false, ◌&&◌, cond, List, [], ◌∷◌, ℕ, eqb, take, drop, get_or}
use Rattle.rules.specs.declared.Backup.{Backup}
use Rattle.rules.specs.declared.Backup.TheVariants.{A, B}
use Rattle.rules.specs.declared.Phase.{Phase}
use Rattle.rules.specs.declared.Phase.TheVariants.{Running, Writing, Off}
use Rattle.rules.specs.declared.Controller.{Controller}
use Rattle.fields.specs.Fields.{big_number}
use Rattle.codec.specs.Encoding.{encoded}

unfoldable pub backup_for : ℕ → Backup
backup_for byte = cond (eqb byte 1) A B

unfoldable pub phase_for : ℕ → ℕ → Phase
phase_for byte count = cond (eqb byte 0) Running (cond (eqb byte 1) (Writing count) Off)

unfoldable pub number_at : List ℕ → ℕ → ℕ
unfolding big_number
number_at bytes place = big_number (take 2 (drop place bytes))

-- the only record whose encoding the bytes can be
unfoldable pub supposed : List ℕ → Controller
unfolding number_at backup_for phase_for
supposed bytes = record {
  geometry = record { blocks = number_at bytes 3; slots = number_at bytes 8 };
  registers = take 64 (drop 13 bytes);
  finished = backup_for (get_or bytes 80 0);
  phase = phase_for (get_or bytes 84 0) (number_at bytes 88);
}

unfoldable pub same : List ℕ → List ℕ → Bool
same [] [] = true
same [] (y ∷ ys) = false
same (x ∷ xs) [] = false
same (x ∷ xs) (y ∷ ys) = eqb x y && same xs ys

-- bytes encode a record exactly where they are the encoding of that one
unfoldable pub is_record : List ℕ → Bool
unfolding same encoded supposed
is_record bytes = same bytes (encoded (supposed bytes))
