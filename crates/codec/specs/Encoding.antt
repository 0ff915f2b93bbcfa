-- A controller record as 90 bytes of house fields (document 02, No. 4).
use Rattle.std.specs.Prelude.{◌≡◌, List, [], ◌∷◌, ℕ, ◌<◌, length, replicate}
use Rattle.rules.specs.declared.Backup.{Backup}
use Rattle.rules.specs.declared.Backup.TheVariants.{A, B}
use Rattle.rules.specs.declared.Phase.{Phase}
use Rattle.rules.specs.declared.Phase.TheVariants.{Running, Writing, Off}
use Rattle.rules.specs.declared.Controller.{Controller}
use Rattle.rules.specs.Checkpoints.{count_of}
use Rattle.fields.specs.Fields.{big_endian, Field, ◌holds◌, fields_of}

-- finished backup, 1 or 2
abbrev pub backup_byte : Backup → ℕ
backup_byte A = 1
backup_byte B = 2

-- phase, 0 Running, 1 Writing, 2 Off
abbrev pub phase_byte : Phase → ℕ
phase_byte Running = 0
phase_byte (Writing count) = 1
phase_byte Off = 2

-- tag 1 N (2); 2 B (2); 3 the registers (64); 4 finished backup (1); 5 phase (1); 6 count (2), 0 unless Writing
unfoldable pub fields_in : Controller → List Field
unfolding big_endian count_of
fields_in c =
    (1 holds big_endian 2 c.geometry.blocks)
    ∷ (2 holds big_endian 2 c.geometry.slots)
    ∷ (3 holds c.registers)
    ∷ (4 holds (backup_byte c.finished ∷ []))
    ∷ (5 holds (phase_byte c.phase ∷ []))
    ∷ (6 holds big_endian 2 (count_of c.phase))
    ∷ []

unfoldable pub encoded : Controller → List ℕ
unfolding fields_of fields_in
encoded c = fields_of (fields_in c)

-- what the types of a record say: two bytes for each size and for the count, 64 registers
pub record Fits (c : Controller) : Type 0 where
  pub blocks : c.geometry.blocks < 65536
  pub slots : c.geometry.slots < 65536
  pub registers : length c.registers ≡ 64
  pub count : count_of c.phase < 65536

-- bytes encode a record where they are its encoding
pub record Encodes (bytes : List ℕ) (c : Controller) : Type 0 where
  pub fits : Fits c
  pub bytes_of : bytes ≡ encoded c

-- a new host starts from sizes 0, registers 0, backup 1, Off
abbrev pub new_host : Controller
new_host = record {
  geometry = record { blocks = 0; slots = 0 };
  registers = replicate 64 0;
  finished = A;
  phase = Off;
}
