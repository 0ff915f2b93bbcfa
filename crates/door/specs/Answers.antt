-- What C sees of a call: the answer that it returns, and the bytes that it was lent (document 02, No. 4).
use Rattle.std.specs.Prelude.{◌≡◌, cond, List, [], ◌∷◌, ℕ, eqb}
use Rattle.rules.specs.declared.Registers.{Registers}
use Rattle.rules.specs.declared.Registers.TheVariants.{Saved, Absent}
use Rattle.door.specs.declared.RostimelyAnswer.{RostimelyAnswer}
use Rattle.door.specs.declared.RostimelyRecovery.{RostimelyRecovery}
use Rattle.door.specs.Doors.{Left, lent_of}

-- ---- the doors

-- store, begin, step and format
abbrev pub left_of : RostimelyAnswer → List ℕ → List ℕ → List ℕ → List ℕ → Left
left_of r memory cache table_bytes record_bytes = record {
  number = r.number;
  words = r.words;
  gives = [];
  lent = lent_of memory cache table_bytes record_bytes;
}

-- load: its destination holds the bytes handed out, or is as it was
pub record Loads (left : Left) (into into' : List ℕ) (r : RostimelyAnswer) : Type 0 where
  pub number : r.number ≡ left.number
  pub words : r.words ≡ 0
  pub bytes : into' ≡ cond (eqb left.number 0) left.gives into

-- recovery: 1 where it hands out registers, which then stand in the record's bytes, else 0
unfoldable pub registers_flag : List ℕ → ℕ
registers_flag [] = 0
registers_flag (byte ∷ bytes) = 1

-- the same by what an answer says of the registers. For the code only.
abbrev pub flag_of : Registers → ℕ
flag_of Saved = 1
flag_of Absent = 0

pub record Recovers (left : Left) (memory cache table_bytes record_bytes : List ℕ) (r : RostimelyRecovery) : Type 0 where
  pub number : r.number ≡ left.number
  pub words : r.words ≡ left.words
  pub registers : r.registers ≡ registers_flag left.gives
  pub lent : lent_of memory cache table_bytes record_bytes ≡ left.lent
