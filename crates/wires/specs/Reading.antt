-- What a read of a wire answers (document 02, No. 1).
use Rattle.std.specs.Prelude.{◌≡◌, ◌≢◌, List, ℕ, Some, None, Result, Ok, Err, Option}
use Rattle.rules.specs.Board.{Board}
use Rattle.rules.specs.Numbers.{number_of}
use Rattle.rules.specs.Power.{Outcome}
use Rattle.rules.specs.Calls.{load, call}
use Rattle.records.specs.declared.Wire.{Wire}
use Rattle.records.specs.declared.Class.{Class}
use Rattle.records.specs.declared.Found.{Found}
use Rattle.records.specs.Reading.{Reads}
use Rattle.wires.specs.declared.Refusal.{Refusal}
use Rattle.wires.specs.declared.Refusal.TheVariants as No

-- what a read answers: what a record says, or why there is none
abbrev pub Reading : Type 0
Reading = Result Found Refusal

-- the reading of a block that the board gave
pub data Gives (block : List ℕ) : Reading → Type 0 where
  a_record : {found : Found} → Reads block (Some found) → Gives block (Ok found)
  no_record : Reads block None → Gives block (Err No.NoRecord)

-- the board's own refusals first
pub data Answers (outcome : Outcome) : Reading → Type 0 where
  refused : number_of outcome.number ≢ 0 → Answers outcome (Err (No.Board outcome.number))
  accepted : {r : Reading} → number_of outcome.number ≡ 0 → Gives outcome.gives r → Answers outcome r

-- a read of a wire is a load of its whole block
abbrev pub ReadsWire : Board → ℕ → Reading → Type 0
ReadsWire board w r = Answers (call 0 board (load w 0 64)) r

-- ---- a reading's number, and what it hands out

pub record Told : Type 0 where
  pub number : ℕ
  pub values : Option (Wire × Class)

-- 30 NO RECORD
unfoldable pub refusal_number : Refusal → ℕ
unfolding number_of
refusal_number (No.Board n) = number_of n
refusal_number No.NoRecord = 30

unfoldable pub told : Reading → Told
unfolding refusal_number
told (Ok found) = record { number = 0; values = Some (found.wire, found.class) }
told (Err refusal) = record { number = refusal_number refusal; values = None }
