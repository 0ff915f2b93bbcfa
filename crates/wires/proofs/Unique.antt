-- Two results that the contracts of write and read allow for one input coincide.
use mathlib.Core.Path.{◌≡◌, refl, ap}
use mathlib.Core.List.{List}
use Prim.Native.Nat.{ℕ}
use Rattle.rules.specs.declared.Answer.{Answer}
use Rattle.rules.specs.Board.{Board}
use Rattle.rules.specs.Power.{Outcome, outcome_of}
use Rattle.rules.specs.Calls.{load, store, call}
use Rattle.rules.proofs.Answers.{SameOutcome, one_outcome}
use Rattle.records.specs.declared.Wire.{Wire}
use Rattle.std.specs.Prelude.{Some, None, Ok}
use Rattle.records.specs.Records.{written}
use Rattle.wires.specs.Reading.{Reading, Gives, a_record, no_record, Answers, refused, accepted, ReadsWire}
use Rattle.records.specs.Promises.{OneReading}
use Rattle.records.proofs.Blocks.{one_reading}
use Rattle.std.proofs.lemmas.Option.{none-some, same_Some}

pub write_one : (p : ℕ) (board : Board) (w : ℕ) (wire : Wire) {answer answer' : Answer} {memory memory' cache cache' table table' : List ℕ}
    → call p board (store w 0 (written wire)) ≡ outcome_of answer memory cache table
    → call p board (store w 0 (written wire)) ≡ outcome_of answer' memory' cache' table'
    → SameOutcome answer answer' memory memory' cache cache' table table'
write_one p board w wire = one_outcome

pub gives_one : (block : List ℕ) (r s : Reading) → Gives block r → Gives block s → r ≡ s
unfolding OneReading
gives_one block r s (a_record {found = one} a) (a_record {found = two} b) = ap Ok (same_Some _ _ (one_reading block (Some one) (Some two) a b))
gives_one block r s (a_record {found = one} a) (no_record b) = absurd (none-some _ (one_reading block None (Some one) b a))
gives_one block r s (no_record a) (a_record {found = two} b) = absurd (none-some _ (one_reading block None (Some two) a b))
gives_one block r s (no_record a) (no_record b) = refl

answer_one : (outcome : Outcome) (r s : Reading) → Answers outcome r → Answers outcome s → r ≡ s
answer_one outcome r s (refused ne) (refused ne') = refl
answer_one outcome r s (refused ne) (accepted e reads) = absurd (ne e)
answer_one outcome r s (accepted e reads) (refused ne) = absurd (ne e)
answer_one outcome r s (accepted e reads) (accepted e' reads') = gives_one outcome.gives r s reads reads'

pub read_one : (board : Board) (w : ℕ) (r s : Reading) → ReadsWire board w r → ReadsWire board w s → r ≡ s
read_one board w r s = answer_one (call 0 board (load w 0 64)) r s
