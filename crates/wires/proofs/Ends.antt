-- The ends of a read, by what the board's load gave.
use mathlib.Core.Path.{◌≡◌, sym, ap, ◌∙◌, subst}
use mathlib.Core.Logic.{◌≢◌}
use mathlib.Core.Bool.{true, false, cond, not}
use mathlib.Core.List.{List}
use Prim.Native.Nat.{ℕ}
use lib.Dec.{eqb}
use lib.ListN.{length}
use denote.Enum.Bare.{sameb, same_true}
use borrow.Author.Tests.{not-false}
use Rattle.std.proofs.Common.{rules}
use native.Mathlib.Nat.{suc-ne-zero}
use Rattle.words.proofs.Same.{false_is_true}
use Rattle.rules.specs.declared.Number.{Number}
use Rattle.rules.specs.declared.Number.TheVariants as N
use Rattle.rules.specs.contracts.Number.{the_type}
use Rattle.rules.specs.Board.{Board}
use Rattle.rules.specs.Numbers.{number_of}
use Rattle.rules.specs.Power.{Outcome}
use Rattle.rules.specs.Calls.{load, call}
use Rattle.loads.specs.Reading.{Loaded, filled}
use Rattle.std.specs.Prelude.{Option, Some, None, Err}
use Rattle.std.specs.Option.{ok_or}
use Rattle.records.specs.declared.Found.{Found}
use Rattle.records.specs.Reading.{Reads}
use Rattle.wires.specs.declared.Refusal.TheVariants as No
use Rattle.wires.specs.Reading.{Gives, a_record, no_record, refused, accepted, ReadsWire}

-- a number other than Done, by the derived `==`
pub not_done : (n : Number) → not (sameb the_type n N.Done) ≡ true → number_of n ≢ 0
unfolding number_of
not_done N.Done e z = false_is_true e
not_done N.Geometry e z = suc-ne-zero _ z
not_done N.Buffer e z = suc-ne-zero _ z
not_done N.Record e z = suc-ne-zero _ z
not_done N.Off e z = suc-ne-zero _ z
not_done N.Table e z = suc-ne-zero _ z
not_done N.Range e z = suc-ne-zero _ z
not_done N.Full e z = suc-ne-zero _ z
not_done N.Busy e z = suc-ne-zero _ z
not_done N.Idle e z = suc-ne-zero _ z
not_done N.NoCheckpoint e z = suc-ne-zero _ z
not_done N.Backup e z = suc-ne-zero _ z
not_done N.NoHeader e z = suc-ne-zero _ z
not_done N.WrongBoard e z = suc-ne-zero _ z
not_done N.Cut e z = suc-ne-zero _ z

pub is_done : (n : Number) → not (sameb the_type n N.Done) ≡ false → number_of n ≡ 0
unfolding number_of
is_done n e = ap number_of (same_true the_type (search rules) n N.Done (not-false _ e))

block_gives : {block : List ℕ} (found : Option Found) → Reads block found → Gives block (ok_or found No.NoRecord)
block_gives (Some found) reads = a_record reads
block_gives None reads = no_record reads

module _ (board : Board) (w : ℕ) (into into' : List ℕ) (n : Number) (size : length into ≡ 64) (loaded : Loaded board w 0 into into' n) where
  abbrev asked : Outcome
  asked = call 0 board (load w 0 64)

  answer : n ≡ asked.number
  answer = loaded.number ∙ ap (λ (k : ℕ). (call 0 board (load w 0 k)).number) size

  pub wire_refused : number_of n ≢ 0 → ReadsWire board w (Err (No.Board n))
  wire_refused ne =
      subst (λ (z : Number). ReadsWire board w (Err (No.Board z))) (sym answer) (refused (λ e. ne (ap number_of answer ∙ e)))

  gives : number_of n ≡ 0 → into' ≡ asked.gives
  unfolding filled
  gives e =
      loaded.bytes
      ∙ ap (λ (k : ℕ). filled (call 0 board (load w 0 k)) into) size
      ∙ ap (λ (k : ℕ). cond (eqb k 0) asked.gives into) (sym (ap number_of answer) ∙ e)

  pub wire_accepted : number_of n ≡ 0 → (found : Option Found) → Reads into' found → ReadsWire board w (ok_or found No.NoRecord)
  wire_accepted e found reads = accepted (sym (ap number_of answer) ∙ e) (block_gives found (subst (λ (z : List ℕ). Reads z found) (gives e) reads))
