-- Two turns that the contract allows for one field on one bench coincide: the line, its length, what is held after, and every byte of the arrays.
use Rattle.std.specs.declared.ops.ControlFlow.{ControlFlow}
use Rattle.std.specs.declared.ops.ControlFlow.TheVariants.{Continue, Break}
use mathlib.Core.Path.{◌≡◌, sym, ap, ◌∙◌}
use mathlib.Core.List.{List}
use Prim.Native.Nat.{ℕ}
use Rattle.trace.specs.declared.Bench as D
use Rattle.trace.specs.Trace.{Turned, Turns, length_of, goes_on}

pub record Same (slice : List ℕ) (after : D.Bench) (r : ControlFlow ℕ ℕ) (slice' : List ℕ) (after' : D.Bench) (r' : ControlFlow ℕ ℕ) : Type 0 where
  pub lines : slice ≡ slice'
  pub benches : after ≡ after'
  pub turns : r ≡ r'

same_turn : (r r' : ControlFlow ℕ ℕ) → goes_on r ≡ goes_on r' → length_of r ≡ length_of r' → r ≡ r'
same_turn (Continue n) (Continue n') g e = ap Continue e
same_turn (Continue n) (Break n') g e = cc
same_turn (Break n) (Continue n') g e = cc
same_turn (Break n) (Break n') g e = ap Break e

pub turn_one : (t : Turned) (slice : List ℕ) {slice₁ slice₂ : List ℕ} {after₁ after₂ : D.Bench} {r₁ r₂ : ControlFlow ℕ ℕ}
    → Turns t slice slice₁ after₁ r₁ → Turns t slice slice₂ after₂ r₂ → Same slice₁ after₁ r₁ slice₂ after₂ r₂
turn_one t slice {r₁ = r₁} {r₂ = r₂} a b =
    let e = a.bench ∙ sym b.bench in
    record {
      lines = a.puts.stands ∙ sym b.puts.stands;
      benches = λ i. record {
        arrays = record { memory = (e i).board.memory; cache = (e i).board.volatile.cache; table = (e i).board.volatile.table };
        controller = (e i).board.volatile.controller;
        allowance = (e i).allowance;
      };
      turns = same_turn r₁ r₂ (a.goes ∙ sym b.goes) (a.puts.after ∙ sym b.puts.after);
    }
