-- What a lookup finds, by cases: nothing, or an entry in a slot with a state.
use Prim.Native.Nat.{ℕ}
use mathlib.Core.Path.{◌≡◌, sym, ap}
use Rattle.std.specs.Prelude.{Option, Some, None, unwrap_or, option_map}
use Rattle.rules.specs.declared.State.{State}
use Rattle.rules.specs.declared.Entry.{Entry}
use Rattle.rules.specs.TableWords.{entry_at}

-- an entry that is found is in one slot
pub same_slot : {slot i : ℕ} {state s : State} → entry_at slot state ≡ entry_at i s → i ≡ slot
same_slot {slot} {i} {state} {s} e = ap (λ (o : Option Entry). unwrap_or (option_map (λ entry. entry.slot) o) 0) (sym e)

pub data Case : Option Entry → Type 0 where
  nothing : Case None
  in_slot : (slot : ℕ) (state : State) → Case (entry_at slot state)

pub case_of : (found : Option Entry) → Case found
case_of None = nothing
case_of (Some entry) = in_slot entry.slot entry.state
