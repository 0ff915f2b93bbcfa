-- The number that a read is answered with, and that a refused one hands out nothing.
use mathlib.Core.Path.{◌≡◌, refl}
use mathlib.Core.Logic.{◌≢◌, ◌⊎◌, inl, inr}
use mathlib.Core.List.{List}
use Prim.Native.Nat.{ℕ}
use Rattle.rules.specs.Numbers.{number_of}
use Rattle.rules.specs.Power.{Outcome}
use Rattle.rules.specs.Calls.{load, call}
use Rattle.std.specs.Prelude.{Ok, Err, None}
use Rattle.wires.specs.Reading.{Reading, Gives, a_record, no_record, Answers, refused, accepted, refusal_number, told}
use Rattle.wires.specs.Promises.{ReadTells}

refused_tells : (r : Reading) → (told r).number ≢ 0 → (told r).values ≡ None
unfolding told
refused_tells (Ok found) ne = absurd (ne refl)
refused_tells (Err refusal) ne = refl

block_tells : (block : List ℕ) (r : Reading) → Gives block r → ((told r).number ≡ 0) ⊎ ((told r).number ≡ 30)
unfolding told refusal_number
block_tells block r (a_record reads) = inl refl
block_tells block r (no_record reads) = inr refl

answer_tells : (outcome : Outcome) (r : Reading) → Answers outcome r
    → (number_of outcome.number ≢ 0 → (told r).number ≡ number_of outcome.number) × (number_of outcome.number ≡ 0 → ((told r).number ≡ 0) ⊎ ((told r).number ≡ 30))
unfolding told refusal_number
answer_tells outcome r (refused ne) = ((λ n. refl), λ e. absurd (ne e))
answer_tells outcome r (accepted e reads) = ((λ ne. absurd (ne e)), λ z. block_tells outcome.gives r reads)

pub read_tells : ReadTells
unfolding ReadTells
read_tells board w r reads =
    let a = answer_tells (call 0 board (load w 0 64)) r reads in
    (a.0, a.1, refused_tells r)
