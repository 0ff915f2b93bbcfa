-- The bytes of a new block: those of the range, and the old ones beside it.
use mathlib.Core.Path.{◌≡◌, ap, ◌∙◌}
use mathlib.Core.List.{List, ◌++◌}
use Prim.Native.Nat.{ℕ, ◌+◌, ◌-◌, ◌≤◌, ◌<◌}
use native.Mathlib.Omega.{arith}
use lib.ListN.{length, get_or, take, drop, length-append, length-take, length-drop, get_or-append}
use lib.Seq.{length-take-le, get_or-take, get_or-drop, get_or-append-add}
use Rattle.rules.specs.Stores.{replaced}

module _ (block : List ℕ) (offset : ℕ) (bytes : List ℕ) (fits : offset + length bytes ≤ length block) where
  size : length (take offset block ++ bytes) ≡ offset + length bytes
  size = simp (length-append, length-take) (omega arith)

  pub before_range : (q : ℕ) → q < offset → get_or (replaced block offset bytes) q 0 ≡ get_or block q 0
  unfolding replaced
  before_range q h =
      let e : length (take offset block) ≡ offset = length-take-le offset block (omega arith) in
      get_or-append (take offset block ++ bytes) _ 0 q (omega (arith, size))
      ∙ get_or-append (take offset block) bytes 0 q (omega (arith, e))
      ∙ get_or-take offset block q 0 h

  pub in_range : (q : ℕ) → offset ≤ q → q < offset + length bytes → get_or (replaced block offset bytes) q 0 ≡ get_or bytes (q - offset) 0
  unfolding replaced
  in_range q h k =
      let e : length (take offset block) ≡ offset = length-take-le offset block (omega arith) in
      let f : q ≡ length (take offset block) + (q - offset) = omega (arith, e) in
      get_or-append (take offset block ++ bytes) _ 0 q (omega (arith, size))
      ∙ ap (λ (z : ℕ). get_or (take offset block ++ bytes) z 0) f
      ∙ get_or-append-add (take offset block) bytes (q - offset) 0

  pub behind_range : (q : ℕ) → offset + length bytes ≤ q → get_or (replaced block offset bytes) q 0 ≡ get_or block q 0
  unfolding replaced
  behind_range q h =
      let f : q ≡ length (take offset block ++ bytes) + (q - (offset + length bytes)) = omega (arith, size) in
      let g : offset + length bytes + (q - (offset + length bytes)) ≡ q = omega arith in
      ap (λ (z : ℕ). get_or ((take offset block ++ bytes) ++ drop (offset + length bytes) block) z 0) f
      ∙ get_or-append-add (take offset block ++ bytes) (drop (offset + length bytes) block) (q - (offset + length bytes)) 0
      ∙ get_or-drop (offset + length bytes) block (q - (offset + length bytes)) 0
      ∙ ap (λ (z : ℕ). get_or block z 0) g

  pub length-replaced : length (replaced block offset bytes) ≡ length block
  unfolding replaced
  length-replaced = simp (length-append, length-drop, length-take) (omega arith)
