-- The lines of fields, put piece by piece.
use mathlib.Core.Path.{◌≡◌, ap, ◌∙◌, subst}
use mathlib.Core.List.{List, [], ◌∷◌, ◌++◌, append_assoc}
use Rattle.std.specs.Prelude.{None}
use Prim.Native.Nat.{ℕ}
use Rattle.lines.specs.Puts.{Puts}
use Rattle.lines.specs.Lines.{decimal, hex_bytes, line}
use Rattle.lines.proofs.Places.{puts_then}
use Rattle.trace.specs.Trace.{register_text}

three_then : (x y z t : List ℕ) → (x ++ (32 ∷ (y ++ (32 ∷ z)))) ++ t ≡ x ++ (32 ∷ (y ++ (32 ∷ (z ++ t))))
three_then x y z t = append_assoc x (32 ∷ (y ++ (32 ∷ z))) t ∙ ap (λ (l : List ℕ). x ++ (32 ∷ l)) (append_assoc y (32 ∷ z) t)

module _ (field n w : ℕ) {slice slice' : List ℕ} {place : ℕ} (p : Puts (decimal field ++ (32 ∷ (decimal n ++ (32 ∷ decimal w)))) 0 slice slice' place) where
  -- after the three numbers, the end
  pub numbers_end : {slice'' : List ℕ} {r : ℕ} → Puts (10 ∷ []) place slice' slice'' r
      → Puts (line (decimal field ∷ (decimal n ∷ (decimal w ∷ [])))) 0 slice slice'' r
  unfolding line
  numbers_end {slice''} {r} q =
      subst (λ (l : List ℕ). Puts l 0 slice slice'' r) (three_then (decimal field) (decimal n) (decimal w) (10 ∷ [])) (puts_then p q)

  -- after them bytes in hex
  pub bytes_end : (bytes : List ℕ) {slice₁ slice₂ slice₃ : List ℕ} {place₁ place₂ r : ℕ} → Puts (32 ∷ []) place slice' slice₁ place₁
      → Puts (hex_bytes bytes) place₁ slice₁ slice₂ place₂ → Puts (10 ∷ []) place₂ slice₂ slice₃ r
      → Puts (line (decimal field ∷ (decimal n ∷ (decimal w ∷ (hex_bytes bytes ∷ []))))) 0 slice slice₃ r
  unfolding line
  bytes_end bytes {slice₁} {slice₂} {slice₃} {place₁} {place₂} {r} s h e =
      subst (λ (l : List ℕ). Puts l 0 slice slice₃ r) (three_then (decimal field) (decimal n) (decimal w) (32 ∷ (hex_bytes bytes ++ (10 ∷ []))))
      (puts_then p (puts_then s (puts_then h e)))

  -- after them `--` and the end
  pub dashes_end : {slice₁ : List ℕ} {r : ℕ} → Puts (32 ∷ (45 ∷ (45 ∷ (10 ∷ [])))) place slice' slice₁ r
      → Puts (line (decimal field ∷ (decimal n ∷ (decimal w ∷ (register_text None ∷ []))))) 0 slice slice₁ r
  unfolding line register_text
  dashes_end {slice₁} {r} e =
      subst (λ (l : List ℕ). Puts l 0 slice slice₁ r) (three_then (decimal field) (decimal n) (decimal w) (32 ∷ (45 ∷ (45 ∷ (10 ∷ []))))) (puts_then p e)
