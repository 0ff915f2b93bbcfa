-- Bytes put at a place: one after another, as a part, from the back, and read as parts of the slice.
use mathlib.Core.Path.{◌≡◌, refl, sym, ap, ◌∙◌}
use mathlib.Core.List.{List, [], ◌∷◌, ◌++◌}
use Prim.Native.Nat.{ℕ, suc, ◌+◌, ◌≤◌}
use native.Mathlib.Omega.{arith}
use native.Mathlib.Nat.{add-zero}
use native.Mathlib.Numerals.{add-one}
use lib.ListN.{length, set, take, drop, length-append}
use lib.Seq.{sets, sets-eq, set_comm, take_all}
use borrow.Rule.Slice.PartMut.{put_mid}
use Rattle.std.proofs.lemmas.Slice.{put_mid-paste}
use Rattle.lines.specs.Puts.{Puts}

sets_then : (xs ys slice : List ℕ) (start : ℕ) → sets (sets slice start xs) (start + length xs) ys ≡ sets slice start (xs ++ ys)
sets_then [] ys slice start = ap (λ (k : ℕ). sets slice k ys) (add-zero start)
sets_then (x ∷ xs) ys slice start =
    let e : start + suc (length xs) ≡ suc start + length xs = omega arith in
    ap (λ (k : ℕ). sets (sets (set slice start x) (suc start) xs) k ys) e ∙ sets_then xs ys (set slice start x) (suc start)

-- one piece after another
pub puts_then : {xs ys slice slice' slice'' : List ℕ} {start place r : ℕ}
    → Puts xs start slice slice' place → Puts ys place slice' slice'' r → Puts (xs ++ ys) start slice slice'' r
puts_then {xs} {ys} {slice} {slice'} {slice''} {start} {place} {r} a b =
    record {
      after = simp length-append (omega (arith, a.after, b.after));
      stands = b.stands
          ∙ ap (λ (z : List ℕ). sets z place ys) a.stands
          ∙ ap (λ (k : ℕ). sets (sets slice start xs) k ys) a.after
          ∙ sets_then xs ys slice start;
    }

pub puts_nothing : (slice : List ℕ) (start : ℕ) → Puts [] start slice slice start
puts_nothing slice start = record { after = sym (add-zero start); stands = refl }

pub puts_two : (slice : List ℕ) (start x y : ℕ) → Puts (x ∷ (y ∷ [])) start slice (set (set slice start x) (start + 1) y) (start + 2)
puts_two slice start x y = record { after = refl; stands = rw add-one }

-- bytes put as a part of the slice
pub puts_part : (bytes part slice : List ℕ) (start k : ℕ) → part ≡ bytes → k ≡ length bytes → start + length bytes ≤ length slice
    → Puts bytes start slice (put_mid start k slice part) (start + length bytes)
puts_part bytes part slice start k p n h =
    record {
      after = refl;
      stands = put_mid-paste start k slice part bytes k p refl n
          ∙ ap (λ (z : ℕ). take start slice ++ take z bytes ++ drop (start + z) slice) n
          ∙ ap (λ (z : List ℕ). take start slice ++ z ++ drop (start + length bytes) slice) (take_all (length bytes) bytes (omega arith))
          ∙ sym (sets-eq bytes slice start h);
    }

-- the last byte put before the others
pub sets_back : (xs slice : List ℕ) (start x : ℕ) → sets (set slice (start + length xs) x) start xs ≡ sets slice start (xs ++ (x ∷ []))
sets_back [] slice start x = ap (λ (k : ℕ). set slice k x) (add-zero start)
sets_back (y ∷ xs) slice start x =
    let e : start + suc (length xs) ≡ suc start + length xs = omega arith in
    ap (λ (k : ℕ). sets (set (set slice k x) start y) (suc start) xs) e
    ∙ ap (λ (z : List ℕ). sets z (suc start) xs) (set_comm slice (suc start + length xs) start x y (λ h. omega arith))
    ∙ sets_back xs (set slice start y) (suc start) x

-- the slice as its parts before, at and after the bytes
pub puts_parts : {bytes slice slice' : List ℕ} {start r : ℕ} → Puts bytes start slice slice' r → start + length bytes ≤ length slice
    → slice' ≡ take start slice ++ bytes ++ drop r slice
puts_parts {bytes} {slice} {slice'} {start} {r} p h =
    p.stands ∙ sets-eq bytes slice start h ∙ ap (λ (k : ℕ). take start slice ++ bytes ++ drop k slice) (sym p.after)
