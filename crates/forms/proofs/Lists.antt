-- The lists of stores of the new form: their lengths, and their runs laid one after another under one allowance.
use mathlib.Core.Path.{◌≡◌, refl, ◌∙◌}
use mathlib.Core.List.{List, ◌++◌}
use Prim.Native.Nat.{ℕ, ◌+◌, ◌-◌}
use native.Mathlib.Omega.{arith}
use lib.ListN.{length, drop, length-append}
use Rattle.words.specs.Words.{Store, bytes_to, fill_to, Lays}
use Rattle.words.proofs.Laying.{lays_then}
use Rattle.rules.specs.declared.Geometry.{Geometry}
use Rattle.rules.specs.Geometry.{home_words, backup_words, memory_words}
use Rattle.rules.specs.Starts.{format_list}
use Rattle.starts.proofs.Formatting.{format_length}
use Rattle.forms.specs.Stored.{header_bytes, first_zeroed, header_to, zeros_to}
use Rattle.forms.specs.Calls.{long_format_list}
use Rattle.forms.specs.Promises.{FormatWords}

-- ---- lengths

pub zeroed_length : (g : Geometry) → length (first_zeroed g) ≡ 1
unfolding first_zeroed fill_to bytes_to
zeroed_length g = refl

pub header_two : (g : Geometry) → length (header_to g) ≡ 2
unfolding header_to bytes_to
header_two g = refl

pub zeros_two : (g : Geometry) → length (zeros_to g) ≡ 2
unfolding zeros_to first_zeroed fill_to bytes_to
zeros_two g = refl

three_lengths : (xs ys zs : List Store) → length xs ≡ 1 → length zs ≡ 2 → length (xs ++ (ys ++ zs)) ≡ length ys + 3
three_lengths xs ys zs one two = simp length-append (omega (arith, one, two))

pub long_length : (g : Geometry) (fill : ℕ) → length (long_format_list g fill) ≡ length (format_list g fill) + 3
unfolding long_format_list
long_length g fill = three_lengths (first_zeroed g) (format_list g fill) (header_to g) (zeroed_length g) (header_two g)

pub format_words : FormatWords
unfolding FormatWords
format_words g fill =
    let old : home_words g + backup_words g + 2 ≡ length (format_list g fill) = format_length g fill (home_words g + backup_words g + 2) refl in
    long_length g fill ∙ (omega (arith, old))

-- ---- one word

pub bytes_one : {p : ℕ} (place : ℕ) (bytes : List ℕ) {r : ℕ} {m m' : List ℕ} → Lays p (bytes_to place 1 bytes) m m' r → r ≡ 1
unfolding bytes_to
bytes_one place bytes l = l.words

pub fill_one : {p : ℕ} (place fill : ℕ) {r : ℕ} {m m' : List ℕ} → Lays p (fill_to place 1 fill) m m' r → r ≡ 1
unfolding fill_to bytes_to
fill_one place fill l = l.words

-- ---- runs

pub zeroed_lays : (g : Geometry) {start p r : ℕ} {m m' : List ℕ} → start ≡ memory_words g → Lays p (fill_to start 1 0) m m' r → Lays p (first_zeroed g) m m' r
unfolding first_zeroed
zeroed_lays g e l = rw e at l

module _ (g : Geometry) {start p left r1 r2 : ℕ} {m m1 m2 : List ℕ} (e : start ≡ memory_words g) where
  pub header_lays : (header part : List ℕ) → header ≡ header_bytes g → part ≡ drop 8 (header_bytes g) → Lays p (bytes_to (start + 1) 1 part) m m1 r1 → left ≡ p - r1
      → Lays left (bytes_to start 1 header) m1 m2 r2 → Lays p (header_to g) m m2 (r1 + r2)
  unfolding header_to
  header_lays header part h h' l1 q l2 =
      let second : Lays p (bytes_to (memory_words g + 1) 1 (drop 8 (header_bytes g))) m m1 r1 = rw (e, h') at l1 in
      let first : Lays (p - r1) (bytes_to (memory_words g) 1 (header_bytes g)) m1 m2 r2 = rw (e, h, q) at l2 in
      lays_then second first

  pub zeros_lay : Lays p (fill_to start 1 0) m m1 r1 → left ≡ p - r1 → Lays left (fill_to (start + 1) 1 0) m1 m2 r2 → Lays p (zeros_to g) m m2 (r1 + r2)
  unfolding zeros_to
  zeros_lay l1 q l2 =
      let second : Lays (p - r1) (fill_to (memory_words g + 1) 1 0) m1 m2 r2 = rw (e, q) at l2 in
      lays_then (zeroed_lays g e l1) second

pub long_lays : (g : Geometry) (fill : ℕ) {p p1 p2 r1 r2 r3 : ℕ} {m m1 m2 m3 : List ℕ} → Lays p (first_zeroed g) m m1 r1 → p1 ≡ p - r1
    → Lays p1 (format_list g fill) m1 m2 r2 → p2 ≡ p1 - r2 → Lays p2 (header_to g) m2 m3 r3 → Lays p (long_format_list g fill) m m3 (r1 + (r2 + r3))
unfolding long_format_list
long_lays g fill l1 q1 l2 q2 l3 =
    let from2 = lays_then l2 (rw q2 at l3) in
    lays_then l1 (rw q1 at from2)
