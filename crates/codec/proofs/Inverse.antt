-- Encode and decode are inverse, so each record has one encoding (document 02, No. 4).
use mathlib.Core.Path.{◌≡◌, refl, sym, ap, ◌∙◌}
use mathlib.Core.Bool.{Bool, true, false, cond}
use mathlib.Core.List.{List, [], ◌∷◌, ◌++◌}
use Prim.Native.Nat.{ℕ, ◌+◌, ◌≤◌, ◌<◌}
use native.Mathlib.Omega.{arith}
use lib.Dec.{eqb}
use lib.ListN.{length, take, drop, get_or, length-take, length-drop}
use lib.Seq.{take_at}
use borrow.Author.Tests.{eqb-true, eq-eqb}
use Rattle.words.proofs.Same.{false_is_true}
use Rattle.rules.specs.declared.Controller.{Controller}
use Rattle.rules.specs.declared.Backup.{Backup}
use Rattle.rules.specs.declared.Backup.TheVariants.{A, B}
use Rattle.rules.specs.declared.Phase.{Phase}
use Rattle.rules.specs.declared.Phase.TheVariants.{Running, Writing, Off}
use Rattle.rules.specs.Checkpoints.{count_of}
use Rattle.fields.specs.Fields.{big_endian, big_number, field, fields_of}
use Rattle.fields.proofs.Numbers.{number_of_bytes}
use Rattle.codec.specs.Encoding.{backup_byte, phase_byte, fields_in, encoded, Fits}
use Rattle.codec.specs.Supposed.{number_at, backup_for, phase_for, supposed, same, is_record}
use Rattle.codec.specs.Places.{tests_hold}
use Rattle.codec.specs.Promises as P
use Rattle.codec.proofs.Parts.{both, front, back, in_parts, length-encoded, drop_back, get_d_back, number_of_two, tests_hold_lem, is_encoding}

-- ---- bytes compared

same_equal : (xs ys : List ℕ) → same xs ys ≡ true → xs ≡ ys
unfolding same
same_equal [] [] e = refl
same_equal [] (y ∷ ys) e = absurd (false_is_true e)
same_equal (x ∷ xs) [] e = absurd (false_is_true e)
same_equal (x ∷ xs) (y ∷ ys) e =
    let two = both (eqb x y) (same xs ys) e in
    let first = eqb-true x y two.0 in
    let rest = same_equal xs ys two.1 in
    cc

pub same_itself : (xs : List ℕ) → same xs xs ≡ true
unfolding same
same_itself [] = refl
same_itself (x ∷ xs) = rw (eq-eqb x x refl) (same_itself xs)

pub record_is : (bytes : List ℕ) → is_record bytes ≡ true → bytes ≡ encoded (supposed bytes)
unfolding is_record
record_is bytes e = same_equal bytes (encoded (supposed bytes)) e

pub is_record_lem : (bytes : List ℕ) → bytes ≡ encoded (supposed bytes) → is_record bytes ≡ true
unfolding is_record
is_record_lem bytes e = ap (same bytes) (sym e) ∙ same_itself bytes

-- ---- what the code's tests say

-- no record has another length
pub ninety_only : (bytes : List ℕ) → bytes ≡ encoded (supposed bytes) → length bytes ≡ 90
unfolding supposed
ninety_only bytes e =
    let l : length bytes ≡ 26 + length (take 64 (drop 13 bytes)) = ap length e ∙ length-encoded (supposed bytes) in
    omega (arith, l, length-take 64 (drop 13 bytes), length-drop 13 bytes)

registers_size : (bytes : List ℕ) → length bytes ≡ 90 → length (supposed bytes).registers ≡ 64
unfolding supposed
registers_size bytes e = omega (arith, e, length-take 64 (drop 13 bytes), length-drop 13 bytes)

same_bool : (a b : Bool) → (a ≡ true → b ≡ true) → (b ≡ true → a ≡ true) → a ≡ b
same_bool true b f g = sym (f refl)
same_bool false true f g = g refl
same_bool false false f g = refl

pub tests_are : (bytes : List ℕ) → P.Bytes bytes → length bytes ≡ 90 → tests_hold bytes ≡ is_record bytes
tests_are bytes below size =
    same_bool (tests_hold bytes) (is_record bytes)
    (λ passed. is_record_lem bytes (is_encoding bytes below size passed))
    (λ e. ap tests_hold (record_is bytes e) ∙ tests_hold_lem (supposed bytes) (registers_size bytes size))

pub other_length : (bytes : List ℕ) → (length bytes ≡ 90 → ⊥) → false ≡ is_record bytes
other_length bytes no-ninety = same_bool false (is_record bytes) (λ e. absurd (false_is_true e)) (λ e. absurd (no-ninety (ninety_only bytes (record_is bytes e))))

-- ---- decoded back

backup_for_lem : (backup : Backup) → backup_for (backup_byte backup) ≡ backup
unfolding backup_for
backup_for_lem A = refl
backup_for_lem B = refl

phase_for_lem : (phase : Phase) → phase_for (phase_byte phase) (count_of phase) ≡ phase
unfolding phase_for count_of
phase_for_lem Running = refl
phase_for_lem (Writing count) = refl
phase_for_lem Off = refl

module _ (c : Controller) (fits : Fits c) where
  at_front : (k : ℕ) → drop k (encoded c) ≡ drop k (front c ++ (c.registers ++ back c))
  at_front k = ap (drop k) (in_parts c fits.registers)

  blocks_back : number_at (encoded c) 3 ≡ c.geometry.blocks
  unfolding number_at big_endian
  blocks_back = ap (λ (z : List ℕ). big_number (take 2 z)) (at_front 3) ∙ number_of_bytes 2 c.geometry.blocks fits.blocks

  slots_back : number_at (encoded c) 8 ≡ c.geometry.slots
  unfolding number_at big_endian
  slots_back = ap (λ (z : List ℕ). big_number (take 2 z)) (at_front 8) ∙ number_of_bytes 2 c.geometry.slots fits.slots

  registers_back : take 64 (drop 13 (encoded c)) ≡ c.registers
  registers_back = ap (take 64) (at_front 13) ∙ take_at c.registers (back c) 64 fits.registers

  finished_back : backup_for (get_or (encoded c) 80 0) ≡ c.finished
  finished_back = ap backup_for (get_d_back c fits.registers 3) ∙ backup_for_lem c.finished

  count_back : number_at (encoded c) 88 ≡ count_of c.phase
  unfolding number_at big_endian
  count_back = ap (λ (z : List ℕ). big_number (take 2 z)) (drop_back c fits.registers 11) ∙ number_of_bytes 2 (count_of c.phase) fits.count

  phase_back : phase_for (get_or (encoded c) 84 0) (number_at (encoded c) 88) ≡ c.phase
  phase_back =
      ap (λ (b : ℕ). phase_for b (number_at (encoded c) 88)) (get_d_back c fits.registers 7)
      ∙ ap (phase_for (phase_byte c.phase)) count_back
      ∙ phase_for_lem c.phase

  pub supposed_back : supposed (encoded c) ≡ c
  unfolding supposed
  supposed_back = rw (blocks_back, slots_back, registers_back, finished_back, phase_back)

pub decodes_back : P.DecodesBack
unfolding P.DecodesBack
decodes_back c fits = let e = supposed_back c fits in (is_record_lem (encoded c) (sym (ap encoded e)), e)

pub ninety : P.Ninety
unfolding P.Ninety
ninety c fits = length-encoded c ∙ omega (arith, fits.registers)

pub new_host_bytes : P.NewHostBytes
unfolding P.NewHostBytes encoded fields_in fields_of field big_endian count_of
new_host_bytes = refl

pub one_encoding : P.OneEncoding
unfolding P.OneEncoding
one_encoding bytes bytes' c e e' = e.bytes_of ∙ sym e'.bytes_of

pub one_record : P.OneRecord
unfolding P.OneRecord
one_record bytes c c' e e' = sym (supposed_back c e.fits) ∙ ap supposed (sym e.bytes_of ∙ e'.bytes_of) ∙ supposed_back c' e'.fits

pub no_other : P.NoOther
unfolding P.NoOther P.DecodesBack
no_other bytes c e = rw e.bytes_of (decodes_back c e.fits)

-- ---- encoded back

number_small : (bytes : List ℕ) (place : ℕ) → P.Bytes bytes → place + 2 ≤ length bytes → number_at bytes place < 65536
number_small bytes place below h = omega (arith, number_of_two bytes place h, below place, below (place + 1))

count_small : (zero one : Bool) (count : ℕ) → count < 65536 → count_of (cond zero Running (cond one (Writing count) Off)) < 65536
unfolding count_of
count_small true one count h = omega arith
count_small false true count h = h
count_small false false count h = omega arith

pub encodes_back : P.EncodesBack
unfolding P.EncodesBack supposed phase_for
encodes_back bytes below e =
    let is = record_is bytes e in
    let size = ninety_only bytes is in
    record {
      fits = record {
        blocks = number_small bytes 3 below (omega (arith, size));
        slots = number_small bytes 8 below (omega (arith, size));
        registers = registers_size bytes size;
        count = count_small (eqb (get_or bytes 84 0) 0) (eqb (get_or bytes 84 0) 1) (number_at bytes 88) (number_small bytes 88 below (omega (arith, size)));
      };
      bytes_of = is;
    }
