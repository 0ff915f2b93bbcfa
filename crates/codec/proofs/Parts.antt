-- The encoding of a record as its fields, one after another: put so, and found so by the tests.
use mathlib.Core.Path.{◌≡◌, refl, sym, ap, subst, ◌∙◌}
use mathlib.Core.Bool.{Bool, true, false, ◌&&◌, ◌||◌, cond}
use mathlib.Core.List.{List, [], ◌∷◌, ◌++◌, append-nil}
use Prim.Native.Nat.{ℕ, suc, ◌+◌, ◌*◌, ◌/◌, ◌%◌, ◌≤◌, ◌<◌}
use native.Mathlib.Omega.{arith}
use lib.Dec.{eqb}
use lib.ListN.{length, take, drop, get_or, length-append, length-drop, drop_of_length-le, take-append-drop}
use lib.Seq.{drop-cons, drop-drop, get_or-append-add, drop-append-add, length-take-le}
use borrow.Author.Tests.{eqb-true}
use Rattle.words.proofs.Same.{false_is_true}
use Rattle.rules.proofs.Clashes.{and_left, and_right}
use Rattle.rules.specs.declared.Controller.{Controller}
use Rattle.rules.specs.declared.Backup.{Backup}
use Rattle.rules.specs.declared.Backup.TheVariants.{A, B}
use Rattle.rules.specs.declared.Phase.{Phase}
use Rattle.rules.specs.declared.Phase.TheVariants.{Running, Writing, Off}
use Rattle.rules.specs.Checkpoints.{count_of}
use Rattle.lines.specs.Puts.{Puts}
use Rattle.lines.proofs.Places.{puts_then, puts_parts}
use Rattle.fields.specs.Fields.{big_endian, big_number, field, fields_of}
use Rattle.fields.proofs.Numbers.{two_at}
use Rattle.codec.specs.Encoding.{backup_byte, phase_byte, fields_in, encoded}
use Rattle.codec.specs.Supposed.{number_at, backup_for, phase_for, supposed}
use Rattle.codec.specs.Places.{begins_at, has_fields, is_backup, is_phase, tests_hold}
use Rattle.codec.specs.Promises.{Bytes}

-- ---- put

-- a field after others, at the place where they end
pub puts_next : {xs ys slice slice' slice'' : List ℕ} {start place r : ℕ} (next : ℕ) → Puts xs start slice slice' place → start + length xs ≡ next
    → Puts ys next slice' slice'' r → Puts (xs ++ ys) start slice slice'' r
puts_next {xs} {ys} {slice} {slice'} {slice''} {start} {place} {r} next p e q =
    puts_then p (subst (λ (k : ℕ). Puts ys k slice' slice'' r) (sym e ∙ sym p.after) q)

-- bytes that fill the slice
pub puts_all : {bytes slice slice' : List ℕ} {r : ℕ} → Puts bytes 0 slice slice' r → length slice ≡ length bytes → slice' ≡ bytes
puts_all {bytes} {slice} {slice'} {r} p e =
    let past : length slice ≤ r = omega (arith, p.after, e) in
    let none : drop r slice ≡ [] = drop_of_length-le slice past in
    puts_parts p (omega (arith, e)) ∙ ap (λ (rest : List ℕ). bytes ++ rest) none ∙ append-nil bytes

-- ---- the encoding before, at and after the registers

abbrev pub front : Controller → List ℕ
front c =
    1 ∷ 0 ∷ 2 ∷ (c.geometry.blocks / 256 % 256) ∷ (c.geometry.blocks % 256)
    ∷ 2 ∷ 0 ∷ 2 ∷ (c.geometry.slots / 256 % 256) ∷ (c.geometry.slots % 256)
    ∷ 3 ∷ 0 ∷ 64 ∷ []

abbrev pub back : Controller → List ℕ
back c =
    4 ∷ 0 ∷ 1 ∷ backup_byte c.finished
    ∷ 5 ∷ 0 ∷ 1 ∷ phase_byte c.phase
    ∷ 6 ∷ 0 ∷ 2 ∷ (count_of c.phase / 256 % 256) ∷ (count_of c.phase % 256) ∷ []

pub in_parts : (c : Controller) → length c.registers ≡ 64 → encoded c ≡ front c ++ (c.registers ++ back c)
unfolding encoded fields_in fields_of field big_endian
in_parts c e = rw e

pub length-encoded : (c : Controller) → length (encoded c) ≡ 26 + length c.registers
unfolding encoded fields_in fields_of field big_endian
length-encoded c = simp length-append (omega arith)

-- behind the registers
module _ (c : Controller) (e : length c.registers ≡ 64) (k : ℕ) where
  past : 77 + k ≡ length (front c) + (length c.registers + k)
  past = omega (arith, e)

  pub drop_back : drop (77 + k) (encoded c) ≡ drop k (back c)
  drop_back =
      ap (drop (77 + k)) (in_parts c e)
      ∙ ap (λ (n : ℕ). drop n (front c ++ (c.registers ++ back c))) past
      ∙ drop-append-add (front c) (c.registers ++ back c) (length c.registers + k)
      ∙ drop-append-add c.registers (back c) k

  pub get_d_back : get_or (encoded c) (77 + k) 0 ≡ get_or (back c) k 0
  get_d_back =
      ap (λ (bytes : List ℕ). get_or bytes (77 + k) 0) (in_parts c e)
      ∙ ap (λ (n : ℕ). get_or (front c ++ (c.registers ++ back c)) n 0) past
      ∙ get_or-append-add (front c) (c.registers ++ back c) (length c.registers + k) 0
      ∙ get_or-append-add c.registers (back c) k 0

-- ---- the tests pass an encoding

backup_byte_lem : (backup : Backup) → is_backup (backup_byte backup) ≡ true
unfolding is_backup
backup_byte_lem A = refl
backup_byte_lem B = refl

phase_byte_lem : (phase : Phase) → is_phase (phase_byte phase) (big_number (big_endian 2 (count_of phase))) ≡ true
unfolding is_phase big_number big_endian count_of
phase_byte_lem Running = refl
phase_byte_lem (Writing count) = refl
phase_byte_lem Off = refl

pub tests_hold_lem : (c : Controller) → length c.registers ≡ 64 → tests_hold (encoded c) ≡ true
unfolding tests_hold has_fields begins_at number_at big_number big_endian
tests_hold_lem c e =
    let heads : (k : ℕ) → get_or (encoded c) k 0 ≡ get_or (front c ++ (c.registers ++ back c)) k 0 = λ k. ap (λ (bytes : List ℕ). get_or bytes k 0) (in_parts c e) in
    rw (
      heads 0,
      heads 1,
      heads 2,
      heads 5,
      heads 6,
      heads 7,
      heads 10,
      heads 11,
      heads 12,
      get_d_back c e 0,
      get_d_back c e 1,
      get_d_back c e 2,
      get_d_back c e 3,
      get_d_back c e 4,
      get_d_back c e 5,
      get_d_back c e 6,
      get_d_back c e 7,
      get_d_back c e 8,
      get_d_back c e 9,
      get_d_back c e 10,
      drop_back c e 11,
      backup_byte_lem c.finished,
    ) (phase_byte_lem c.phase)

-- ---- what the tests pass is an encoding

pub both : (a b : Bool) → (a && b) ≡ true → (a ≡ true) × (b ≡ true)
both a b e = (and_left a b e, and_right a b e)

three_at : (bytes : List ℕ) (start : ℕ) → start + 3 ≤ length bytes
    → drop start bytes ≡ get_or bytes start 0 ∷ get_or bytes (start + 1) 0 ∷ get_or bytes (start + 2) 0 ∷ drop (start + 3) bytes
three_at bytes start h =
    let one : suc start ≡ start + 1 = omega arith in
    let two : suc (start + 1) ≡ start + 2 = omega arith in
    let three : suc (start + 2) ≡ start + 3 = omega arith in
    let third = drop-cons bytes (start + 2) 0 (omega arith) ∙ ap (λ (k : ℕ). get_or bytes (start + 2) 0 ∷ drop k bytes) three in
    let second = drop-cons bytes (start + 1) 0 (omega arith) ∙ ap (λ (k : ℕ). get_or bytes (start + 1) 0 ∷ drop k bytes) two ∙ ap (λ (z : List ℕ). get_or bytes (start + 1) 0 ∷ z) third in
    drop-cons bytes start 0 (omega arith) ∙ ap (λ (k : ℕ). get_or bytes start 0 ∷ drop k bytes) one ∙ ap (λ (z : List ℕ). get_or bytes start 0 ∷ z) second

cells : {a a' b b' c c' : ℕ} {z z' : List ℕ} → a ≡ a' → b ≡ b' → c ≡ c' → z ≡ z' → ◌≡◌ {A = List ℕ} (a ∷ b ∷ c ∷ z) (a' ∷ b' ∷ c' ∷ z')
cells p q r s = cc

-- a field that begins at a place, and what stands behind it
begins : (bytes : List ℕ) (start tag size : ℕ) → size < 256 → start + 3 + size ≤ length bytes → begins_at bytes start tag size ≡ true
    → drop start bytes ≡ field tag (take size (drop (start + 3) bytes)) ++ drop (start + 3 + size) bytes
unfolding field big_endian begins_at
begins bytes start tag size small room e =
    let three = both (eqb (get_or bytes start 0) tag && eqb (get_or bytes (start + 1) 0) 0) (eqb (get_or bytes (start + 2) 0) size) e in
    let two = both (eqb (get_or bytes start 0) tag) (eqb (get_or bytes (start + 1) 0) 0) three.0 in
    let value = take size (drop (start + 3) bytes) in
    let whole : length value ≡ size = length-take-le size (drop (start + 3) bytes) (simp length-drop (omega arith)) in
    let high : 0 ≡ length value / 256 % 256 = omega (arith, whole) in
    let low : size ≡ length value % 256 = omega (arith, whole) in
    let rest : drop (start + 3) bytes ≡ value ++ drop (start + 3 + size) bytes =
    sym (take-append-drop size (drop (start + 3) bytes)) ∙ ap (λ (z : List ℕ). value ++ z) (drop-drop size (start + 3) bytes) in
    three_at bytes start (omega arith) ∙ cells (eqb-true _ _ two.0) (eqb-true _ _ two.1 ∙ high) (eqb-true _ _ three.1 ∙ low) rest

pub number_of_two : (bytes : List ℕ) (place : ℕ) → place + 2 ≤ length bytes → number_at bytes place ≡ 256 * get_or bytes place 0 + get_or bytes (place + 1) 0
unfolding number_at big_number
number_of_two bytes place h = ap big_number (two_at bytes place h) ∙ omega arith

-- two bytes are those of their number
two_back : (bytes : List ℕ) (place : ℕ) → Bytes bytes → place + 2 ≤ length bytes → take 2 (drop place bytes) ≡ big_endian 2 (number_at bytes place)
unfolding big_endian
two_back bytes place below h =
    let x = get_or bytes place 0 in
    let y = get_or bytes (place + 1) 0 in
    let pair : take 2 (drop place bytes) ≡ x ∷ (y ∷ []) = two_at bytes place h in
    let n : number_at bytes place ≡ 256 * x + y = number_of_two bytes place h in
    let high : x ≡ number_at bytes place / 256 % 256 = omega (arith, n, below place, below (place + 1)) in
    let low : y ≡ number_at bytes place % 256 = omega (arith, n, below place, below (place + 1)) in
    pair ∙ ap (λ (k : ℕ). k ∷ (y ∷ [])) high ∙ ap (λ (k : ℕ). (number_at bytes place / 256 % 256) ∷ (k ∷ [])) low

one_back : (bytes : List ℕ) (place : ℕ) → place + 1 ≤ length bytes → take 1 (drop place bytes) ≡ get_or bytes place 0 ∷ []
one_back bytes place h = rw (drop-cons bytes place 0 (omega arith))

backup_cases : (byte : ℕ) (one two : Bool) → eqb byte 1 ≡ one → eqb byte 2 ≡ two → (one || two) ≡ true → byte ≡ backup_byte (cond one A B)
backup_cases byte true two p q e = eqb-true byte 1 p
backup_cases byte false true p q e = eqb-true byte 2 q
backup_cases byte false false p q e = absurd (false_is_true e)

backup_back : (byte : ℕ) → is_backup byte ≡ true → byte ≡ backup_byte (backup_for byte)
unfolding is_backup backup_for
backup_back byte e = backup_cases byte (eqb byte 1) (eqb byte 2) refl refl e

phase_cases : (byte count : ℕ) (zero one two none : Bool) → eqb byte 0 ≡ zero → eqb byte 1 ≡ one → eqb byte 2 ≡ two → eqb count 0 ≡ none
    → (one || (none && (zero || two))) ≡ true
    → (byte ≡ phase_byte (cond zero Running (cond one (Writing count) Off))) × (count ≡ count_of (cond zero Running (cond one (Writing count) Off)))
unfolding count_of
phase_cases byte count true true two none p q s z e = absurd (omega (arith, eqb-true byte 0 p, eqb-true byte 1 q))
phase_cases byte count true false two true p q s z e = (eqb-true byte 0 p, eqb-true count 0 z)
phase_cases byte count true false two false p q s z e = absurd (false_is_true e)
phase_cases byte count false true two none p q s z e = (eqb-true byte 1 q, refl)
phase_cases byte count false false true true p q s z e = (eqb-true byte 2 s, eqb-true count 0 z)
phase_cases byte count false false true false p q s z e = absurd (false_is_true e)
phase_cases byte count false false false true p q s z e = absurd (false_is_true e)
phase_cases byte count false false false false p q s z e = absurd (false_is_true e)

phase_back : (byte count : ℕ) → is_phase byte count ≡ true → (byte ≡ phase_byte (phase_for byte count)) × (count ≡ count_of (phase_for byte count))
unfolding is_phase phase_for
phase_back byte count e = phase_cases byte count (eqb byte 0) (eqb byte 1) (eqb byte 2) (eqb count 0) refl refl refl refl e

on : (part : List ℕ) {bytes rest rest' : List ℕ} → bytes ≡ part ++ rest → rest ≡ rest' → bytes ≡ part ++ rest'
on part p q = p ∙ ap (λ (z : List ℕ). part ++ z) q

module _ (bytes : List ℕ) (below : Bytes bytes) (size : length bytes ≡ 90) (passed : tests_hold bytes ≡ true) where
  outer : (has_fields bytes && is_backup (get_or bytes 80 0) ≡ true) × (is_phase (get_or bytes 84 0) (number_at bytes 88) ≡ true)
  unfolding tests_hold
  outer = both (has_fields bytes && is_backup (get_or bytes 80 0)) (is_phase (get_or bytes 84 0) (number_at bytes 88)) passed

  inner : (has_fields bytes ≡ true) × (is_backup (get_or bytes 80 0) ≡ true)
  inner = both (has_fields bytes) (is_backup (get_or bytes 80 0)) outer.0

  pub is_encoding : bytes ≡ encoded (supposed bytes)
  unfolding has_fields encoded fields_in fields_of supposed
  is_encoding =
      let five = both ((((begins_at bytes 0 1 2 && begins_at bytes 5 2 2) && begins_at bytes 10 3 64) && begins_at bytes 77 4 1) && begins_at bytes 81 5 1) (begins_at bytes 85 6 2) inner.0 in
      let four = both (((begins_at bytes 0 1 2 && begins_at bytes 5 2 2) && begins_at bytes 10 3 64) && begins_at bytes 77 4 1) (begins_at bytes 81 5 1) five.0 in
      let three = both ((begins_at bytes 0 1 2 && begins_at bytes 5 2 2) && begins_at bytes 10 3 64) (begins_at bytes 77 4 1) four.0 in
      let two = both (begins_at bytes 0 1 2 && begins_at bytes 5 2 2) (begins_at bytes 10 3 64) three.0 in
      let one = both (begins_at bytes 0 1 2) (begins_at bytes 5 2 2) two.0 in
      let phase = phase_back (get_or bytes 84 0) (number_at bytes 88) outer.1 in
      let past : length bytes ≤ 90 = omega (arith, size) in
      let sixth = begins bytes 85 6 2 (omega arith) (omega (arith, size)) five.1 ∙ ap (λ (value : List ℕ). field 6 value ++ drop 90 bytes) (two_back bytes 88 below (omega (arith, size)) ∙ ap (big_endian 2) phase.1) ∙ ap (λ (z : List ℕ). field 6 (big_endian 2 (count_of (supposed bytes).phase)) ++ z) (drop_of_length-le bytes past) in
      let fifth = begins bytes 81 5 1 (omega arith) (omega (arith, size)) four.1 ∙ ap (λ (value : List ℕ). field 5 value ++ drop 85 bytes) (one_back bytes 84 (omega (arith, size)) ∙ ap (λ (b : ℕ). b ∷ []) phase.0) in
      let fourth = begins bytes 77 4 1 (omega arith) (omega (arith, size)) three.1 ∙ ap (λ (value : List ℕ). field 4 value ++ drop 81 bytes) (one_back bytes 80 (omega (arith, size)) ∙ ap (λ (b : ℕ). b ∷ []) (backup_back (get_or bytes 80 0) inner.1)) in
      let third = begins bytes 10 3 64 (omega arith) (omega (arith, size)) two.1 in
      let second = begins bytes 5 2 2 (omega arith) (omega (arith, size)) one.1 ∙ ap (λ (value : List ℕ). field 2 value ++ drop 10 bytes) (two_back bytes 8 below (omega (arith, size))) in
      let first = begins bytes 0 1 2 (omega arith) (omega (arith, size)) one.0 ∙ ap (λ (value : List ℕ). field 1 value ++ drop 5 bytes) (two_back bytes 3 below (omega (arith, size))) in
      let c = supposed bytes in
      on (field 1 (big_endian 2 c.geometry.blocks)) first
      (on (field 2 (big_endian 2 c.geometry.slots)) second
      (on (field 3 c.registers) third
      (on (field 4 (backup_byte c.finished ∷ [])) fourth
      (on (field 5 (phase_byte c.phase ∷ [])) fifth
      sixth))))
