-- Decimal and hex digits: how they follow one another, how many there are, and that decimal ones say the number with no zero in front.
use mathlib.Core.Path.{◌≡◌, refl, sym, ap, ◌∙◌}
use mathlib.Core.Bool.{Bool, true, false}
use mathlib.Core.List.{List, [], ◌∷◌, ◌++◌}
use Prim.Native.Nat.{ℕ, zero, suc, ◌+◌, ◌*◌, ◌/◌, ◌%◌, ◌^◌, ◌-◌, ◌≤◌, ◌<◌}
use native.Mathlib.Omega.{arith}
use native.Mathlib.Nat.{not-suc-le-zero, pow-succ'}
use native.Mathlib.Numerals.{add-one}
use borrow.Author.Tests.{lt-ltb, le-ltb, ltb-true, ltb-false}
use lib.Dec.{ltb}
use lib.ListN.{length, set, get_or, take, length-append, get_or-append}
use lib.Seq.{sets, take-suc, length-take-le}
use Rattle.lines.specs.Puts.{Puts}
use Rattle.lines.specs.Lines.{digits, decimal, hex_byte, hex_bytes}
use Rattle.lines.proofs.Places.{puts_then, sets_back}

-- ---- decimal

pub one_digit : (x : ℕ) → x < 10 → decimal x ≡ (48 + x) ∷ []
unfolding decimal digits
one_digit x h = simp (lt-ltb x 10 h)

-- any count of digits above x gives them all
enough : (n m x : ℕ) → x < n → x < m → digits n x ≡ digits m x
unfolding digits
enough zero m x h k = absurd (not-suc-le-zero h)
enough (suc n) zero x h k = absurd (not-suc-le-zero k)
enough (suc n) (suc m) x h k = go (ltb x 10) refl (λ l. enough n m (x / 10) (omega arith) (omega arith))
  where
    go : (b : Bool) → ltb x 10 ≡ b → (10 ≤ x → digits n (x / 10) ≡ digits m (x / 10)) → digits (suc n) x ≡ digits (suc m) x
    go true e f = rw e
    go false e f = rw (e, f (ltb-false x 10 e))

pub more_digits : (x : ℕ) → 10 ≤ x → decimal x ≡ decimal (x / 10) ++ ((48 + x % 10) ∷ [])
unfolding decimal digits
more_digits x h = simp (le-ltb x 10 h) (ap (λ (z : List ℕ). z ++ ((48 + x % 10) ∷ [])) (enough x (suc (x / 10)) (x / 10) (omega arith) (omega arith)))

pub length_one : (x : ℕ) → x < 10 → length (decimal x) ≡ 1
length_one x h = ap length (one_digit x h)

pub length_more : (x : ℕ) → 10 ≤ x → length (decimal x) ≡ length (decimal (x / 10)) + 1
length_more x h = ap length (more_digits x h) ∙ length-append (decimal (x / 10)) ((48 + x % 10) ∷ [])

pub digits_room : (n x : ℕ) → x < 10 ^ suc n → length (decimal x) ≤ suc n
digits_room zero x h = omega (arith, length_one x (omega (arith, pow-succ' 10 0, h)))
digits_room (suc n) x h = go (ltb x 10) refl (digits_room n (x / 10) (omega (arith, pow-succ' 10 (suc n))))
  where
    go : (b : Bool) → ltb x 10 ≡ b → length (decimal (x / 10)) ≤ suc n → length (decimal x) ≤ suc (suc n)
    go true e k = omega (arith, length_one x (ltb-true x 10 e))
    go false e k = omega (arith, length_more x (ltb-false x 10 e))

-- a 64-bit number has at most 20 digits
pub room_64 : (x : ℕ) → x < 18446744073709551616 → length (decimal x) ≤ 20
room_64 x h = digits_room 19 x (omega arith)

-- ---- decimal digits put from the back

-- as many digits as there are
all_digits : (n m x : ℕ) → x < m → length (digits m x) ≤ n → digits n x ≡ digits m x
unfolding digits
all_digits n zero x h k = absurd (not-suc-le-zero h)
all_digits zero (suc m) x h k = absurd (not-suc-le-zero (go (ltb x 10) refl k))
  where
    go : (b : Bool) → ltb x 10 ≡ b → length (digits (suc m) x) ≤ 0 → 1 ≤ 0
    go true e k = rw e at k
    go false e k = omega (arith, simp length-append at (rw e at k))
all_digits (suc n) (suc m) x h k = go (ltb x 10) refl (λ l j. all_digits n m (x / 10) (omega arith) j) k
  where
    go : (b : Bool) → ltb x 10 ≡ b → (10 ≤ x → length (digits m (x / 10)) ≤ n → digits n (x / 10) ≡ digits m (x / 10)) → length (digits (suc m) x) ≤ suc n
        → digits (suc n) x ≡ digits (suc m) x
    go true e f k = rw e
    go false e f k = rw (e, f (ltb-false x 10 e) (omega (arith, simp length-append at (rw e at k))))

-- the last digit behind the others
last_digit : (n x : ℕ) → length (digits (suc n) x) ≡ suc n → (length (digits n (x / 10)) ≡ n) × (digits (suc n) x ≡ digits n (x / 10) ++ ((48 + x % 10) ∷ []))
unfolding digits
last_digit n x h = go (ltb x 10) refl h
  where
    one : (n : ℕ) → x < 10 → 1 ≡ suc n → (length (digits n (x / 10)) ≡ n) × ((48 + x) ∷ [] ≡ digits n (x / 10) ++ ((48 + x % 10) ∷ []))
    one zero l h = (refl, let e : 48 + x ≡ 48 + x % 10 = omega arith in ap (λ (d : ℕ). d ∷ []) e)
    one (suc n) l h = absurd (omega (arith, h))

    go : (b : Bool) → ltb x 10 ≡ b → length (digits (suc n) x) ≡ suc n
        → (length (digits n (x / 10)) ≡ n) × (digits (suc n) x ≡ digits n (x / 10) ++ ((48 + x % 10) ∷ []))
    go true e h = rw e (one n (ltb-true x 10 e) (rw e at h))
    go false e h = rw e (omega (arith, simp length-append at (rw e at h)), refl)

-- once the digits of rest are put too, so many from start on, those of value stand whole
pub record ToPut (value start : ℕ) (slice slice' : List ℕ) (left rest : ℕ) : Type 0 where
  pub count : length (digits left rest) ≡ left
  pub stands : sets slice' start (digits left rest) ≡ sets slice start (decimal value)

pub put_first : (value start left : ℕ) (slice : List ℕ) → left ≡ length (decimal value) → ToPut value start slice slice left value
unfolding decimal
put_first value start left slice e =
    let all : digits left value ≡ decimal value = all_digits left (suc value) value (omega arith) (omega (arith, e)) in
    record { count = ap length all ∙ sym e; stands = ap (sets slice start) all }

pub put_next : {value start left rest : ℕ} {slice slice' : List ℕ} (place d : ℕ) → place ≡ start + left → d ≡ 48 + rest % 10
    → ToPut value start slice slice' (suc left) rest → ToPut value start slice (set slice' place d) left (rest / 10)
put_next {value} {start} {left} {rest} {slice} {slice'} place d p e t =
    let before : List ℕ = digits left (rest / 10) in
    let l = last_digit left rest t.count in
    let q : place ≡ start + length before = p ∙ ap (λ (n : ℕ). start + n) (sym l.0) in
    record {
      count = l.0;
      stands = ap (λ (k : ℕ). sets (set slice' k d) start before) q
          ∙ sets_back before slice' start d
          ∙ ap (λ (z : ℕ). sets slice' start (before ++ (z ∷ []))) e
          ∙ ap (sets slice' start) (sym l.1)
          ∙ t.stands;
    }

pub put_whole : {value start left rest r : ℕ} {slice slice' : List ℕ} → left ≡ 0 → r ≡ start + length (decimal value) → ToPut value start slice slice' left rest
    → Puts (decimal value) start slice slice' r
unfolding digits
put_whole {value} {start} {left} {rest} {r} {slice} {slice'} e a t =
    record { after = a; stands = ap (λ (n : ℕ). sets slice' start (digits n rest)) (sym e) ∙ t.stands }

-- ---- what the digits are

-- every digit is one of the bytes 48 to 57
pub data Digits : List ℕ → Type 0 where
  none : Digits []
  one : {x : ℕ} {xs : List ℕ} → 48 ≤ x → x ≤ 57 → Digits xs → Digits (x ∷ xs)

digits_append : {xs ys : List ℕ} → Digits xs → Digits ys → Digits (xs ++ ys)
digits_append none b = b
digits_append (one l h a) b = one l h (digits_append a b)

are_digits : (n x : ℕ) → Digits (digits n x)
unfolding digits
are_digits zero x = none
are_digits (suc n) x = go (ltb x 10) refl (are_digits n (x / 10))
  where
    go : (b : Bool) → ltb x 10 ≡ b → Digits (digits n (x / 10)) → Digits (digits (suc n) x)
    go true e d = let h : x < 10 = ltb-true x 10 e in rw e (one {x = 48 + x} (omega arith) (omega arith) none)
    go false e d = rw e (digits_append d (one {x = 48 + x % 10} (omega arith) (omega arith) none))

pub decimal_digits : (x : ℕ) → Digits (decimal x)
unfolding decimal
decimal_digits x = are_digits (suc x) x

-- what the digits say, after a number that stands before them
unfoldable pub worth : ℕ → List ℕ → ℕ
worth before [] = before
worth before (d ∷ ds) = worth (10 * before + (d - 48)) ds

worth_back : (before d : ℕ) (xs : List ℕ) → worth before (xs ++ (d ∷ [])) ≡ 10 * worth before xs + (d - 48)
unfolding worth
worth_back before d [] = refl
worth_back before d (x ∷ xs) = worth_back (10 * before + (x - 48)) d xs

digits_worth : (n x : ℕ) → x < n → worth 0 (digits n x) ≡ x
unfolding digits worth
digits_worth zero x h = absurd (not-suc-le-zero h)
digits_worth (suc n) x h = go (ltb x 10) refl (λ l. digits_worth n (x / 10) (omega arith))
  where
    go : (b : Bool) → ltb x 10 ≡ b → (10 ≤ x → worth 0 (digits n (x / 10)) ≡ x / 10) → worth 0 (digits (suc n) x) ≡ x
    go true e f = rw e (omega arith)
    go false e f = rw e (worth_back 0 (48 + x % 10) (digits n (x / 10)) ∙ omega (arith, f (ltb-false x 10 e)))

pub decimal_worth : (x : ℕ) → worth 0 (decimal x) ≡ x
unfolding decimal
decimal_worth x = digits_worth (suc x) x (omega arith)

pub decimal_one : (x y : ℕ) → decimal x ≡ decimal y → x ≡ y
decimal_one x y e = sym (decimal_worth x) ∙ ap (worth 0) e ∙ decimal_worth y

-- no zero in front
first_digit : (n x : ℕ) → x < n → 1 ≤ x → (1 ≤ length (digits n x)) × (49 ≤ get_or (digits n x) 0 0)
unfolding digits
first_digit zero x h k = absurd (not-suc-le-zero h)
first_digit (suc n) x h k = go (ltb x 10) refl (λ l. first_digit n (x / 10) (omega arith) (omega arith))
  where
    go : (b : Bool) → ltb x 10 ≡ b → (10 ≤ x → (1 ≤ length (digits n (x / 10))) × (49 ≤ get_or (digits n (x / 10)) 0 0))
        → (1 ≤ length (digits (suc n) x)) × (49 ≤ get_or (digits (suc n) x) 0 0)
    go true e f = rw e (omega arith, omega arith)
    go false e f =
        let d = f (ltb-false x 10 e) in
        rw e (simp length-append (omega arith), rw (get_or-append (digits n (x / 10)) ((48 + x % 10) ∷ []) 0 0 d.0) d.1)

pub decimal_first : (x : ℕ) → 1 ≤ x → 49 ≤ get_or (decimal x) 0 0
unfolding decimal
decimal_first x h = (first_digit (suc x) x (omega arith) h).1

-- ---- hex

hex_append : (xs ys : List ℕ) → hex_bytes (xs ++ ys) ≡ hex_bytes xs ++ hex_bytes ys
unfolding hex_bytes
hex_append [] ys = refl
hex_append (x ∷ xs) ys = ap (λ (z : List ℕ). hex_byte x ++ z) (hex_append xs ys)

pub length_hex : (bytes : List ℕ) → length (hex_bytes bytes) ≡ 2 * length bytes
unfolding hex_bytes hex_byte
length_hex [] = refl
length_hex (x ∷ bytes) = omega (arith, length_hex bytes)

pub hex_place : {slice slice' : List ℕ} {start place : ℕ} (bytes : List ℕ) (j : ℕ) → j ≤ length bytes → Puts (hex_bytes (take j bytes)) start slice slice' place
    → place ≡ start + 2 * j
hex_place bytes j h p = omega (arith, p.after, length_hex (take j bytes), length-take-le j bytes h)

-- one byte further
pub hex_turn : {slice slice' slice'' : List ℕ} {start place r : ℕ} (bytes : List ℕ) (j : ℕ) → j < length bytes
    → Puts (hex_bytes (take j bytes)) start slice slice' place → Puts (hex_byte (get_or bytes j 0)) place slice' slice'' r
    → Puts (hex_bytes (take (j + 1) bytes)) start slice slice'' r
unfolding hex_bytes
hex_turn bytes j h p q = rw (add-one, take-suc bytes j 0 h, hex_append) (puts_then p q)
