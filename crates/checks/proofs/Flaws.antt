-- Flaws of table words, gathered by `|`: they are 0 in the watched bits exactly where every word is well formed.
use Rattle.std.proofs.Common.{◌≡◌, ℕ, ◌+◌, ◌-◌, ◌*◌, ◌/◌, ◌%◌, ◌^◌, ◌<◌, ◌≤◌, Bool, true, false, cond, ◌&&◌, eqb, ltb, leb, List, [], length, get_or, take, sym, refl, ap, ◌∙◌, arith, ltb-false, ltb-true, lt-ltb, eq-eqb, eqb-true, le-leb, leb-true}
use lib.Bits.{bit_or, or_add_and, and_le_l, and_le_r, or_shr, or_mod, or_zero_l}
use Rattle.rules.specs.declared.Geometry.{Geometry}
use Rattle.rules.specs.TableWords.{every}
use Rattle.rules.specs.Numbers.{well_formed}
use Rattle.rules.proofs.Clashes.{and_left, and_right}
use Rattle.checks.specs.Tables.{allowed_while}
use Rattle.checks.specs.Forms.{margin_of, flawless, calm, all_formed}
use Rattle.checks.proofs.Words.{formed_is}
use Rattle.checks.proofs.Walking.{every_more}

-- ---- tests of an or

-- two tests that follow from each other are the same
same_test : (a b : Bool) → (a ≡ true → b ≡ true) → (b ≡ true → a ≡ true) → a ≡ b
same_test true b f g = sym (f refl)
same_test false false f g = refl
same_test false true f g = g refl

both : (a b : Bool) → a ≡ true → b ≡ true → a && b ≡ true
both a b e f = rw (e, f)

or_clear : (a b : ℕ) → eqb (bit_or a b) 0 ≡ eqb a 0 && eqb b 0
or_clear a b =
    same_test (eqb (bit_or a b) 0) (eqb a 0 && eqb b 0)
    (λ e.
    let z : bit_or a b ≡ 0 = eqb-true (bit_or a b) 0 e in
    let s = or_add_and a b in
    let l = and_le_l a b in
    let r = and_le_r a b in
    both (eqb a 0) (eqb b 0) (eq-eqb a 0 (omega arith)) (eq-eqb b 0 (omega arith)))
    (λ e.
    let x : a ≡ 0 = eqb-true a 0 (and_left (eqb a 0) (eqb b 0) e) in
    let y : b ≡ 0 = eqb-true b 0 (and_right (eqb a 0) (eqb b 0) e) in
    eq-eqb (bit_or a b) 0 (rw (x, y) (or_zero_l 0)))

-- the bits from k on
or_high : (k a b : ℕ) → eqb (bit_or a b / 2 ^ k) 0 ≡ eqb (a / 2 ^ k) 0 && eqb (b / 2 ^ k) 0
or_high k a b = ap (λ (z : ℕ). eqb z 0) (or_shr a b k) ∙ or_clear (a / 2 ^ k) (b / 2 ^ k)

-- bit k
or_bit : (k a b : ℕ) → eqb (bit_or a b / 2 ^ k % 2 ^ 1) 0 ≡ eqb (a / 2 ^ k % 2 ^ 1) 0 && eqb (b / 2 ^ k % 2 ^ 1) 0
or_bit k a b =
    ap (λ (z : ℕ). eqb (z % 2 ^ 1) 0) (or_shr a b k) ∙ ap (λ (z : ℕ). eqb z 0) (or_mod (a / 2 ^ k) (b / 2 ^ k) 1)
    ∙ or_clear (a / 2 ^ k % 2 ^ 1) (b / 2 ^ k % 2 ^ 1)

crossed : (a b c d : Bool) → (a && b) && (c && d) ≡ (a && c) && (b && d)
crossed true true c d = refl
crossed true false true d = refl
crossed true false false d = refl
crossed false b c d = refl

pub flawless_or : (a b : ℕ) → flawless (bit_or a b) ≡ flawless a && flawless b
unfolding flawless
flawless_or a b = rw (or_high 20 a b, or_bit 7 a b) (crossed (eqb (a / 1048576) 0) (eqb (b / 1048576) 0) (eqb (a / 128 % 2) 0) (eqb (b / 128 % 2) 0))

calm_or : (a b : ℕ) → calm (bit_or a b) ≡ calm a && calm b
unfolding calm
calm_or a b = or_bit 1 a b

pub all_formed_is : (flawed seen : ℕ) → (eqb (flawed / 1048576) 0 && eqb (flawed / 128 % 2) 0) && eqb (seen / 2 % 2) 0 ≡ all_formed flawed seen
unfolding all_formed flawless calm
all_formed_is flawed seen = refl

-- ---- one word

-- the numbers behind a word without flaws
clear : (n : ℕ) → flawless n ≡ true → (n / 1048576 ≡ 0) × (n / 128 % 2 ≡ 0)
unfolding flawless
clear n e =
    let a = eqb (n / 1048576) 0 in
    let b = eqb (n / 128 % 2) 0 in
    (eqb-true (n / 1048576) 0 (and_left a b e), eqb-true (n / 128 % 2) 0 (and_right a b e))

is_clear : (n : ℕ) → n / 1048576 ≡ 0 → n / 128 % 2 ≡ 0 → flawless n ≡ true
unfolding flawless
is_clear n e f = both (eqb (n / 1048576) 0) (eqb (n / 128 % 2) 0) (eq-eqb (n / 1048576) 0 e) (eq-eqb (n / 128 % 2) 0 f)

module _ (g : Geometry) (some_block : 1 ≤ g.blocks) (blocks : g.blocks ≤ 4096) (word low sum : ℕ)
    (small : word < 1099511627776 → low ≡ word - 1) (large : 1099511627776 ≤ word → 1048576 ≤ low) (s : sum ≡ (low + margin_of g) % 18446744073709551616) where
  abbrev upper : Bool
  upper = leb word (256 * g.blocks)

  abbrev lower : Bool
  lower = ltb ((word - 1) % 256) 5

  no_flaw : flawless low && flawless sum ≡ true → upper && lower && true ≡ true
  no_flaw e = go (ltb word 1099511627776) refl
    where
      l : (low / 1048576 ≡ 0) × (low / 128 % 2 ≡ 0)
      l = clear low (and_left (flawless low) (flawless sum) e)

      r : (sum / 1048576 ≡ 0) × (sum / 128 % 2 ≡ 0)
      r = clear sum (and_right (flawless low) (flawless sum) e)

      go : (b : Bool) → ltb word 1099511627776 ≡ b → upper && lower && true ≡ true
      go true t =
          let q = small (ltb-true word 1099511627776 t) in
          let l0 = l.0 in
          let l1 = l.1 in
          let r0 = r.0 in
          let r1 = r.1 in
          both (upper && lower) true
          (both upper lower (le-leb word (256 * g.blocks) (omega arith)) (lt-ltb ((word - 1) % 256) 5 (omega arith)))
          refl
      go false t = let q = large (ltb-false word 1099511627776 t) in let l0 = l.0 in absurd (omega arith)

  a_flaw_less : upper && lower && true ≡ true → flawless low && flawless sum ≡ true
  a_flaw_less e =
      let ab : upper && lower ≡ true = and_left (upper && lower) true e in
      let u : word ≤ 256 * g.blocks = leb-true word (256 * g.blocks) (and_left upper lower ab) in
      let d : (word - 1) % 256 < 5 = ltb-true ((word - 1) % 256) 5 (and_right upper lower ab) in
      let q : low ≡ word - 1 = small (omega arith) in
      both (flawless low) (flawless sum) (is_clear low (omega arith) (omega arith)) (is_clear sum (omega arith) (omega arith))

  pub flaws_word : flawless (bit_or low sum) ≡ well_formed (allowed_while false) g word
  flaws_word = flawless_or low sum ∙ same_test (flawless low && flawless sum) (upper && lower && true) no_flaw a_flaw_less ∙ formed_is false g word (word - 1) refl

-- ---- all words

-- the phase, where the word has no flaw
column_is : (writing : Bool) (g : Geometry) (word : ℕ)
    → well_formed (allowed_while false) g word && calm (cond writing word 0) ≡ well_formed (allowed_while writing) g word
unfolding calm
column_is false g word = and_yes (well_formed (allowed_while false) g word)
  where
    and_yes : (b : Bool) → b && true ≡ b
    and_yes true = refl
    and_yes false = refl
column_is true g word =
    drop_true (leb word (256 * g.blocks) && ltb ((word - 1) % 256) 5) (well_formed (allowed_while false) g word) (eqb (word / 2 % 2) 0)
    (formed_is false g word (word - 1) refl)
    ∙ formed_is true g word (word - 1) refl
  where
    drop_true : (a b t : Bool) → a && true ≡ b → b && t ≡ a && t
    drop_true true b t e = rw (← e)
    drop_true false b t e = rw (← e)

pub none_gathered : (test : ℕ → Bool) → all_formed 0 0 ≡ every test []
unfolding all_formed flawless calm every
none_gathered test = refl

pub gathered : (writing : Bool) (g : Geometry) (table : List ℕ) (i flawed seen f w : ℕ) → i < length table
    → all_formed flawed seen ≡ every (well_formed (allowed_while writing) g) (take i table)
    → flawless f ≡ well_formed (allowed_while false) g (get_or table i 0)
    → w ≡ cond writing (get_or table i 0) 0
    → all_formed (bit_or flawed f) (bit_or seen w) ≡ every (well_formed (allowed_while writing) g) (take (i + 1) table)
unfolding all_formed
gathered writing g table i flawed seen f w h e q s =
    let word = get_or table i 0 in
    let here : flawless f && calm w ≡ well_formed (allowed_while writing) g word = (rw (q, s) (column_is writing g word)) in
    (rw (flawless_or flawed f, calm_or seen w) (crossed (flawless flawed) (flawless f) (calm seen) (calm w)))
    ∙ every_more (well_formed (allowed_while writing) g) table i h e here
