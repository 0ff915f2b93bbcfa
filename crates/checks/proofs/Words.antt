-- One table word: when it is well formed, and whether it names a block.
use Rattle.std.proofs.Common.{◌≡◌, ℕ, zero, suc, ◌-◌, ◌*◌, ◌/◌, ◌%◌, ◌<◌, ◌≤◌, Bool, true, false, cond, not, ◌&&◌, ◌||◌, eqb, ltb, leb, ◌≢◌, ◌⊎◌, sym, refl, ap, ◌∙◌, inl, inr, ⊎_elim, arith, ltb-true, le-ltb, lt-ltb, eq-eqb, ne_eqb, eqb-true, le-leb, leb-true, Option, None, Some}
use borrow.Author.Tests.{eqb-false, not-true}
use Rattle.rules.specs.declared.Geometry.{Geometry}
use Rattle.rules.specs.declared.Phase.{Phase}
use Rattle.rules.specs.declared.Phase.TheVariants.{Running, Writing, Off}
use Rattle.rules.specs.declared.State.{State}
use Rattle.rules.specs.declared.State.TheVariants.{Clean, Dirty, Hidden, PreHidden, PreDirty}
use Rattle.rules.specs.TableWords.{code_of, word_of, state_for, Says, free, names, neither, says_of, says}
use Rattle.rules.specs.Numbers.{is_writing, allows, while_writing, well_said, well_formed}
use Rattle.rules.proofs.Clashes.{false_true, none_some, and_left, and_right}
use Rattle.rules.proofs.TableWordLaws.{code_low, code_high, code_state, says_word, names_word, free_word}
use Rattle.rules.proofs.Finding.{Skips}
use Rattle.checks.specs.Tables.{allowed_while, FormedWord, of_block, wanted}

-- two tests of orders that follow from each other are the same
leb_ltb : (a b c d : ℕ) → (a ≤ b → c < d) → (c < d → a ≤ b) → leb a b ≡ ltb c d
leb_ltb a b c d f g = go (leb a b) (ltb c d) refl refl
  where
    go : (s t : Bool) → leb a b ≡ s → ltb c d ≡ t → leb a b ≡ ltb c d
    go true t p q = p ∙ sym (lt-ltb c d (f (leb-true a b p)))
    go false false p q = p ∙ sym q
    go false true p q = le-leb a b (g (ltb-true c d q)) ∙ sym q

-- ---- well formed

-- the phase's column
pub column : (phase : Phase) → allows phase ≡ allowed_while (is_writing phase)
unfolding allows allowed_while
column Running = refl
column (Writing count) = refl
column Off = refl

-- of the codes 1 to 5, Writing forbids 2 and 3
allowed_is : (writing : Bool) (state : State) → not writing || eqb (code_of state / 2 % 2) 0 ≡ allowed_while writing state
unfolding allowed_while while_writing
allowed_is false state = refl
allowed_is true Clean = refl
allowed_is true Dirty = refl
allowed_is true Hidden = refl
allowed_is true PreHidden = refl
allowed_is true PreDirty = refl

-- a code that stands for no state is 0, or above 5
no_state : (code : ℕ) → state_for code ≡ None → (code ≡ 0) ⊎ (6 ≤ code)
unfolding state_for
no_state zero e = inl refl
no_state (suc zero) e = absurd (none_some _ (sym e))
no_state (suc (suc zero)) e = absurd (none_some _ (sym e))
no_state (suc (suc (suc zero))) e = absurd (none_some _ (sym e))
no_state (suc (suc (suc (suc zero)))) e = absurd (none_some _ (sym e))
no_state (suc (suc (suc (suc (suc zero))))) e = absurd (none_some _ (sym e))
no_state (suc (suc (suc (suc (suc (suc code)))))) e = inr (omega arith)

all_true : (a b c : Bool) → a ≡ true → b ≡ true → c ≡ true → a && b && c ≡ true
all_true a b c e f g = rw (e, f, g)

outer : (a b c x y : Bool) → a ≡ x → b ≡ true → c ≡ y → a && b && c ≡ x && y
outer true b c x y e f g = rw (← e, f, g)
outer false b c x y e f g = rw (← e)

middle : (a b c : Bool) → b ≡ false → a && b && c ≡ false
middle true b c e = rw e
middle false b c e = refl

or_true : (a b : Bool) → b ≡ true → a || b ≡ true
or_true true b e = refl
or_true false b e = e

pub formed_is : (writing : Bool) (g : Geometry) (word less : ℕ) → less ≡ word - 1
    → leb word (256 * g.blocks) && ltb (less % 256) 5 && (not writing || eqb (word / 2 % 2) 0) ≡ well_formed (allowed_while writing) g word
unfolding well_formed well_said says says_of
formed_is writing g word less l = go (eqb word 0) refl
  where
    tests : Bool
    tests = leb word (256 * g.blocks) && ltb (less % 256) 5 && (not writing || eqb (word / 2 % 2) 0)

    named : (o : Option State) → state_for (word % 256) ≡ o → word ≢ 0 → tests ≡ well_said (allowed_while writing) g (says_of (word / 256) o)
    named None q ne =
        middle (leb word (256 * g.blocks)) (ltb (less % 256) 5) _
        (⊎_elim (λ h. le-ltb (less % 256) 5 (omega arith)) (λ h. le-ltb (less % 256) 5 (omega arith)) (no_state (word % 256) q))
    named (Some state) q ne =
        let c : word % 256 ≡ code_of state = code_state (word % 256) state q in
        let low = code_low state in
        let high = code_high state in
        let bit : word / 2 % 2 ≡ code_of state / 2 % 2 = omega arith in
        outer (leb word (256 * g.blocks)) (ltb (less % 256) 5) _ (ltb (word / 256) g.blocks) (allowed_while writing state)
        (leb_ltb word (256 * g.blocks) (word / 256) g.blocks (λ h. omega arith) (λ h. omega arith))
        (lt-ltb (less % 256) 5 (omega arith))
        (ap (λ (x : ℕ). not writing || eqb x 0) bit ∙ allowed_is writing state)

    go : (b : Bool) → eqb word 0 ≡ b → tests ≡ well_said (allowed_while writing) g (cond b free (says_of (word / 256) (state_for (word % 256))))
    go true e =
        let z : word ≡ 0 = eqb-true word 0 e in
        all_true (leb word (256 * g.blocks)) (ltb (less % 256) 5) _ (le-leb word (256 * g.blocks) (omega arith)) (lt-ltb (less % 256) 5 (omega arith))
        (or_true (not writing) (eqb (word / 2 % 2) 0) (eq-eqb (word / 2 % 2) 0 (omega arith)))
    go false e = named (state_for (word % 256)) refl (eqb-false word 0 e)

-- ---- the form of a word, without its phase

pub formed_word : (allowed : State → Bool) (g : Geometry) (word : ℕ) → g.blocks ≤ 4096 → well_formed allowed g word ≡ true → FormedWord word
unfolding well_formed well_said word_of
formed_word allowed g word h = go (says word) refl
  where
    go : (x : Says) → says word ≡ x → well_said allowed g x ≡ true → FormedWord word
    go free e t = let z : word ≡ 0 = free_word word e in record { low = λ ne. absurd (ne z); high = omega arith; block = omega arith }
    go (names k state) e t =
        let w : word ≡ word_of k state = names_word word k state e in
        let b : k < g.blocks = ltb-true k g.blocks (and_left (ltb k g.blocks) (allowed state) t) in
        let low = code_low state in
        let high = code_high state in
        record { low = λ ne. omega arith; high = omega arith; block = omega arith }
    go neither e t = absurd (false_true t)

-- ---- naming a block

pub record Named (block word : ℕ) : Type 0 where
  pub block_of : word / 256 ≡ block
  pub low : 1 ≤ word % 256
  pub high : word % 256 ≤ 5

pub named_by : (block word : ℕ) → FormedWord word → wanted block false word ≡ true → Named block word
unfolding wanted of_block
named_by block word f e =
    let a = eqb (word / 256 % 4294967296) block in
    let b = not (eqb word 0) in
    let k : word / 256 % 4294967296 ≡ block = eqb-true (word / 256 % 4294967296) block (and_left a b e) in
    let ne : word ≢ 0 = eqb-false word 0 (not-true (eqb word 0) (and_right a b e)) in
    let h = f.block in
    record { block_of = omega arith; low = f.low ne; high = f.high }

pub names_state : (block word : ℕ) (state : State) → Named block word → code_of state ≡ word % 256 → says word ≡ names block state
unfolding word_of
names_state block word state n e =
    let h = n.block_of in
    let q : word ≡ word_of block state = omega arith in
    ap says q ∙ says_word block state

pub skipped : (block word : ℕ) → block < 4096 → wanted block false word ≡ false → Skips block word
unfolding wanted of_block word_of
skipped block word h e = record {
  never = λ state q.
      let w : word ≡ word_of block state = names_word word block state q in
      let low = code_low state in
      let high = code_high state in
      let k : word / 256 % 4294967296 ≡ block = omega arith in
      let t : eqb (word / 256 % 4294967296) block && not (eqb word 0) ≡ true = (rw (eq-eqb (word / 256 % 4294967296) block k, ne_eqb word 0 (λ z. absurd (omega arith)))) in
      false_true (sym e ∙ t);
}

-- a word is free, as a word of block 0
pub free_of : (word : ℕ) → wanted 0 true word ≡ eqb word 0
unfolding wanted of_block
free_of word = go (eqb word 0) refl
  where
    and_no : (b : Bool) → b && false ≡ false
    and_no true = refl
    and_no false = refl

    zero_block : (b : Bool) → eqb (word / 256 % 4294967296) 0 ≡ b → word ≡ 0 → b ≡ true
    zero_block b e z = sym e ∙ eq-eqb (word / 256 % 4294967296) 0 (omega arith)

    go : (b : Bool) → eqb word 0 ≡ b → eqb (word / 256 % 4294967296) 0 && b ≡ b
    go true e = rw (zero_block (eqb (word / 256 % 4294967296) 0) refl (eqb-true word 0 e))
    go false e = and_no (eqb (word / 256 % 4294967296) 0)
