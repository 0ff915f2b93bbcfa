-- A table word and what it says: each entry has one word, and the word 0 is free.
use mathlib.Core.Path.{◌≡◌, refl, sym, ap, ◌∙◌}
use mathlib.Core.Logic.{◌≢◌}
use mathlib.Core.Bool.{Bool, true, false, cond}
use Rattle.std.specs.Prelude.{Option, None, Some}
use Prim.Native.Nat.{ℕ, ◌/◌, ◌%◌, ◌≤◌}
use native.Mathlib.Omega.{arith}
use lib.Dec.{eqb}
use borrow.Author.Tests.{eqb-true, ne_eqb}
use Rattle.rules.specs.declared.State.{State}
use Rattle.rules.specs.declared.State.TheVariants.{Clean, Dirty, Hidden, PreHidden, PreDirty}
use Rattle.rules.specs.TableWords.{code_of, word_of, state_for, free, names, says_of, says}
use Rattle.rules.proofs.Clashes.{none_some, free_names, neither_names, neither_free}

pub code_low : (state : State) → code_of state ≤ 5
code_low Clean = omega arith
code_low Dirty = omega arith
code_low Hidden = omega arith
code_low PreHidden = omega arith
code_low PreDirty = omega arith

pub code_high : (state : State) → 1 ≤ code_of state
code_high Clean = omega arith
code_high Dirty = omega arith
code_high Hidden = omega arith
code_high PreHidden = omega arith
code_high PreDirty = omega arith

-- ---- codes and states

pub state_code : (state : State) → state_for (code_of state) ≡ Some state
unfolding state_for
state_code Clean = refl
state_code Dirty = refl
state_code Hidden = refl
state_code PreHidden = refl
state_code PreDirty = refl

row_code : (code n : ℕ) (here state : State) (rest : Option State) → n ≡ code_of here → (rest ≡ Some state → code ≡ code_of state)
    → cond (eqb code n) (Some here) rest ≡ Some state → code ≡ code_of state
row_code code n here state rest q below = go (eqb code n) refl
  where
    go : (b : Bool) → eqb code n ≡ b → cond b (Some here) rest ≡ Some state → code ≡ code_of state
    go true t e = let h : here ≡ state = cc in eqb-true code n t ∙ q ∙ ap code_of h
    go false t e = below e

pub code_state : (code : ℕ) (state : State) → state_for code ≡ Some state → code ≡ code_of state
unfolding state_for
code_state code state =
    row_code code 1 Clean state _ refl
    (row_code code 2 Dirty state _ refl
    (row_code code 3 Hidden state _ refl
    (row_code code 4 PreHidden state _ refl (row_code code 5 PreDirty state None refl (λ e. absurd (none_some state e))))))

-- ---- words

pub word_block : (block : ℕ) (state : State) → word_of block state / 256 ≡ block
unfolding word_of
word_block block state = omega (arith, code_low state)

pub word_code : (block : ℕ) (state : State) → word_of block state % 256 ≡ code_of state
unfolding word_of
word_code block state = omega (arith, code_low state)

pub word_nonzero : (block : ℕ) (state : State) → word_of block state ≢ 0
unfolding word_of
word_nonzero block state e = omega (arith, code_high state)

pub says_word : (block : ℕ) (state : State) → says (word_of block state) ≡ names block state
unfolding says says_of
says_word block state =
    rw (ne_eqb (word_of block state) 0 (word_nonzero block state), word_block block state, word_code block state, state_code state)

-- the free word names no block
pub says_zero : says 0 ≡ free
unfolding says says_of word_of
says_zero = refl

pub names_word : (word block : ℕ) (state : State) → says word ≡ names block state → word ≡ word_of block state
unfolding says says_of word_of
names_word word block state = go (eqb word 0)
  where
    named : (o : Option State) → state_for (word % 256) ≡ o → says_of (word / 256) o ≡ names block state → word ≡ word_of block state
    named None q e = absurd (neither_names block state e)
    named (Some found) q e =
        let k : word / 256 ≡ block = cc in
        let s : found ≡ state = cc in
        let c : word % 256 ≡ code_of state = code_state (word % 256) state (q ∙ ap (λ (x : State). Some x) s) in
        omega arith

    go : (b : Bool) → cond b free (says_of (word / 256) (state_for (word % 256))) ≡ names block state → word ≡ word_of block state
    go true e = absurd (free_names block state e)
    go false e = named (state_for (word % 256)) refl e

pub free_word : (word : ℕ) → says word ≡ free → word ≡ 0
unfolding says says_of
free_word word = go (eqb word 0) refl
  where
    named : (o : Option State) → says_of (word / 256) o ≡ free → word ≡ 0
    named None e = absurd (neither_free e)
    named (Some found) e = absurd (free_names (word / 256) found (sym e))

    go : (b : Bool) → eqb word 0 ≡ b → cond b free (says_of (word / 256) (state_for (word % 256))) ≡ free → word ≡ 0
    go true t e = eqb-true word 0 t
    go false t e = named (state_for (word % 256)) e

-- by its code

pub coded : (word : ℕ) (state : State) → word % 256 ≡ code_of state → says word ≡ names (word / 256) state
unfolding word_of
coded word state e = let q : word ≡ word_of (word / 256) state = omega arith in ap says q ∙ says_word (word / 256) state

pub code_named : (word block : ℕ) (state : State) → says word ≡ names block state → word % 256 ≡ code_of state
code_named word block state e = ap (λ (x : ℕ). x % 256) (names_word word block state e) ∙ word_code block state
