-- One table word by its code: what it says, what begin copies for it, and what begin and a backup make of it.
use mathlib.Core.Path.{◌≡◌, refl, sym, ap, ◌∙◌}
use mathlib.Core.Logic.{◌≢◌}
use mathlib.Core.Bool.{Bool, true}
use mathlib.Core.List.{List}
use Rattle.std.specs.Prelude.{Option, None, Some}
use Prim.Native.Nat.{ℕ, ◌+◌, ◌*◌, ◌/◌, ◌%◌, ◌≤◌}
use native.Mathlib.Omega.{arith}
use native.Mathlib.Decide.{ℕ_discrete}
use lib.Dec.{ltb}
use lib.ListN.{length}
use borrow.Author.Tests.{ltb-true}
use Rattle.words.specs.Words.{Lays, bytes_to, block_at}
use Rattle.words.proofs.Laying.{lays_nothing}
use Rattle.rules.specs.declared.Geometry.{Geometry}
use Rattle.rules.specs.declared.State.{State}
use Rattle.rules.specs.declared.State.TheVariants.{Clean, Dirty, Hidden, PreHidden, PreDirty}
use Rattle.rules.specs.TableWords.{code_of, word_of, Says, free, names, neither, says, entry_or, changed_by, changed}
use Rattle.rules.specs.Numbers.{well_said, well_formed}
use Rattle.rules.specs.Checkpoints.{copied_to, copy_of, begun, saved}
use Rattle.rules.proofs.Clashes.{none_some, and_left}
use Rattle.rules.proofs.TableWordLaws.{coded, code_named}
use Rattle.rules.proofs.Changing.{changed_entry}
use Rattle.checks.specs.Tables.{FormedWord}

-- ---- the word changed

module _ (next : State → Option State) (word : ℕ) where
  -- an entry that becomes clean
  pub made_clean : (r : ℕ) (state : State) → word % 256 ≡ code_of state → next state ≡ Some Clean → r + code_of state ≡ word + 1 → r ≡ changed next word
  unfolding entry_or word_of
  made_clean r state e n q =
      let h : r ≡ 256 * (word / 256) + 1 = omega arith in
      h ∙ sym (changed_entry next word (word / 256) state (coded word state e) ∙ ap (entry_or (word / 256)) n)

  -- a word that goes free, or was no entry
  pub made_free : ((state : State) → word % 256 ≡ code_of state → next state ≡ None) → 0 ≡ changed next word
  unfolding changed changed_by entry_or
  made_free h = go (says word) refl
    where
      go : (x : Says) → says word ≡ x → 0 ≡ changed_by next (says word)
      go free e = rw e
      go neither e = rw e
      go (names block state) e = rw (e, h state (code_named word block state e))

pub not_begun : (code : ℕ) → code ≢ 1 → code ≢ 2 → code ≢ 5 → (state : State) → code ≡ code_of state → begun state ≡ None
unfolding begun
not_begun code a b c Clean e = absurd (a e)
not_begun code a b c Dirty e = absurd (b e)
not_begun code a b c Hidden e = refl
not_begun code a b c PreHidden e = refl
not_begun code a b c PreDirty e = absurd (c e)

pub not_saved : (code : ℕ) → code ≢ 1 → code ≢ 4 → (state : State) → code ≡ code_of state → saved state ≡ None
unfolding saved
not_saved code a b Clean e = absurd (a e)
not_saved code a b Dirty e = refl
not_saved code a b Hidden e = refl
not_saved code a b PreHidden e = absurd (b e)
not_saved code a b PreDirty e = refl

-- ---- where the CACHE block goes

module _ (g : Geometry) (slot word : ℕ) where
  pub to_home : word % 256 ≡ 4 → copied_to g slot (says word) ≡ Some (word / 256)
  unfolding copied_to
  to_home e = ap (copied_to g slot) (coded word PreHidden e)

  pub to_checkpoint : word % 256 ≡ 5 → copied_to g slot (says word) ≡ Some (g.blocks + slot)
  unfolding copied_to
  to_checkpoint e = ap (copied_to g slot) (coded word PreDirty e)

  pub to_nowhere : word % 256 ≢ 4 → word % 256 ≢ 5 → copied_to g slot (says word) ≡ None
  unfolding copied_to
  to_nowhere a b = go (says word) refl
    where
      go : (x : Says) → says word ≡ x → copied_to g slot x ≡ None
      go free e = refl
      go neither e = refl
      go (names block Clean) e = refl
      go (names block Dirty) e = refl
      go (names block Hidden) e = refl
      go (names block PreHidden) e = absurd (a (code_named word block PreHidden e))
      go (names block PreDirty) e = absurd (b (code_named word block PreDirty e))

  -- no further than the slot's own block
  pub target_inside : (allowed : State → Bool) (q : ℕ) → well_formed allowed g word ≡ true → Some q ≡ copied_to g slot (says word) → q ≤ g.blocks + slot
  unfolding well_formed well_said copied_to
  target_inside allowed q = go (says word)
    where
      go : (x : Says) → well_said allowed g x ≡ true → Some q ≡ copied_to g slot x → q ≤ g.blocks + slot
      go free f e = absurd (none_some q (sym e))
      go neither f e = absurd (none_some q (sym e))
      go (names block Clean) f e = absurd (none_some q (sym e))
      go (names block Dirty) f e = absurd (none_some q (sym e))
      go (names block Hidden) f e = absurd (none_some q (sym e))
      go (names block PreHidden) f e =
          let h : q ≡ block = cc in
          let b = ltb-true block g.blocks (and_left (ltb block g.blocks) (allowed PreHidden) f) in
          omega arith
      go (names block PreDirty) f e = let h : q ≡ g.blocks + slot = cc in omega arith

-- ---- how many words the copy has

module _ (cache : List ℕ) (slot : ℕ) where
  pub eight_words : {to : Option ℕ} (q : ℕ) → to ≡ Some q → 8 ≡ length (copy_of cache slot to)
  unfolding copy_of bytes_to
  eight_words q e = rw e

  pub no_words : {to : Option ℕ} → to ≡ None → 0 ≡ length (copy_of cache slot to)
  unfolding copy_of
  no_words e = rw e

  -- by the code of a well formed word
  pub copied_blocks : (g : Geometry) (word : ℕ) → FormedWord word → 8 * (word % 256 / 4) ≡ length (copy_of cache slot (copied_to g slot (says word)))
  copied_blocks g word f =
      let high = f.high in
      elim (ℕ_discrete (word % 256) 4) [
        | yes e ↦ let q : 8 * (word % 256 / 4) ≡ 8 = omega arith in q ∙ eight_words (word / 256) (to_home g slot word e)
        | no a ↦ elim (ℕ_discrete (word % 256) 5) [
          | yes e ↦ let q : 8 * (word % 256 / 4) ≡ 8 = omega arith in q ∙ eight_words (g.blocks + slot) (to_checkpoint g slot word e)
          | no b ↦ let q : 8 * (word % 256 / 4) ≡ 0 = omega arith in q ∙ no_words (to_nowhere g slot word a b)
        ]
      ]

  pub few_words : (to : Option ℕ) → length (copy_of cache slot to) ≤ 8
  few_words None = let e = no_words refl in omega arith
  few_words (Some q) = let e = eight_words q refl in omega arith

  -- the copy laid at its place
  pub copied : {p r : ℕ} {memory memory' : List ℕ} {to : Option ℕ} (q place : ℕ) → to ≡ Some q → place ≡ 8 * q
      → Lays p (bytes_to place 8 (block_at cache slot)) memory memory' r → Lays p (copy_of cache slot to) memory memory' r
  unfolding copy_of
  copied q place e f l = rw e (rw f at l)

  pub not_copied : {to : Option ℕ} (p : ℕ) (memory : List ℕ) → to ≡ None → Lays p (copy_of cache slot to) memory memory 0
  unfolding copy_of
  not_copied p memory e = rw e (lays_nothing p memory)
