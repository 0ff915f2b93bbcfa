-- A backup's table checked from its last word to its first, with the blocks that it names in a set.
use mathlib.Core.Path.{◌≡◌, refl, sym, ap, ◌∙◌}
use mathlib.Core.Logic.{◌≢◌}
use mathlib.Core.Bool.{Bool, true, false, not, cond, ◌&&◌, ◌||◌}
use mathlib.Core.List.{List, [], ◌∷◌}
use Rattle.std.specs.Prelude.{Option, None, Some}
use Prim.Native.Nat.{ℕ, zero, suc, ◌+◌, ◌-◌, ◌/◌, ◌%◌, ◌≤◌, ◌<◌}
use native.Mathlib.Omega.{arith}
use native.Mathlib.Nat.{add-zero, zero-add}
use native.Mathlib.Decide.{ℕ_discrete}
use lib.Dec.{eqb, ltb}
use lib.ListN.{length, drop, get_or, set, replicate, drop_of_length-le}
use lib.Seq.{drop-cons, take_all, paste}
use borrow.Author.Tests.{eqb-true, ne_eqb, ltb-true, not-true, not-false}
use Rattle.words.specs.Words.{word, number, numbers}
use Rattle.words.proofs.Makers.{length-numbers}
use Rattle.words.proofs.Laying.{paste_turn, copy_whole}
use Rattle.rules.specs.declared.Geometry.{Geometry}
use Rattle.rules.specs.declared.State.{State}
use Rattle.rules.specs.declared.State.TheVariants.{Clean, Dirty, Hidden, PreHidden, PreDirty}
use Rattle.rules.specs.declared.Entry.{Entry}
use Rattle.rules.specs.TableWords.{Says, free, names, code_of, state_for, says_of, says, entry_at, one_on, lookup_by, lookup, is_nothing, new_to, distinct, every}
use Rattle.rules.specs.Numbers.{well_said, well_formed}
use Rattle.rules.specs.Starts.{only_clean, sound}
use Rattle.rules.proofs.Clashes.{false_true, and_left, and_right}
use Rattle.rules.proofs.TableWordLaws.{code_state, says_zero}
use Rattle.backups.specs.Sets.{has, Marks, Took}
use Rattle.backups.proofs.Bits.{set_none}

-- ---- one word

says_free : (w : ℕ) → w ≡ 0 → says w ≡ free
says_free w e = ap says e ∙ says_zero

pub clean_free : (g : Geometry) (w : ℕ) → w ≡ 0 → true ≡ well_formed only_clean g w
unfolding well_formed well_said
clean_free g w e = rw (says_free w e)

-- of the states only Clean, whose code is 1, passes
only_clean_lem : (state : State) (x : Bool) → eqb (code_of state) 1 && x ≡ x && only_clean state
unfolding only_clean
only_clean_lem Clean true = refl
only_clean_lem Clean false = refl
only_clean_lem Dirty true = refl
only_clean_lem Dirty false = refl
only_clean_lem Hidden true = refl
only_clean_lem Hidden false = refl
only_clean_lem PreHidden true = refl
only_clean_lem PreHidden false = refl
only_clean_lem PreDirty true = refl
only_clean_lem PreDirty false = refl

one_is_clean : state_for 1 ≡ Some Clean
unfolding state_for
one_is_clean = refl

pub clean_is : (g : Geometry) (w : ℕ) → w ≢ 0 → eqb (w % 256) 1 && ltb (w / 256) g.blocks ≡ well_formed only_clean g w
unfolding well_formed well_said says says_of
clean_is g w ne = rw (ne_eqb w 0 ne) (go (state_for (w % 256)) refl)
  where
    go : (o : Option State) → state_for (w % 256) ≡ o → eqb (w % 256) 1 && ltb (w / 256) g.blocks ≡ well_said only_clean g (says_of (w / 256) o)
    go None q = odd (ℕ_discrete (w % 256) 1)
      where
        odd : Dec (w % 256 ≡ 1) → eqb (w % 256) 1 && ltb (w / 256) g.blocks ≡ false
        odd (yes e) = absurd (none_clean (sym q ∙ ap state_for e ∙ one_is_clean))
          where
            none_clean : None ≡ Some Clean → ⊥
            none_clean z = let y : ◌≡◌ {A = ℕ} 0 1 = cc in omega arith
        odd (no e) = rw (ne_eqb (w % 256) 1 e)
    go (Some state) q = rw (code_state (w % 256) state q) (only_clean_lem state (ltb (w / 256) g.blocks))

pub record Names (g : Geometry) (w : ℕ) : Type 0 where
  pub entry : says w ≡ names (w / 256) Clean
  pub below : w / 256 < g.blocks

pub clean_names : (g : Geometry) (w : ℕ) → well_formed only_clean g w ≡ true → w ≢ 0 → Names g w
unfolding says says_of
clean_names g w e ne =
    let t : eqb (w % 256) 1 && ltb (w / 256) g.blocks ≡ true = clean_is g w ne ∙ e in
    let c : w % 256 ≡ 1 = eqb-true (w % 256) 1 (and_left (eqb (w % 256) 1) (ltb (w / 256) g.blocks) t) in
    record {
      entry = rw (ne_eqb w 0 ne, c);
      below = ltb-true (w / 256) g.blocks (and_right (eqb (w % 256) 1) (ltb (w / 256) g.blocks) t);
    }

pub named_low : (g : Geometry) (w : ℕ) → well_formed only_clean g w ≡ true → w ≢ 0 → g.blocks ≤ 4096 → w / 256 < 4096
named_low g w e ne h = let b : w / 256 < g.blocks = (clean_names g w e ne).below in omega arith

-- ---- the set holds the blocks of the words after

nothing_on : (found : Option Entry) → is_nothing (one_on found) ≡ is_nothing found
unfolding is_nothing one_on
nothing_on (Some entry) = refl
nothing_on None = refl

pub marks_none : Marks (replicate 64 0) []
unfolding lookup is_nothing
marks_none = record { marks = λ k h. set_none k h }

marks_free : (s ws : List ℕ) (w : ℕ) → w ≡ 0 → Marks s ws → Marks s (w ∷ ws)
unfolding lookup lookup_by
marks_free s ws w e m = record {
  marks = λ k h. m.marks k h ∙ ap not (sym (nothing_on (lookup k ws))) ∙ ap (λ (x : Says). not (is_nothing (lookup_by k x (lookup k ws)))) (sym (says_free w e));
}

marks_more : (s s' ws : List ℕ) (w block : ℕ) → says w ≡ names block Clean → ((k : ℕ) → k < 4096 → has s' k ≡ eqb block k || has s k) → Marks s ws → Marks s' (w ∷ ws)
unfolding lookup lookup_by is_nothing
marks_more s s' ws w block e u m = record {
  marks = λ k h.
      u k h
      ∙ ap (λ (x : Bool). eqb block k || x) (m.marks k h)
      ∙ sym (ap (λ (x : Says). not (is_nothing (lookup_by k x (lookup k ws)))) e ∙ pick (eqb block k) (lookup k ws));
}
  where
    pick : (b : Bool) (found : Option Entry) → not (is_nothing (cond b (entry_at 0 Clean) (one_on found))) ≡ b || not (is_nothing found)
    pick true found = refl
    pick false found = ap not (nothing_on found)

new_names : (w block : ℕ) (ws : List ℕ) → says w ≡ names block Clean → new_to ws (says w) ≡ is_nothing (lookup block ws)
unfolding new_to
new_names w block ws e = rw e

new_free : (w : ℕ) (ws : List ℕ) → w ≡ 0 → new_to ws (says w) ≡ true
unfolding new_to
new_free w ws e = rw (says_free w e)

-- ---- a word taken

module _ (g : Geometry) (w : ℕ) (ws s : List ℕ) where
  pub took_odd : well_formed only_clean g w ≡ false → Took g w ws s false
  took_odd e = record { answer = rw e; then = λ z. absurd (false_true z) }

  module _ (e : well_formed only_clean g w ≡ true) where
    answers : {r : Bool} → new_to ws (says w) ≡ r → r ≡ well_formed only_clean g w && new_to ws (says w)
    answers q = sym (ap (λ (b : Bool). b && new_to ws (says w)) e ∙ q)

    pub took_free : w ≡ 0 → Marks s ws → Took g w ws s true
    took_free z m = record { answer = answers (new_free w ws z); then = λ y. marks_free s ws w z m }

    module _ (ne : w ≢ 0) (high : g.blocks ≤ 4096) (m : Marks s ws) where
      found_by : has s (w / 256) ≡ not (is_nothing (lookup (w / 256) ws))
      found_by = m.marks (w / 256) (named_low g w e ne high)

      pub took_twice : has s (w / 256) ≡ true → Took g w ws s false
      took_twice y = record {
        answer = answers (new_names w (w / 256) ws (clean_names g w e ne).entry ∙ not-true _ (sym found_by ∙ y));
        then = λ z. absurd (false_true z);
      }

      pub took_new : (s' : List ℕ) → has s (w / 256) ≡ false → ((k : ℕ) → k < 4096 → has s' k ≡ eqb (w / 256) k || has s k) → Took g w ws s' true
      took_new s' y u = record {
        answer = answers (new_names w (w / 256) ws (clean_names g w e ne).entry ∙ not-false _ (sym found_by ∙ y));
        then = λ z. marks_more s s' ws w (w / 256) (clean_names g w e ne).entry u m;
      }

-- ---- a sound table, word by word

swap : (a b c d : Bool) → (a && b) && (c && d) ≡ (a && c) && (b && d)
swap true true c d = refl
swap true false true d = refl
swap true false false d = refl
swap false b c d = refl

-- what a set's `take` answers of a word and the words after it
abbrev fine : Geometry → ℕ → List ℕ → Bool
fine g w ws = well_formed only_clean g w && new_to ws (says w)

sound_cons : (g : Geometry) (w : ℕ) (ws : List ℕ) → sound g (w ∷ ws) ≡ fine g w ws && sound g ws
unfolding sound every distinct
sound_cons g w ws = swap (well_formed only_clean g w) (every (well_formed only_clean g) ws) (new_to ws (says w)) (distinct ws)

sound-drop : (g : Geometry) (i : ℕ) (t : List ℕ) → sound g t ≡ true → sound g (drop i t) ≡ true
sound-drop g zero t e = e
sound-drop g (suc i) [] e = e
sound-drop g (suc i) (w ∷ ws) e = sound-drop g i ws (and_right (fine g w ws) (sound g ws) (sym (sound_cons g w ws) ∙ e))

-- the word before the words of `after` in a table
module _ (g : Geometry) (t : List ℕ) (i w : ℕ) (after : List ℕ) (d : drop i t ≡ w ∷ after) where
  sound_more : fine g w after ≡ true → sound g after ≡ true → sound g (drop i t) ≡ true
  sound_more e q = ap (sound g) d ∙ sound_cons g w after ∙ (rw (e, q))

  sound_fails : fine g w after ≡ false → sound g t ≡ false
  sound_fails e = go (sound g t) refl
    where
      go : (b : Bool) → sound g t ≡ b → sound g t ≡ false
      go false q = q
      go true q = absurd (false_true (sym (ap (λ (b : Bool). b && sound g after) e) ∙ sym (sound_cons g w after) ∙ sym (ap (sound g) d) ∙ sound-drop g i t q))

numbers_get : (m : List ℕ) (n place i : ℕ) → i < n → get_or (numbers m place n) i 0 ≡ number (word m (place + i))
unfolding numbers
numbers_get m zero place i h = absurd (omega arith)
numbers_get m (suc n) place zero h = rw add-zero
numbers_get m (suc n) place (suc i) h = let e : suc place + i ≡ place + suc i = omega arith in numbers_get m n (suc place) i (omega arith) ∙ (rw e)

-- ---- the loop over a backup's table of n words, from its last word on

module _ (m : List ℕ) (g : Geometry) (s : List ℕ) (n : ℕ) where
  pub sound_start : Marks s [] → (sound g (drop n (numbers m 8 n)) ≡ true) × Marks s (drop n (numbers m 8 n))
  unfolding sound every distinct
  sound_start k =
      let h : length (numbers m 8 n) ≤ n = omega (arith, length-numbers m n 8) in
      let z : drop n (numbers m 8 n) ≡ [] = drop_of_length-le (numbers m 8 n) h in
      rw z (refl, k)

  module _ (i w : ℕ) (r : Bool) (low : 0 < i) (high : i ≤ n) (e : w ≡ number (word m (8 + (i - 1)))) (t : Took g w (drop i (numbers m 8 n)) s r) where
    here : drop (i - 1) (numbers m 8 n) ≡ w ∷ drop i (numbers m 8 n)
    here =
        let z : suc (i - 1) ≡ i = omega arith in
        let v : get_or (numbers m 8 n) (i - 1) 0 ≡ w = numbers_get m n 8 (i - 1) (omega arith) ∙ sym e in
        drop-cons (numbers m 8 n) (i - 1) 0 (omega (arith, length-numbers m n 8)) ∙ (rw (z, v))

    pub turn_fails : r ≡ false → false ≡ sound g (numbers m 8 n)
    turn_fails q = sym (sound_fails g (numbers m 8 n) (i - 1) w (drop i (numbers m 8 n)) here (sym t.answer ∙ q))

    pub turn_more : r ≡ true → sound g (drop i (numbers m 8 n)) ≡ true → (sound g (drop (i - 1) (numbers m 8 n)) ≡ true) × Marks s (drop (i - 1) (numbers m 8 n))
    turn_more q y = (sound_more g (numbers m 8 n) (i - 1) w (drop i (numbers m 8 n)) here (sym t.answer ∙ q) y, rw here (t.then q))

-- ---- the table copied

module _ (t m : List ℕ) (i : ℕ) where
  pub table_turn : i < length t → set (paste t 0 (numbers m 8 (length t)) i) i (number (word m (8 + i))) ≡ paste t 0 (numbers m 8 (length t)) (i + 1)
  table_turn h =
      let l = length-numbers m (length t) 8 in
      rw (← numbers_get m (length t) 8 i h) (simp zero-add (simp zero-add at (paste_turn t 0 (numbers m 8 (length t)) i (omega arith) (omega arith))))

  pub table_copied : i ≡ length t → paste t 0 (numbers m 8 (length t)) i ≡ numbers m 8 (length t)
  table_copied e =
      rw e (copy_whole t (numbers m 8 (length t)) ∙ take_all (length t) (numbers m 8 (length t)) (omega (arith, length-numbers m (length t) 8)))
