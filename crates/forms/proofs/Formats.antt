-- A format of the new form, stopped after any of its words: the old form's format beside two words.
use mathlib.Core.Path.{◌≡◌, refl, sym, ap, ◌∙◌, subst}
use mathlib.Core.List.{List, [], ◌∷◌, ◌++◌}
use Prim.Native.Nat.{ℕ, zero, suc, ◌+◌, ◌*◌, ◌-◌, ◌≤◌, ◌<◌}
use native.Mathlib.Omega.{arith}
use lib.ListN.{length, take}
use lib.Seq.{take_all, take-append-add}
use Rattle.words.specs.Words.{word, words, Store, lay}
use Rattle.words.proofs.All.{All, all_take, all_append}
use Rattle.words.proofs.Lists.{Fit, lay-length, lay-append}
use Rattle.words.proofs.Makers.{fill_to_laid, numbers_to_laid}
use Rattle.words.proofs.Laying.{take_both}
use Rattle.rules.specs.declared.Geometry.{Geometry}
use Rattle.rules.specs.declared.Backup.TheVariants.{A}
use Rattle.rules.specs.Geometry.{home_start, home_words, backup_start, backup_words, mark_start, memory_words}
use Rattle.rules.specs.Starts.{format_mark, format_list}
use Rattle.forms.specs.Stored.{header_bytes, header_start, long_words, zero_word, without, first_zeroed, header_to}
use Rattle.forms.specs.Calls.{long_format_list}
use Rattle.forms.proofs.Long.{Parts, joined, with_old, with_first, with_second, parts_of, parts_are, first_is, both_is, lay_front}
use Rattle.forms.proofs.Lists.{zeroed_length}
use Rattle.forms.proofs.Moving.{second_word, second_eight, both_words, with-header, lay_zeroed, up_one, up_two, Left, left_missing, left_header, old_part}

pub format_fits : (g : Geometry) (fill : ℕ) → All (Fit (8 * memory_words g)) (format_list g fill)
unfolding format_list
format_fits g fill =
    let size = 8 * memory_words g in
    all_append (numbers_to_laid (0 ∷ []) (mark_start g) size (omega arith)).fits
    (all_append (fill_to_laid (home_words g) (home_start g) fill size (omega arith)).fits
    (all_append (fill_to_laid (backup_words g) (backup_start g A) 0 size (omega arith)).fits (numbers_to_laid (format_mark ∷ []) (mark_start g) size (omega arith)).fits))

one_more : (xs ys : List Store) (q : ℕ) → length xs ≡ 1 → take (suc q) (xs ++ ys) ≡ xs ++ take q ys
one_more xs ys q e = ap (λ (n : ℕ). take n (xs ++ ys)) (let z : suc q ≡ length xs + q = omega (arith, e) in z) ∙ take-append-add xs ys q

module _ (g : Geometry) (fill : ℕ) (memory : List ℕ) (size : length memory ≡ 8 * long_words g) where
  abbrev parts : Parts g
  parts = parts_of g memory size

  abbrev list : List Store
  list = format_list g fill

  -- so far the old form's format has come
  abbrev old-after : ℕ → List ℕ
  old-after q = lay (take q list) parts.old

  old_fits : (q : ℕ) → All (Fit (length parts.old)) (take q list)
  old_fits q = subst (λ (n : ℕ). All (Fit n) (take q list)) (sym parts.old_length) (all_take q (format_fits g fill))

  old_size : (q : ℕ) → length (old-after q) ≡ 8 * memory_words g
  old_size q = lay-length (take q list) parts.old (old_fits q) ∙ parts.old_length

  -- the first word zeroed, and that part of the old form's format
  abbrev begun : ℕ → Parts g
  begun q = with_old (with_first parts zero_word refl) (old-after q) (old_size q)

  -- the first word is zeroed, then come words of the old form's list, then words of the header
  prefix : (q : ℕ) → lay (take (suc q) (long_format_list g fill)) memory ≡ lay (take (q - length list) (header_to g)) (joined (begun q))
  unfolding long_format_list
  prefix q =
      let headed = take (q - length list) (header_to g) in
      ap (λ (stores : List Store). lay stores memory) (one_more (first_zeroed g) (list ++ header_to g) q (zeroed_length g) ∙ ap (λ (z : List Store). first_zeroed g ++ z) (take_both q list (header_to g)))
      ∙ lay-append (first_zeroed g) (take q list ++ headed) memory
      ∙ lay-append (take q list) headed (lay (first_zeroed g) memory)
      ∙ ap (λ (z : List ℕ). lay headed (lay (take q list) z)) (ap (lay (first_zeroed g)) (parts_are g memory size) ∙ lay_zeroed parts)
      ∙ ap (lay headed) (lay_front (take q list) parts.old (zero_word ++ parts.second) (old_fits q))

  after : (q k : ℕ) → q - length list ≡ k → {memory' : List ℕ} → lay (take k (header_to g)) (joined (begun q)) ≡ memory'
      → lay (take (suc q) (long_format_list g fill)) memory ≡ memory'
  after q k e f = prefix q ∙ ap (λ (n : ℕ). lay (take n (header_to g)) (joined (begun q))) e ∙ f

  pub format_left : (q : ℕ) → Left g (old-after q) (lay (take (suc q) (long_format_list g fill)) memory)
  unfolding lay
  format_left q = go (q - length list) refl
    where
      go : (k : ℕ) → q - length list ≡ k → Left g (old-after q) (lay (take (suc q) (long_format_list g fill)) memory)
      go zero e = left_missing (begun q) (after q 0 e refl) refl
      go (suc zero) e = left_missing (with_second (begun q) (second_word g) (second_eight g)) (after q 1 e (up_one (begun q))) refl
      go (suc (suc k)) e = left_header (with-header (begun q)) (after q (suc (suc k)) e (up_two (begun q) k)) (both_words g)

  -- until the last word the first header word is zero
  pub format_missing : (q : ℕ) → q < length list + 2 → word (lay (take (suc q) (long_format_list g fill)) memory) (header_start g) ≡ zero_word
  unfolding lay
  format_missing q h = go (q - length list) refl
    where
      first : (stores : Parts g) → lay (take (suc q) (long_format_list g fill)) memory ≡ joined stores → stores.first ≡ zero_word
          → word (lay (take (suc q) (long_format_list g fill)) memory) (header_start g) ≡ zero_word
      first stores e z = ap (λ (m : List ℕ). word m (header_start g)) e ∙ first_is stores ∙ z

      go : (k : ℕ) → q - length list ≡ k → word (lay (take (suc q) (long_format_list g fill)) memory) (header_start g) ≡ zero_word
      go zero e = first (begun q) (after q 0 e refl) refl
      go (suc zero) e = first (with_second (begun q) (second_word g) (second_eight g)) (after q 1 e (up_one (begun q))) refl
      go (suc (suc k)) e = absurd (omega (arith, e, h))

  -- with the last word the header is there
  pub format_headed : (q : ℕ) → length list + 2 ≤ q → words (lay (take (suc q) (long_format_list g fill)) memory) (header_start g) 2 ≡ header_bytes g
  format_headed q h = go (q - length list) refl
    where
      go : (k : ℕ) → q - length list ≡ k → words (lay (take (suc q) (long_format_list g fill)) memory) (header_start g) 2 ≡ header_bytes g
      go zero e = absurd (omega (arith, e, h))
      go (suc zero) e = absurd (omega (arith, e, h))
      go (suc (suc k)) e =
          ap (λ (m : List ℕ). words m (header_start g) 2) (after q (suc (suc k)) e (up_two (begun q) k)) ∙ both_is (with-header (begun q)) ∙ both_words g

  -- the old form's format is whole once its mark is stored
  pub all_laid : (q : ℕ) → length list ≤ q → old-after q ≡ lay list (without memory)
  all_laid q h = ap (λ (stores : List Store). lay stores parts.old) (take_all q list h) ∙ ap (lay list) (sym (old_part g memory size))
