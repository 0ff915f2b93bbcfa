-- A sweep's answer, and what an accepted sweep leaves in each slot.
use mathlib.Core.Path.{◌≡◌, refl, sym, ap, ◌∙◌, subst}
use mathlib.Core.Logic.{◌≢◌}
use mathlib.Core.Bool.{false}
use mathlib.Core.List.{List, [], ◌∷◌, ◌++◌}
use Prim.Native.Nat.{ℕ, zero, suc, ◌+◌, ◌*◌, min}
use native.Mathlib.Omega.{arith}
use native.Mathlib.Nat.{suc-ne-zero, not-suc-le-zero}
use lib.ListN.{length, take, get_or, length-append, length-take}
use lib.Seq.{append_snoc, set_at}
use borrow.Author.Tests.{le-leb, lt-leb}
use Rattle.words.specs.Words.{Store, bytes_to}
use Rattle.rules.specs.declared.Geometry.{Geometry}
use Rattle.rules.specs.declared.State.TheVariants.{Clean, Dirty, Hidden, PreHidden, PreDirty}
use Rattle.rules.specs.declared.Number.TheVariants as No
use Rattle.rules.specs.TableWords.{word_of, Says, free, names, neither, says}
use Rattle.rules.specs.Board.{Board, sizes, phase_of, table_of}
use Rattle.rules.specs.Numbers.{number_of, Check, ◌⇒◌, first_of, out_of_range, is_writing}
use Rattle.rules.specs.Power.{guard, settle}
use Rattle.rules.specs.Loads.{load_number}
use Rattle.rules.specs.Sweeps.{CleanEntry, clean_by, clean_from, lowest_clean, home_copies, hidden, sweep_number, sweep_plan}
use Rattle.rules.specs.Calls.{sweep, plan, call}
use Rattle.rules.specs.Promises.{Leaves, StatesMove}
use Rattle.rules.specs.SweepPromises.{one_if_clean, clean_in, SweepAnswers, SweptWord, SweptSlots}
use Rattle.rules.proofs.TableWordLaws.{says_word, names_word, word_nonzero}
use Rattle.rules.proofs.Checked.{Common, common_passed, past_common}
use Rattle.rules.proofs.Moves.{states_move}

-- ---- a table after a sweep

-- the word of a slot, before the table above it: with as many entries left as before, or with one fewer
unfoldable pub swept_by : Says → ℕ → List ℕ → List ℕ → List ℕ
swept_by free word as_many fewer = word ∷ as_many
swept_by (names block Clean) word as_many fewer = word_of block Hidden ∷ fewer
swept_by (names block Dirty) word as_many fewer = word ∷ as_many
swept_by (names block Hidden) word as_many fewer = word ∷ as_many
swept_by (names block PreHidden) word as_many fewer = word ∷ as_many
swept_by (names block PreDirty) word as_many fewer = word ∷ as_many
swept_by neither word as_many fewer = word ∷ as_many

-- the same in one pass over the table, with no list of entries
unfoldable pub swept_table : ℕ → List ℕ → List ℕ
unfolding swept_by
swept_table zero table = table
swept_table (suc limit) [] = []
swept_table (suc limit) (word ∷ table) = swept_by (says word) word (swept_table (suc limit) table) (swept_table limit table)

-- ---- a word is clean, or a sweep passes over it

pub record PassedOver (x : Says) : Type 0 where
  pub unclean : (block : ℕ) → x ≢ names block Clean
  pub uncounted : one_if_clean x ≡ 0
  pub no_entry : (slot : ℕ) (above : List CleanEntry) → clean_by slot x above ≡ above
  pub stays : (word : ℕ) (as_many fewer : List ℕ) → swept_by x word as_many fewer ≡ word ∷ as_many

pub data CleanOrNot : Says → Type 0 where
  is_clean_entry : (block : ℕ) → CleanOrNot (names block Clean)
  is_not : {x : Says} → PassedOver x → CleanOrNot x

passes : (x : Says) → one_if_clean x ≡ 0 → ((slot : ℕ) (above : List CleanEntry) → clean_by slot x above ≡ above)
    → ((word : ℕ) (as_many fewer : List ℕ) → swept_by x word as_many fewer ≡ word ∷ as_many) → CleanOrNot x
unfolding one_if_clean
passes x none same_entries same_word =
    is_not (record { unclean = λ block e. suc-ne-zero 0 (sym (ap one_if_clean e) ∙ none); uncounted = none; no_entry = same_entries; stays = same_word })

pub clean_or_not : (x : Says) → CleanOrNot x
unfolding one_if_clean clean_by swept_by
clean_or_not free = passes free refl (λ slot above. refl) (λ word as_many fewer. refl)
clean_or_not (names block Clean) = is_clean_entry block
clean_or_not (names block Dirty) = passes (names block Dirty) refl (λ slot above. refl) (λ word as_many fewer. refl)
clean_or_not (names block Hidden) = passes (names block Hidden) refl (λ slot above. refl) (λ word as_many fewer. refl)
clean_or_not (names block PreHidden) = passes (names block PreHidden) refl (λ slot above. refl) (λ word as_many fewer. refl)
clean_or_not (names block PreDirty) = passes (names block PreDirty) refl (λ slot above. refl) (λ word as_many fewer. refl)
clean_or_not neither = passes neither refl (λ slot above. refl) (λ word as_many fewer. refl)

-- ---- the list of entries and the one pass leave the same table

hides_from : (limit slot : ℕ) (front rest : List ℕ) → length front ≡ slot → hidden (take limit (clean_from slot rest)) (front ++ rest) ≡ front ++ swept_table limit rest
unfolding clean_from clean_by hidden swept_table swept_by
hides_from zero slot front rest here = refl
hides_from (suc limit) slot front [] here = refl
hides_from (suc limit) slot front (word ∷ rest) here =
    go (says word) (clean_or_not (says word)) (above (suc limit) word (hides_from (suc limit) (suc slot) (front ++ word ∷ []) rest (longer word)))
    (λ next. above limit next (hides_from limit (suc slot) (front ++ next ∷ []) rest (longer next)))
  where
    longer : (next : ℕ) → length (front ++ next ∷ []) ≡ suc slot
    longer next = length-append front (next ∷ []) ∙ (omega arith)

    above : (left next : ℕ)
        → hidden (take left (clean_from (suc slot) rest)) (front ++ next ∷ [] ++ rest) ≡ front ++ next ∷ [] ++ swept_table left rest
        → hidden (take left (clean_from (suc slot) rest)) (front ++ next ∷ rest) ≡ front ++ next ∷ swept_table left rest
    above left next e =
        ap (hidden (take left (clean_from (suc slot) rest))) (sym (append_snoc front next rest)) ∙ e ∙ append_snoc front next (swept_table left rest)

    go : (x : Says) → CleanOrNot x
        → hidden (take (suc limit) (clean_from (suc slot) rest)) (front ++ word ∷ rest) ≡ front ++ word ∷ swept_table (suc limit) rest
        → ((next : ℕ) → hidden (take limit (clean_from (suc slot) rest)) (front ++ next ∷ rest) ≡ front ++ next ∷ swept_table limit rest)
        → hidden (take (suc limit) (clean_by slot x (clean_from (suc slot) rest))) (front ++ word ∷ rest)
        ≡ front ++ swept_by x word (swept_table (suc limit) rest) (swept_table limit rest)
    go x (is_clean_entry block) as_many fewer =
        ap (hidden (take limit (clean_from (suc slot) rest))) (set_at front word rest (word_of block Hidden) slot here) ∙ fewer (word_of block Hidden)
    go x (is_not over) as_many fewer =
        ap (λ (entries : List CleanEntry). hidden (take (suc limit) entries) (front ++ word ∷ rest)) (over.no_entry slot (clean_from (suc slot) rest))
        ∙ as_many
        ∙ ap (λ (table : List ℕ). front ++ table) (sym (over.stays word (swept_table (suc limit) rest) (swept_table limit rest)))

hides : (limit : ℕ) (table : List ℕ) → hidden (lowest_clean limit table) table ≡ swept_table limit table
unfolding lowest_clean
hides limit table = hides_from limit 0 [] table refl

-- ---- slot by slot

-- a slot above a word: what the word counts for is no longer left
one_above : (limit left word slot : ℕ) (table : List ℕ) (after : ℕ) → limit ≡ one_if_clean (says word) + left → SweptWord left table slot after
    → SweptWord limit (word ∷ table) (suc slot) after
unfolding clean_in
one_above limit left word slot table after e s = record {
  swept = λ block q h. s.swept block q (omega (arith, h));
  above = λ h. s.above (omega (arith, h));
  other = s.other;
}

module _ (limit word : ℕ) (table as_many fewer : List ℕ) where
  lowest_word : SweptWord (suc limit) (word ∷ table) 0 (get_or (swept_by (says word) word as_many fewer) 0 0)
  unfolding swept_by clean_in
  lowest_word = go (says word) refl (clean_or_not (says word))
    where
      go : (x : Says) → says word ≡ x → CleanOrNot x → SweptWord (suc limit) (word ∷ table) 0 (get_or (swept_by x word as_many fewer) 0 0)
      go x q (is_clean_entry block) = record {
        swept = λ named e h. let same : names block Clean ≡ names named Clean = sym q ∙ ap says e ∙ says_word named Clean in ap (λ (k : ℕ). word_of k Hidden) (cc);
        above = λ h. absurd (not-suc-le-zero h);
        other = λ ne. absurd (ne block (names_word word block Clean q));
      }
      go x q (is_not over) =
          let same = ap (λ (z : List ℕ). get_or z 0 0) (over.stays word as_many fewer) in
          record { swept = λ named e h. absurd (over.unclean named (sym q ∙ ap says e ∙ says_word named Clean)); above = λ h. same; other = λ ne. same }

  word_above : (slot : ℕ) → SweptWord (suc limit) table slot (get_or as_many slot 0) → SweptWord limit table slot (get_or fewer slot 0)
      → SweptWord (suc limit) (word ∷ table) (suc slot) (get_or (swept_by (says word) word as_many fewer) (suc slot) 0)
  unfolding swept_by one_if_clean
  word_above slot r s = go (says word) refl (clean_or_not (says word))
    where
      go : (x : Says) → says word ≡ x → CleanOrNot x → SweptWord (suc limit) (word ∷ table) (suc slot) (get_or (swept_by x word as_many fewer) (suc slot) 0)
      go x q (is_clean_entry block) =
          let one : one_if_clean (says word) ≡ 1 = ap one_if_clean q in one_above (suc limit) limit word slot table (get_or fewer slot 0) (omega (arith, one)) s
      go x q (is_not over) =
          let none : one_if_clean (says word) ≡ 0 = ap one_if_clean q ∙ over.uncounted in
          subst (SweptWord (suc limit) (word ∷ table) (suc slot)) (ap (λ (z : List ℕ). get_or z (suc slot) 0) (sym (over.stays word as_many fewer)))
          (one_above (suc limit) (suc limit) word slot table (get_or as_many slot 0) (omega (arith, none)) r)

swept_word : (limit : ℕ) (table : List ℕ) (slot : ℕ) → SweptWord limit table slot (get_or (swept_table limit table) slot 0)
unfolding swept_table
swept_word zero table slot = record { swept = λ block e h. absurd (not-suc-le-zero h); above = λ h. refl; other = λ ne. refl }
swept_word (suc limit) [] slot = record { swept = λ block e h. absurd (word_nonzero block Clean (sym e)); above = λ h. refl; other = λ ne. refl }
swept_word (suc limit) (word ∷ table) zero = lowest_word limit word table (swept_table (suc limit) table) (swept_table limit table)
swept_word (suc limit) (word ∷ table) (suc slot) =
    word_above limit word table (swept_table (suc limit) table) (swept_table limit table) slot (swept_word (suc limit) table slot) (swept_word limit table slot)

-- an accepted sweep leaves this table
pub sweep_table : (p limit : ℕ) (board : Board) → number_of (call p board (sweep limit)).number ≡ 0
    → table_of (call p board (sweep limit)).board ≡ swept_table limit (table_of board)
unfolding StatesMove Leaves
sweep_table p limit board e = (states_move p board (sweep limit)).0 e ∙ hides limit (table_of board)

pub swept_slots : SweptSlots
unfolding SweptSlots
swept_slots p limit board slot e =
    subst (λ (table : List ℕ). SweptWord limit (table_of board) slot (get_or table slot 0)) (sym (sweep_table p limit board e)) (swept_word limit (table_of board) slot)

-- ---- the answer

clean_count : (slot : ℕ) (table : List ℕ) → length (clean_from slot table) ≡ clean_in table
unfolding clean_from clean_by clean_in one_if_clean
clean_count slot [] = refl
clean_count slot (word ∷ table) = go (says word) (clean_or_not (says word)) (clean_count (suc slot) table)
  where
    go : (x : Says) → CleanOrNot x → length (clean_from (suc slot) table) ≡ clean_in table
        → length (clean_by slot x (clean_from (suc slot) table)) ≡ one_if_clean x + clean_in table
    go x (is_clean_entry block) e = omega (arith, e)
    go x (is_not over) e = ap length (over.no_entry slot (clean_from (suc slot) table)) ∙ e ∙ (let none = over.uncounted in omega (arith, none))

pub copies_count : (g : Geometry) (memory : List ℕ) (entries : List CleanEntry) → length (home_copies g memory entries) ≡ 8 * length entries
unfolding home_copies bytes_to
copies_count g memory [] = refl
copies_count g memory (entry ∷ entries) = omega (arith, copies_count g memory entries)

-- the words of a sweep
abbrev swept_words : ℕ → Board → List Store
swept_words limit board = home_copies (sizes board) board.memory (lowest_clean limit (table_of board))

words_count : (limit : ℕ) (board : Board) → length (swept_words limit board) ≡ 8 * min limit (clean_in (table_of board))
unfolding lowest_clean
words_count limit board =
    copies_count (sizes board) board.memory (take limit (clean_from 0 (table_of board)))
    ∙ ap (λ (n : ℕ). 8 * n) (length-take limit (clean_from 0 (table_of board)) ∙ ap (min limit) (clean_count 0 (table_of board)))

pub sweep_answers : SweepAnswers
unfolding SweepAnswers call plan sweep_plan sweep_number load_number guard settle first_of number_of
sweep_answers p limit board e = record {
  busy = λ writing. rw (past_common common checks, writing) (refl, refl);
  done = λ idle h. rw (past_common common checks, idle, words_count limit board, le-leb _ _ h) (refl, refl);
  cut = λ idle h. rw (past_common common checks, idle, words_count limit board, lt-leb _ _ h) (refl, refl);
}
  where
    common : Common board false
    common = (common_passed board false ((out_of_range board 0 0 1 ⇒ No.Range) ∷ []) e).0

    checks : List Check
    checks = (is_writing (phase_of board) ⇒ No.Busy) ∷ []
