-- The clean entries of a table, met slot by slot: their list, their copies, and the table with them hidden.
use mathlib.Core.Path.{◌≡◌, refl, sym, ap, ◌∙◌, subst}
use mathlib.Core.Logic.{◌≢◌}
use mathlib.Core.Bool.{Bool, true, false, cond}
use mathlib.Core.List.{List, [], ◌∷◌, ◌++◌, append_assoc, append-nil}
use Prim.Native.Nat.{ℕ, zero, suc, ◌+◌, ◌*◌, ◌-◌, ◌/◌, ◌%◌, ◌≤◌, ◌<◌}
use native.Mathlib.Omega.{arith}
use native.Mathlib.Nat.{add-zero}
use native.Mathlib.Numerals.{add-one}
use lib.Dec.{ltb}
use lib.ListN.{length, take, drop, get_or, set, length-append, length-take, take-append-drop}
use lib.Seq.{take_all, take-suc, take-append-add, get_or-set_other}
use Rattle.std.specs.List.{sum_by}
use Rattle.std.proofs.lemmas.List.Sums.{sum_by-cons}
use borrow.Author.Tests.{eqb-true, eqb-false, ne_eqb, ltb-true, ltb-false}
use Rattle.words.specs.Words.{Store, Lays, lay, bytes_to, block_at}
use Rattle.words.proofs.All.{All, done, also, all_append, all_take}
use Rattle.words.proofs.Laying.{lays_then}
use Rattle.words.proofs.Lists.{Fit}
use Rattle.words.proofs.Makers.{Laid}
use Rattle.words.proofs.Blocks.{Clear, clear_in, block_clear, block_stores, length_block}
use Rattle.rules.specs.declared.Geometry.{Geometry}
use Rattle.rules.specs.declared.Phase.TheVariants.{Running}
use Rattle.rules.specs.declared.State.TheVariants.{Clean, Hidden}
use Rattle.rules.specs.Geometry.{home_block, checkpoint_block, memory_words}
use Rattle.rules.specs.TableWords.{word_of, Says, names, says}
use Rattle.rules.specs.Numbers.{well_formed, allows}
use Rattle.rules.specs.Sweeps.{CleanEntry, clean_by, clean_from, home_copies, hidden}
use Rattle.rules.specs.SweepPromises.{one_if_clean}
use Rattle.rules.proofs.TableWordLaws.{coded, code_named}
use Rattle.rules.proofs.Checked.{formed_names}
use Rattle.rules.proofs.SweepMoves.{PassedOver, CleanOrNot, is_clean_entry, is_not, clean_or_not}
use Rattle.checks.specs.Tables.{Skipped, Next}
use Rattle.sweeps.specs.Entries.{is_clean}

-- ---- one word

abbrev pub entry_at : ℕ → ℕ → CleanEntry
entry_at slot word = record { slot = slot; block = word / 256 }

pub clean_says : (word : ℕ) → is_clean word ≡ true → says word ≡ names (word / 256) Clean
unfolding is_clean
clean_says word e = coded word Clean (eqb-true (word % 256) 1 e)

clean_here : (slot word : ℕ) → is_clean word ≡ true → clean_by slot (says word) [] ≡ entry_at slot word ∷ []
unfolding clean_by
clean_here slot word e = ap (λ (x : Says). clean_by slot x []) (clean_says word e)

-- a word without that code is one that a sweep passes over
passed_over : (word : ℕ) → is_clean word ≡ false → PassedOver (says word)
unfolding is_clean
passed_over word e = go (says word) refl (clean_or_not (says word))
  where
    go : (x : Says) → says word ≡ x → CleanOrNot x → PassedOver x
    go x q (is_clean_entry block) = absurd (eqb-false (word % 256) 1 e (code_named word block Clean q))
    go x q (is_not over) = over

pub one_counted : (word : ℕ) → word % 256 ≡ 1 → 1 ≡ one_if_clean (says word)
unfolding one_if_clean
one_counted word e = sym (ap one_if_clean (coded word Clean e))

pub none_counted : (word : ℕ) → word % 256 ≢ 1 → 0 ≡ one_if_clean (says word)
unfolding is_clean
none_counted word ne = sym (passed_over word (ne_eqb (word % 256) 1 ne)).uncounted

-- ---- the list, slot by slot

by_front : (slot : ℕ) (x : Says) (above : List CleanEntry) → clean_by slot x above ≡ clean_by slot x [] ++ above
unfolding clean_by
by_front slot x above = go x (clean_or_not x)
  where
    go : (x : Says) → CleanOrNot x → clean_by slot x above ≡ clean_by slot x [] ++ above
    go x (is_clean_entry block) = refl
    go x (is_not over) = over.no_entry slot above ∙ ap (λ (z : List CleanEntry). z ++ above) (sym (over.no_entry slot []))

by_counts : (slot : ℕ) (x : Says) → length (clean_by slot x []) ≡ one_if_clean x
unfolding clean_by one_if_clean
by_counts slot x = go x (clean_or_not x)
  where
    go : (x : Says) → CleanOrNot x → length (clean_by slot x []) ≡ one_if_clean x
    go x (is_clean_entry block) = refl
    go x (is_not over) = ap length (over.no_entry slot []) ∙ sym over.uncounted

-- counted word by word
pub clean_summed : (slot : ℕ) (table : List ℕ) → sum_by (λ word. one_if_clean (says word)) table ≡ length (clean_from slot table)
unfolding clean_from
clean_summed slot [] = refl
clean_summed slot (word ∷ table) =
    let above = clean_from (suc slot) table in
    rw (sum_by-cons, by_front slot (says word) above, length-append, by_counts slot (says word)) (ap (λ (k : ℕ). one_if_clean (says word) + k) (clean_summed (suc slot) table))

one_of : (word : ℕ) → cond (is_clean word) 1 0 ≡ one_if_clean (says word)
unfolding is_clean
one_of word = go (is_clean word) refl
  where
    go : (b : Bool) → is_clean word ≡ b → cond (is_clean word) 1 0 ≡ one_if_clean (says word)
    go true e = rw e (one_counted word (eqb-true (word % 256) 1 e))
    go false e = rw e (none_counted word (eqb-false (word % 256) 1 e))

-- counted by the test of a word
pub clean_counted : (slot : ℕ) (table : List ℕ) → sum_by (λ word. cond (is_clean word) 1 0) table ≡ length (clean_from slot table)
unfolding clean_from
clean_counted slot [] = refl
clean_counted slot (word ∷ table) =
    let above = clean_from (suc slot) table in
    rw (sum_by-cons, one_of word, by_front slot (says word) above, length-append, by_counts slot (says word)) (ap (λ (k : ℕ). one_if_clean (says word) + k) (clean_counted (suc slot) table))

-- no more than there are slots
pub few_entries : (slot : ℕ) (table : List ℕ) → length (clean_from slot table) ≤ length table
unfolding clean_from clean_by
few_entries slot [] = omega arith
few_entries slot (word ∷ table) = go (says word) (clean_or_not (says word)) (few_entries (suc slot) table)
  where
    go : (x : Says) → CleanOrNot x → length (clean_from (suc slot) table) ≤ length table → length (clean_by slot x (clean_from (suc slot) table)) ≤ suc (length table)
    go x (is_clean_entry block) h = omega (arith, h)
    go x (is_not over) h = omega (arith, h, ap length (over.no_entry slot (clean_from (suc slot) table)))

-- those of a table in two parts
clean_parts : (slot : ℕ) (front back : List ℕ) → clean_from slot (front ++ back) ≡ clean_from slot front ++ clean_from (slot + length front) back
unfolding clean_from
clean_parts slot [] back = ap (λ (k : ℕ). clean_from k back) (sym (add-zero slot))
clean_parts slot (word ∷ front) back =
    let e : suc slot + length front ≡ slot + suc (length front) = omega arith in
    let here = clean_by slot (says word) [] in
    ap (clean_by slot (says word)) (clean_parts (suc slot) front back ∙ ap (λ (k : ℕ). clean_from (suc slot) front ++ clean_from k back) e)
    ∙ by_front slot (says word) (clean_from (suc slot) front ++ clean_from (slot + suc (length front)) back)
    ∙ sym (append_assoc here (clean_from (suc slot) front) (clean_from (slot + suc (length front)) back))
    ∙ ap (λ (z : List CleanEntry). z ++ clean_from (slot + suc (length front)) back) (sym (by_front slot (says word) (clean_from (suc slot) front)))

module _ (table : List ℕ) where
  -- the clean entries below a slot
  abbrev pub met : ℕ → List CleanEntry
  met slot = clean_from 0 (take slot table)

  met_more : (slot : ℕ) → slot < length table → met (slot + 1) ≡ met slot ++ clean_by slot (says (get_or table slot 0)) []
  unfolding clean_from
  met_more slot h =
      let e : 0 + length (take slot table) ≡ slot = simp length-take (omega arith) in
      ap (λ (k : ℕ). clean_from 0 (take k table)) (add-one slot)
      ∙ ap (clean_from 0) (take-suc table slot 0 h)
      ∙ clean_parts 0 (take slot table) (get_or table slot 0 ∷ [])
      ∙ ap (λ (k : ℕ). met slot ++ clean_by k (says (get_or table slot 0)) []) e

  -- words that aren't clean add none
  met_skip : (start count : ℕ) → start + count ≤ length table → Skipped is_clean table start (start + count) → met (start + count) ≡ met start
  met_skip start zero h s = ap met (add-zero start)
  met_skip start (suc count) h s =
      let e : start + suc count ≡ (start + count) + 1 = omega arith in
      ap met e
      ∙ met_more (start + count) (omega arith)
      ∙ ap (λ (z : List CleanEntry). met (start + count) ++ z) ((passed_over (get_or table (start + count) 0) (s (start + count) (omega arith) (omega arith))).no_entry (start + count) [])
      ∙ append-nil (met (start + count))
      ∙ met_skip start count (omega arith) (λ i a b. s i a (omega arith))

  -- up to the next clean one
  pub met_next : (start slot : ℕ) → Next is_clean table start slot → met slot ≡ met start
  met_next start slot n =
      let e : slot ≡ start + (slot - start) = omega (arith, n.after) in
      ap met e ∙ met_skip start (slot - start) (omega (arith, n.after, n.within)) (λ i a b. n.between i a (omega (arith, n.after)))

  -- and with it
  pub met_here : (start slot : ℕ) → Next is_clean table start slot → slot < length table → met (slot + 1) ≡ met start ++ (entry_at slot (get_or table slot 0) ∷ [])
  met_here start slot n h =
      met_more slot h
      ∙ ap (λ (z : List CleanEntry). met slot ++ z) (clean_here slot (get_or table slot 0) (n.here h))
      ∙ ap (λ (z : List CleanEntry). z ++ (entry_at slot (get_or table slot 0) ∷ [])) (met_next start slot n)

  met_all : (slot : ℕ) → length table ≤ slot → met slot ≡ clean_from 0 table
  met_all slot h = ap (clean_from 0) (take_all slot table h)

  -- while fewer were met than there are, there is a next one
  pub met_goes_on : (start slot : ℕ) → Next is_clean table start slot → length (met start) < length (clean_from 0 table) → slot < length table
  met_goes_on start slot n h = go (ltb slot (length table)) refl
    where
      go : (t : Bool) → ltb slot (length table) ≡ t → slot < length table
      go true e = ltb-true slot (length table) e
      go false e =
          let same = sym (met_all slot (ltb-false slot (length table) e)) ∙ met_next start slot n in
          absurd (omega (arith, h, ap length same))

  -- those met are the lowest
  pub met_lowest : (slot : ℕ) → met slot ≡ take (length (met slot)) (clean_from 0 table)
  met_lowest slot =
      sym
      (ap (λ (z : List ℕ). take (length (met slot)) (clean_from 0 z)) (sym (take-append-drop slot table))
      ∙ ap (take (length (met slot))) (clean_parts 0 (take slot table) (drop slot table))
      ∙ ap (λ (k : ℕ). take k (met slot ++ clean_from (0 + length (take slot table)) (drop slot table))) (sym (add-zero (length (met slot))))
      ∙ take-append-add (met slot) (clean_from (0 + length (take slot table)) (drop slot table)) 0
      ∙ append-nil (met slot))

-- ---- the copies

abbrev copy_of : Geometry → List ℕ → CleanEntry → List Store
copy_of g memory entry = bytes_to (8 * home_block g entry.block) 8 (block_at memory (checkpoint_block g entry.slot))

copies_last : (g : Geometry) (memory : List ℕ) (entries : List CleanEntry) (entry : CleanEntry)
    → home_copies g memory (entries ++ (entry ∷ [])) ≡ home_copies g memory entries ++ copy_of g memory entry
unfolding home_copies
copies_last g memory [] entry = append-nil (copy_of g memory entry)
copies_last g memory (first ∷ entries) entry =
    ap (λ (z : List Store). copy_of g memory first ++ z) (copies_last g memory entries entry)
    ∙ sym (append_assoc (copy_of g memory first) (home_copies g memory entries) (copy_of g memory entry))

-- entries of the board, in slots below one
pub record Within (g : Geometry) (high : ℕ) (entry : CleanEntry) : Type 0 where
  pub block : entry.block < g.blocks
  pub slot : entry.slot < high

pub clean_within : (g : Geometry) (high slot : ℕ) {table : List ℕ} → All (λ w. well_formed (allows Running) g w ≡ true) table → slot + length table ≤ high
    → All (Within g high) (clean_from slot table)
unfolding clean_from clean_by
clean_within g high slot done h = done
clean_within g high slot (also {x = word} {xs = table} f fs) h = go (says word) refl (clean_or_not (says word)) (clean_within g high (suc slot) fs (omega arith))
  where
    go : (x : Says) → says word ≡ x → CleanOrNot x → All (Within g high) (clean_from (suc slot) table) → All (Within g high) (clean_by slot x (clean_from (suc slot) table))
    go x q (is_clean_entry block) above =
        also {x = record { slot = slot; block = block }} (record { block = (formed_names (allows Running) g word block Clean f q).0; slot = omega arith }) above
    go x q (is_not over) above = subst (All (Within g high)) (sym (over.no_entry slot (clean_from (suc slot) table))) above

module _ (g : Geometry) (memory : List ℕ) (m : length memory ≡ 8 * memory_words g) (high : ℕ) (low : high ≤ g.slots) where
  -- the stores of an entry fit, and lie in HOME
  copy_laid : (entry : CleanEntry) → Within g high entry → Laid (8 * home_block g entry.block) 8 (length memory) (copy_of g memory entry)
  copy_laid entry w =
      block_stores entry.block (length memory) (block_at memory (checkpoint_block g entry.slot))
      (length_block memory (checkpoint_block g entry.slot) (omega (arith, m, w.slot))) (omega (arith, m, w.block))

  copies_fit : {entries : List CleanEntry} → All (Within g high) entries → All (Fit (length memory)) (home_copies g memory entries)
  unfolding home_copies
  copies_fit done = done
  copies_fit (also {x = entry} w ws) = all_append (copy_laid entry w).fits (copies_fit ws)

  copies_clear : (slot : ℕ) {entries : List CleanEntry} → All (Within g high) entries → All (Clear (checkpoint_block g slot)) (home_copies g memory entries)
  unfolding home_copies
  copies_clear slot done = done
  copies_clear slot (also {x = entry} w ws) =
      all_append (clear_in (checkpoint_block g slot) (home_block g entry.block) (λ e. omega (arith, w.block)) (copy_laid entry w).inside) (copies_clear slot ws)

  module _ {entries : List CleanEntry} (ws : All (Within g high) entries) {p words : ℕ} {memory' : List ℕ} (laid : Lays p (home_copies g memory entries) memory memory' words) where
    -- no CHECKPOINT block changes on the way
    still_there : (slot : ℕ) → block_at memory' (checkpoint_block g slot) ≡ block_at memory (checkpoint_block g slot)
    still_there slot =
        ap (λ (z : List ℕ). block_at z (checkpoint_block g slot)) laid.bytes
        ∙ block_clear (take p (home_copies g memory entries)) memory (checkpoint_block g slot) (all_take p (copies_fit ws)) (all_take p (copies_clear slot ws))

    -- one entry more, copied from the memory as it stands then
    pub laid_more : (left : ℕ) (entry : CleanEntry) {memory'' : List ℕ} {r : ℕ} → left ≡ p - words → Lays left (copy_of g memory' entry) memory' memory'' r
        → Lays p (home_copies g memory (entries ++ (entry ∷ []))) memory memory'' (words + r)
    laid_more left entry {memory''} {r} e b =
        rw (copies_last g memory entries entry)
        (lays_then laid
        (subst (λ (z : List ℕ). Lays (p - words) (bytes_to (8 * home_block g entry.block) 8 z) memory' memory'' r) (still_there entry.slot)
        (subst (λ (n : ℕ). Lays n (copy_of g memory' entry) memory' memory'' r) e b)))

-- a block laid whole under one allowance is laid under any other that is enough
pub block_enough : (place : ℕ) (bytes : List ℕ) {words : ℕ} {memory memory' : List ℕ} (q : ℕ) → 8 ≤ q → Lays 8 (bytes_to place 8 bytes) memory memory' words
    → Lays q (bytes_to place 8 bytes) memory memory' words
unfolding bytes_to
block_enough place bytes {words} {memory} q h l =
    record { words = l.words; bytes = l.bytes ∙ ap (λ (z : List Store). lay z memory) (sym (take_all q (bytes_to place 8 bytes) h)) }

-- ---- the table with entries hidden

pub hidden_last : (entries : List CleanEntry) (entry : CleanEntry) (table : List ℕ)
    → hidden (entries ++ (entry ∷ [])) table ≡ set (hidden entries table) entry.slot (word_of entry.block Hidden)
unfolding hidden
hidden_last [] entry table = refl
hidden_last (first ∷ entries) entry table = hidden_last entries entry (set table first.slot (word_of first.block Hidden))

-- slots from `high` on are as they were
pub hidden_above : (g : Geometry) (high : ℕ) {entries : List CleanEntry} (table : List ℕ) → All (Within g high) entries → (i : ℕ) → high ≤ i
    → get_or (hidden entries table) i 0 ≡ get_or table i 0
unfolding hidden
hidden_above g high table done i h = refl
hidden_above g high table (also {x = entry} w ws) i h =
    hidden_above g high (set table entry.slot (word_of entry.block Hidden)) ws i h
    ∙ get_or-set_other table entry.slot i (word_of entry.block Hidden) 0 (λ e. omega (arith, w.slot))

-- the word of a clean entry made hidden
pub hidden_word : (word : ℕ) → is_clean word ≡ true → word + 2 ≡ word_of (word / 256) Hidden
unfolding is_clean word_of
hidden_word word e = let h = eqb-true (word % 256) 1 e in omega arith
