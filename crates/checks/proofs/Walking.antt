-- The slots of a table, gone through from the first on: every word tested, the lowest that names a block, the lowest free one.
use Rattle.std.proofs.Common.{◌≡◌, ℕ, zero, suc, ◌+◌, ◌%◌, ◌<◌, ◌≤◌, Bool, true, false, cond, not, ◌&&◌, eqb, ltb, ◌≢◌, List, [], ◌∷◌, length, get_or, take, drop, ◌-◌, sym, refl, ap, ◌∙◌, subst, add-one, arith, take_all, ltb-false, ltb-true, eqb-true}
use native.Mathlib.Decide.{ℕ_discrete}
use borrow.Author.Tests.{eqb-false}
use Rattle.rules.specs.declared.Geometry.{Geometry}
use Rattle.std.specs.Prelude.{Option, Some, None, Result, Ok, Err, IsOk}
use Rattle.std.specs.List.{position, position_or_len}
use Rattle.std.proofs.lemmas.List.{get_or-take, get_or-drop, length-take-le, length-drop}
use Rattle.std.proofs.lemmas.List.Sums.{fails_before_first, passes_at_first}
use Rattle.rules.specs.declared.State.{State}
use Rattle.rules.specs.declared.codes.NoState.{NoState}
use Rattle.rules.specs.declared.Entry.{Entry}
use Rattle.rules.specs.TableWords.{StateOf, entry_at, Says, free, names, neither, says, code_of, lookup, slot_on, free_by, lowest_free, every}
use Rattle.rules.specs.Numbers.{well_formed}
use Rattle.rules.proofs.Clashes.{and_left, and_right}
use Rattle.rules.proofs.TableWordLaws.{says_zero, free_word}
use Rattle.rules.proofs.Finding.{finds_lookup, finds_here, finds_nothing}
use Rattle.checks.specs.Tables.{Skipped, Among, Next, NextOf, Lowest, LowestOf, Formed, of_block, wanted}
use Rattle.checks.proofs.Words.{Named, formed_word, named_by, names_state, skipped, free_of}

-- ---- every word

pub every_none : (test : ℕ → Bool) → true ≡ every test []
unfolding every
every_none test = refl

every_next : (test : ℕ → Bool) (table : List ℕ) (i : ℕ) → i < length table
    → every test (take i table) && test (get_or table i 0) ≡ every test (take (suc i) table)
unfolding every
every_next test [] i h = absurd (omega arith)
every_next test (word ∷ table) zero h = go (test word)
  where
    go : (b : Bool) → b ≡ b && true
    go true = refl
    go false = refl
every_next test (word ∷ table) (suc i) h = go (test word) (every_next test table i (omega arith))
  where
    go : (b : Bool) → every test (take i table) && test (get_or table i 0) ≡ every test (take (suc i) table)
        → (b && every test (take i table)) && test (get_or table i 0) ≡ b && every test (take (suc i) table)
    go true e = e
    go false e = refl

-- a flag gathered over the slots below i, and slot i
pub every_more : (test : ℕ → Bool) (table : List ℕ) (i : ℕ) {flag here : Bool} → i < length table → flag ≡ every test (take i table)
    → here ≡ test (get_or table i 0) → flag && here ≡ every test (take (i + 1) table)
every_more test table i h e f = rw (e, f, add-one) (every_next test table i h)

pub every_all : (test : ℕ → Bool) (table : List ℕ) (i : ℕ) → length table ≤ i → every test (take i table) ≡ every test table
every_all test table i h = ap (every test) (take_all i table h)

pub every_at : (test : ℕ → Bool) (table : List ℕ) (i : ℕ) → every test table ≡ true → i < length table → test (get_or table i 0) ≡ true
unfolding every
every_at test [] i e h = absurd (omega arith)
every_at test (word ∷ table) zero e h = and_left (test word) (every test table) e
every_at test (word ∷ table) (suc i) e h = every_at test table i (and_right (test word) (every test table) e) (omega arith)

pub formed_table : (allowed : State → Bool) (g : Geometry) (table : List ℕ) → g.blocks ≤ 4096 → every (well_formed allowed g) table ≡ true → Formed table
formed_table allowed g table h e = λ i l. formed_word allowed g (get_or table i 0) h (every_at (well_formed allowed g) table i e l)

-- ---- words skipped

pub skip_none : (test : ℕ → Bool) (table : List ℕ) (start end : ℕ) → end ≤ start → Skipped test table start end
skip_none test table start end h = λ i a b. absurd (omega arith)

pub skip_next : (test : ℕ → Bool) (table : List ℕ) (start end next : ℕ) → next ≡ end + 1 → Skipped test table start end → test (get_or table end 0) ≡ false
    → Skipped test table start next
skip_next test table start end next e s f =
    λ i a b. elim (ℕ_discrete i end) [ yes q ↦ subst (λ (k : ℕ). test (get_or table k 0) ≡ false) (sym q) f | no ne ↦ s i a (omega arith) ]

pub skip_on : (test : ℕ → Bool) (table : List ℕ) (start middle end : ℕ) → Skipped test table start middle → Skipped test table middle end → Skipped test table start end
skip_on test table start middle end s t = λ i a b. go i a b (ltb i middle) refl
  where
    go : (i : ℕ) → start ≤ i → i < end → (b : Bool) → ltb i middle ≡ b → test (get_or table i 0) ≡ false
    go i a h true e = s i a (ltb-true i middle e)
    go i a h false e = t i (ltb-false i middle e) h

pub skip_less : (test : ℕ → Bool) (table : List ℕ) (start end less : ℕ) → less ≤ end → Skipped test table start end → Skipped test table start less
skip_less test table start end less h s = λ i a b. s i a (omega arith)

pub skip_more : (test : ℕ → Bool) (table : List ℕ) (start middle end next : ℕ) → next ≤ end → Skipped test table start middle → Skipped test table middle end
    → Skipped test table start next
skip_more test table start middle end next h s t = skip_less test table start end next h (skip_on test table start middle end s t)

-- the first word that passes in a part of the table

pub among : (test : ℕ → Bool) (table : List ℕ) (start count : ℕ) {size : ℕ} → size ≡ count → start + count ≤ length table
    → {r : Option ℕ} → r ≡ position test (take size (drop start table)) → Among test table start count r
among test table start count {size} q h e = subst (Among test table start count) (sym e) (go (ltb first (length part)) refl)
  where
    part : List ℕ
    part = take size (drop start table)

    first : ℕ
    first = position_or_len test part

    long : length part ≡ count
    long = length-take-le size (drop start table) (omega (arith, q, length-drop start table)) ∙ q

    at : (k : ℕ) → k < count → get_or part k 0 ≡ get_or table (start + k) 0
    at k b = get_or-take size (drop start table) k 0 (omega (arith, q)) ∙ get_or-drop start table k 0

    below : (k : ℕ) → k < first → k < count → test (get_or table (start + k) 0) ≡ false
    below k f b = ap test (sym (at k b)) ∙ fails_before_first test part k 0 f

    passed : (last : ℕ) → last ≤ count → last ≤ first → Skipped test table start (start + last)
    passed last l m = λ i a b.
        let e : start + (i - start) ≡ i = omega arith in
        subst (λ (k : ℕ). test (get_or table k 0) ≡ false) e (below (i - start) (omega arith) (omega arith))

    go : (b : Bool) → ltb first (length part) ≡ b → Among test table start count (cond b (Some first) None)
    go true t =
        let l : first < count = subst (λ (k : ℕ). first < k) long (ltb-true first (length part) t) in
        (l, passed first (omega arith) (omega arith), ap test (sym (at first l)) ∙ passes_at_first test part 0 (ltb-true first (length part) t))
    go false t = passed count (omega arith) (let l = ltb-false first (length part) t in omega (arith, long))

-- the same up to the end of the table

pub next_none : (test : ℕ → Bool) (table : List ℕ) (start count : ℕ) → start + count ≡ length table → Among test table start count None → NextOf test table start None
next_none test table start count q a =
    record { after = omega arith; within = omega arith; between = λ i b c. a i b (omega arith); here = λ l. absurd (omega arith) }

pub next_some : (test : ℕ → Bool) (table : List ℕ) (start count offset : ℕ) → start + count ≡ length table → Among test table start count (Some offset)
    → NextOf test table start (Some (start + offset))
next_some test table start count offset q a =
    let h : start + offset < length table = omega (arith, a.0, q) in
    (record { after = omega arith; within = omega arith; between = a.1; here = λ l. a.2 }, h)

-- the same from an earlier start
pub next_on : (test : ℕ → Bool) (table : List ℕ) (start middle slot : ℕ) → start ≤ middle → Skipped test table start middle → Next test table middle slot
    → Next test table start slot
next_on test table start middle slot h s n = record {
  after = omega (arith, n.after);
  within = n.within;
  between = skip_on test table start middle slot s n.between;
  here = n.here;
}

-- ---- from one word of the block to the next, up to the one that is wanted

module _ (block : ℕ) (vacant : Bool) (table : List ℕ) (start slot : ℕ) (before : Skipped (wanted block vacant) table 0 start) (next : Next (of_block block) table start slot) where
  not_of : (word : ℕ) → of_block block word ≡ false → wanted block vacant word ≡ false
  unfolding wanted
  not_of word e = rw e

  -- no slot below the next word of the block is the one that is wanted
  up_to : Skipped (wanted block vacant) table 0 slot
  up_to = skip_on (wanted block vacant) table 0 start slot before (λ i a b. not_of (get_or table i 0) (next.between i a b))

  abbrev vacancyOf : ℕ → Bool
  vacancyOf word = cond vacant (eqb word 0) (not (eqb word 0))

  pub wanted_here : slot < length table → vacancyOf (get_or table slot 0) ≡ true → Lowest (wanted block vacant) table slot × (slot < length table)
  unfolding wanted
  wanted_here h v = (record { within = next.within; before = λ i b. up_to i (omega arith) b; here = λ l. rw (next.here h) v }, h)

  pub not_here : slot < length table → vacancyOf (get_or table slot 0) ≡ false → Skipped (wanted block vacant) table 0 (slot + 1)
  unfolding wanted
  not_here h v = skip_next (wanted block vacant) table 0 slot (slot + 1) refl up_to (rw (next.here h) v)

  pub nowhere : slot ≡ length table → Lowest (wanted block vacant) table slot
  nowhere e = record { within = next.within; before = λ i b. up_to i (omega arith) b; here = λ l. absurd (omega arith) }

-- ---- the lowest slot that names a block

module _ (block slot : ℕ) (table : List ℕ) (small : block < 4096) (formed : Formed table) (l : Lowest (wanted block false) table slot) where
  pub named_here : slot < length table → Named block (get_or table slot 0)
  named_here h = named_by block (get_or table slot 0) (formed slot h) (l.here h)

  pub found : (state : State) → slot < length table → code_of state ≡ get_or table slot 0 % 256 → entry_at slot state ≡ lookup block table
  found state h e =
      sym
      (finds_lookup
      (finds_here block table slot state h (λ i b. skipped block (get_or table i 0) small (l.before i b)) (names_state block (get_or table slot 0) state (named_here h) e)))

  pub none_found : length table ≤ slot → None ≡ lookup block table
  none_found h = sym (finds_lookup (finds_nothing block table (λ i b. skipped block (get_or table i 0) small (l.before i (omega arith)))))

-- ---- the state of a code

pub has_state : (code : ℕ) (r : Result State NoState) → StateOf code r → 1 ≤ code → code ≤ 5 → IsOk r
has_state code (Ok state) m low high = refl
has_state code (Err e) m low high = let h = m.1 low in absurd (omega arith)

pub state_is : (code : ℕ) (r : Result State NoState) (state : State) → StateOf code r → r ≡ Ok state → code_of state ≡ code
state_is code r state m q = subst (StateOf code) q m

-- ---- the lowest free slot

taken : (word : ℕ) → word ≢ 0 → (rest : Option ℕ) → free_by (says word) rest ≡ slot_on rest
unfolding free_by
taken word ne rest = go (says word) refl
  where
    go : (x : Says) → says word ≡ x → free_by x rest ≡ slot_on rest
    go free e = absurd (ne (free_word word e))
    go (names k state) e = refl
    go neither e = refl

vacant : (word : ℕ) → word ≡ 0 → (rest : Option ℕ) → Some 0 ≡ free_by (says word) rest
unfolding free_by
vacant word e rest = ap (λ (x : Says). free_by x rest) (sym (ap says e ∙ says_zero))

free_here : (table : List ℕ) (slot : ℕ) → slot < length table → ((i : ℕ) → i < slot → get_or table i 0 ≢ 0) → get_or table slot 0 ≡ 0
    → Some slot ≡ lowest_free table
unfolding lowest_free
free_here [] slot h b e = absurd (omega arith)
free_here (word ∷ table) zero h b e = vacant word e (lowest_free table)
free_here (word ∷ table) (suc slot) h b e =
    ap slot_on (free_here table slot (omega arith) (λ i l. b (suc i) (omega arith)) e) ∙ sym (taken word (b 0 (omega arith)) (lowest_free table))

free_never : (table : List ℕ) → ((i : ℕ) → i < length table → get_or table i 0 ≢ 0) → None ≡ lowest_free table
unfolding lowest_free
free_never [] b = refl
free_never (word ∷ table) b = ap slot_on (free_never table (λ i l. b (suc i) (omega arith))) ∙ sym (taken word (b 0 (omega arith)) (lowest_free table))

module _ (table : List ℕ) (slot : ℕ) (l : Lowest (wanted 0 true) table slot) where
  taken_before : (i : ℕ) → i < slot → get_or table i 0 ≢ 0
  taken_before i h = eqb-false (get_or table i 0) 0 (sym (free_of (get_or table i 0)) ∙ l.before i h)

  free_found : slot < length table → Some slot ≡ lowest_free table
  free_found h = free_here table slot h taken_before (eqb-true (get_or table slot 0) 0 (sym (free_of (get_or table slot 0)) ∙ l.here h))

  free_none : length table ≤ slot → None ≡ lowest_free table
  free_none h = free_never table (λ i b. taken_before i (omega arith))

pub lowest_is : (table : List ℕ) (r : Option ℕ) → LowestOf (wanted 0 true) table r → r ≡ lowest_free table
lowest_is table None l = free_none table (length table) l (omega arith)
lowest_is table (Some slot) l = free_found table slot l.0 l.1
