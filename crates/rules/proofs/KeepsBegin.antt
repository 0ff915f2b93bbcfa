-- A begin keeps the invariant.
use mathlib.Core.Path.{◌≡◌, refl, sym, ap, ◌∙◌, subst}
use mathlib.Core.Logic.{◌≢◌}
use mathlib.Core.Bool.{Bool, true, false, not, ◌&&◌}
use mathlib.Core.List.{List, [], ◌∷◌, ◌++◌, map}
use Prim.Native.Nat.{ℕ, zero, suc, ◌+◌, ◌*◌, ◌≤◌, ◌<◌}
use native.Mathlib.Omega.{arith}
use native.Mathlib.Nat.{le_refl, suc-ne-zero, not-suc-le-zero, zero-add}
use native.Mathlib.Decide.{ℕ_discrete}
use lib.Dec.{eqb, ltb}
use lib.ListN.{length, get_or, length-map}
use borrow.Author.Tests.{eqb-true, not-false, ltb-true}
use Rattle.std.specs.Prelude.{Option, None, Some}
use Rattle.words.specs.Words.{word, block_at, Store, lay, bytes_to}
use Rattle.words.proofs.All.{All, done, all_take, all_append, all_map}
use Rattle.words.proofs.Lists.{Fit, lay-length, lay-append}
use Rattle.words.proofs.Blocks.{Clear, clear_in, block_clear, block_laid, block_stores, length_block}
use Rattle.rules.specs.declared.Geometry.{Geometry}
use Rattle.rules.specs.declared.Backup.{Backup}
use Rattle.rules.specs.declared.Phase.{Phase}
use Rattle.rules.specs.declared.Phase.TheVariants.{Running, Writing, Off}
use Rattle.rules.specs.declared.State.{State}
use Rattle.rules.specs.declared.State.TheVariants.{Clean, Dirty, Hidden, PreHidden, PreDirty}
use Rattle.rules.specs.declared.Entry.{Entry}
use Rattle.rules.specs.declared.Number.TheVariants as No
use Rattle.rules.specs.Geometry.{memory_words, checkpoint_block}
use Rattle.rules.specs.TableWords.{entry_at, word_of, Says, free, names, neither, says, lookup, entry_or, changed_by, changed}
use Rattle.rules.specs.Board.{Board, sizes, phase_of, cache_of, table_of}
use Rattle.rules.specs.Numbers.{number_of, ◌⇒◌, inexact, is_off, while_writing, allows, well_said, well_formed, is_writing}
use Rattle.rules.specs.Power.{Plan, carry}
use Rattle.rules.specs.Loads.{in_memory, spot_in, spot_of, block_in, visible}
use Rattle.rules.specs.Checkpoints.{copied_to, copy_of, copies, begun, begin_number, begin_plan, saved}
use Rattle.rules.specs.Starts.{saved_by, saved_block}
use Rattle.rules.specs.Calls.{begin}
use Rattle.rules.specs.PlainMachine.{Plain, did}
use Rattle.rules.proofs.Clashes.{false_true, none_some, and_left, or_false}
use Rattle.rules.proofs.TableWordLaws.{says_word}
use Rattle.rules.proofs.Finding.{Finds, finds, finds_lookup, found_at, found_lt, not_found}
use Rattle.rules.proofs.Apart.{apart_at, apart_finds}
use Rattle.rules.proofs.Changing.{found_or, found, changed_finds, changed_apart, all_over, all_get}
use Rattle.rules.proofs.Saving.{Loose, in_block, kept_whole}
use Rattle.rules.proofs.Checked.{passed, Common, common_passed}
use Rattle.rules.proofs.Invariant.{standing, Live, Mode, mode_running, mode_writing, Inv, Keeps, k_carry, did_not, note_loose, guarded, stopped}
use Rattle.rules.proofs.KeepsStore.{home_loose, slot_loose, gone_old}
use Rattle.rules.proofs.EntryCases.{Case, nothing, in_slot, case_of}

-- ---- the list of copies, slot by slot

-- of a table whose first word is that of slot `first`, this slot is copied to block q of the memory
pub data Goes (g : Geometry) : ℕ → List ℕ → ℕ → ℕ → Type 0 where
  here : {first word q : ℕ} {table : List ℕ} → copied_to g first (says word) ≡ Some q → Goes g first (word ∷ table) first q
  there : {first word slot q : ℕ} {table : List ℕ} → Goes g (suc first) table slot q → Goes g first (word ∷ table) slot q

goes_from : {g : Geometry} {first slot q : ℕ} {table : List ℕ} → Goes g first table slot q → first ≤ slot
goes_from {first = first} (here e) = le_refl first
goes_from (there x) = let h = goes_from x in omega arith

goes_at : {g : Geometry} {first slot q : ℕ} {table : List ℕ} → Goes g first table slot q
    → (j : ℕ) × ((slot ≡ first + j) × (j < length table) × (copied_to g slot (says (get_or table j 0)) ≡ Some q))
goes_at {first = first} (here {table = table} e) = (0, (omega arith, omega arith, e))
goes_at {first = first} (there {table = table} x) = let r = goes_at x in (suc r.0, (omega (arith, r.1.0), omega (arith, r.1.1), r.1.2))

at_goes : (g : Geometry) (first q j : ℕ) (table : List ℕ) → j < length table → copied_to g (first + j) (says (get_or table j 0)) ≡ Some q → Goes g first table (first + j) q
at_goes g first q j [] h e = absurd (not-suc-le-zero h)
at_goes g first q zero (word ∷ table) h e =
    let z : first ≡ first + 0 = omega arith in
    subst (λ (n : ℕ). Goes g first (word ∷ table) n q) z (here (subst (λ (n : ℕ). copied_to g n (says word) ≡ Some q) (sym z) e))
at_goes g first q (suc j) (word ∷ table) h e =
    let z : suc first + j ≡ first + suc j = omega arith in
    subst (λ (n : ℕ). Goes g first (word ∷ table) n q) z
    (there (at_goes g (suc first) q j table (omega arith) (subst (λ (n : ℕ). copied_to g n (says (get_or table j 0)) ≡ Some q) (sym z) e)))

module _ (g : Geometry) (cache : List ℕ) where
  -- a property of every store of the list follows from the copies of the slots
  pub copies_all : (P : Store → Type 0) (table : List ℕ) (first : ℕ)
      → ((slot q : ℕ) → Goes g first table slot q → All P (bytes_to (8 * q) 8 (block_at cache slot)))
      → All P (copies g cache first table)
  unfolding copies copy_of
  copies_all P [] first h = done
  copies_all P (word ∷ table) first h =
      all_append (one (copied_to g first (says word)) (λ q e. h first q (here e))) (copies_all P table (suc first) (λ slot q x. h slot q (there x)))
    where
      one : (o : Option ℕ) → ((q : ℕ) → o ≡ Some q → All P (bytes_to (8 * q) 8 (block_at cache first))) → All P (copy_of cache first o)
      one None f = done
      one (Some q) f = f q refl

  -- every copy is 64 bytes of CACHE and has room in a memory of so many bytes
  pub Fits : ℕ → ℕ → List ℕ → Type 0
  Fits size first table = (slot q : ℕ) → Goes g first table slot q → (64 * q + 64 ≤ size) × (length (block_at cache slot) ≡ 64)

  copies_fit : (size : ℕ) (table : List ℕ) (first : ℕ) → Fits size first table → All (Fit size) (copies g cache first table)
  unfolding Fits
  copies_fit size table first h =
      copies_all (Fit size) table first (λ slot q x. let f = h slot q x in (block_stores q size (block_at cache slot) f.1 f.0).fits)

  -- a block to which no slot is copied
  copies_clear : (size : ℕ) (table : List ℕ) (first q : ℕ) → Fits size first table → ((slot : ℕ) → Goes g first table slot q → ⊥) → All (Clear q) (copies g cache first table)
  unfolding Fits
  copies_clear size table first q f h =
      copies_all (Clear q) table first
      (λ slot a x. let r = f slot a x in
      clear_in q a (λ z. h slot (subst (Goes g first table slot) (sym z) x)) (block_stores a size (block_at cache slot) r.1 r.0).inside)

  copies_cons : (word : ℕ) (table : List ℕ) (first : ℕ) → copies g cache first (word ∷ table) ≡ copy_of cache first (copied_to g first (says word)) ++ copies g cache (suc first) table
  unfolding copies
  copies_cons word table first = refl

  copy_some : (slot q : ℕ) → copy_of cache slot (Some q) ≡ bytes_to (8 * q) 8 (block_at cache slot)
  unfolding copy_of
  copy_some slot q = refl

  first_fit : (size word : ℕ) (table : List ℕ) (first : ℕ) → Fits size first (word ∷ table) → All (Fit size) (copy_of cache first (copied_to g first (says word)))
  unfolding Fits copy_of
  first_fit size word table first f = go (copied_to g first (says word)) (λ q e. f first q (here e))
    where
      go : (o : Option ℕ) → ((q : ℕ) → o ≡ Some q → (64 * q + 64 ≤ size) × (length (block_at cache first) ≡ 64)) → All (Fit size) (copy_of cache first o)
      go None h = done
      go (Some q) h = let r = h q refl in (block_stores q size (block_at cache first) r.1 r.0).fits

  -- a block to which one slot is copied holds that slot's block afterwards
  copies_hit : {first slot q : ℕ} {table : List ℕ} (memory : List ℕ)
      → Fits (length memory) first table
      → Goes g first table slot q
      → ((i : ℕ) → Goes g first table i q → i ≡ slot)
      → block_at (lay (copies g cache first table) memory) q ≡ block_at cache slot
  unfolding Fits
  copies_hit {first} {slot} {q} memory f (here {word = word} {table = table} e) u =
      let r = f first q (here e) in
      let rest : List Store = copies g cache (suc first) table in
      let one : List Store = bytes_to (8 * q) 8 (block_at cache first) in
      let memory' : List ℕ = lay one memory in
      let same : length memory' ≡ length memory = lay-length one memory (block_stores q (length memory) (block_at cache first) r.1 r.0).fits in
      let f' : Fits (length memory') (suc first) table = subst (λ (n : ℕ). Fits n (suc first) table) (sym same) (λ i a x. f i a (there x)) in
      ap (λ (x : List Store). block_at (lay x memory) q) (copies_cons word table first ∙ ap (λ (x : List Store). x ++ rest) (ap (copy_of cache first) e ∙ copy_some first q))
      ∙ ap (λ (x : List ℕ). block_at x q) (lay-append one rest memory)
      ∙ block_clear rest memory' q (copies_fit (length memory') table (suc first) f')
      (copies_clear (length memory') table (suc first) q f' (λ i x. let lo = goes_from x in let z = u i (there x) in omega arith))
      ∙ block_laid memory q (block_at cache first) r.1 r.0
  copies_hit {first} {slot} {q} memory f (there {word = word} {table = table} x) u =
      let one : List Store = copy_of cache first (copied_to g first (says word)) in
      let memory' : List ℕ = lay one memory in
      let same : length memory' ≡ length memory = lay-length one memory (first_fit (length memory) word table first f) in
      ap (λ (y : List Store). block_at (lay y memory) q) (copies_cons word table first)
      ∙ ap (λ (y : List ℕ). block_at y q) (lay-append one (copies g cache (suc first) table) memory)
      ∙ copies_hit memory' (subst (λ (n : ℕ). Fits n (suc first) table) (sym same) (λ i a y. f i a (there y))) x (λ i y. u i (there y))

-- ---- which slot goes where

pub data Aims (g : Geometry) (slot word q : ℕ) : Type 0 where
  to_home : says word ≡ names q PreHidden → Aims g slot word q
  to_checkpoint : (block : ℕ) → says word ≡ names block PreDirty → q ≡ checkpoint_block g slot → Aims g slot word q

aims : (g : Geometry) (slot word q : ℕ) → copied_to g slot (says word) ≡ Some q → Aims g slot word q
unfolding copied_to
aims g slot word q = go (says word) refl
  where
    go : (x : Says) → says word ≡ x → copied_to g slot x ≡ Some q → Aims g slot word q
    go free e h = absurd (none_some q h)
    go neither e h = absurd (none_some q h)
    go (names block Clean) e h = absurd (none_some q h)
    go (names block Dirty) e h = absurd (none_some q h)
    go (names block Hidden) e h = absurd (none_some q h)
    go (names block PreHidden) e h = to_home (let z : block ≡ q = cc in e ∙ ap (λ (n : ℕ). names n PreHidden) z)
    go (names block PreDirty) e h = to_checkpoint block e (cc)

-- ---- the board after the copies

module _ (g : Geometry) (memory cache table : List ℕ) (live : ℕ → List ℕ) (sh : Live g (allows Running) memory cache table live)
    (lm : length memory ≡ 8 * memory_words g) (lc : length cache ≡ 64 * g.slots) (lt : length table ≡ g.slots) where
  goes_aims : (slot q : ℕ) → Goes g 0 table slot q → (slot < g.slots) × Aims g slot (get_or table slot 0) q
  goes_aims slot q x =
      let r = goes_at x in
      let z : r.0 ≡ slot = (let h : slot ≡ 0 + r.0 = r.1.0 in omega arith) in
      (omega (arith, r.1.1), aims g slot (get_or table slot 0) q (subst (λ (n : ℕ). copied_to g slot (says (get_or table n 0)) ≡ Some q) z r.1.2))

  goes_there : (slot q : ℕ) → slot < g.slots → copied_to g slot (says (get_or table slot 0)) ≡ Some q → Goes g 0 table slot q
  goes_there slot q h e =
      subst (λ (n : ℕ). Goes g 0 table n q) (zero-add slot)
      (at_goes g 0 q slot table (omega arith) (subst (λ (n : ℕ). copied_to g n (says (get_or table slot 0)) ≡ Some q) (sym (zero-add slot)) e))

  named_lt : (slot block : ℕ) (state : State) → slot < g.slots → says (get_or table slot 0) ≡ names block state → block < g.blocks
  unfolding well_formed well_said
  named_lt slot block state h e =
      let f : well_formed (allows Running) g (get_or table slot 0) ≡ true = all_get slot sh.formed (omega arith) in
      ltb-true block g.blocks (and_left (ltb block g.blocks) (allows Running state) (ap (well_said (allows Running) g) (sym e) ∙ f))

  aims_lt : (slot q : ℕ) → slot < g.slots → Aims g slot (get_or table slot 0) q → q < g.blocks + g.slots
  aims_lt slot q h (to_home e) = omega (arith, named_lt slot q PreHidden h e)
  aims_lt slot q h (to_checkpoint block e z) = omega arith

  -- no copy goes where the finished backup has a block
  aims_loose : (slot q : ℕ) → slot < g.slots → Aims g slot (get_or table slot 0) q → (k : ℕ) → k < g.blocks → saved_block g (map (changed standing) table) k ≢ q
  unfolding standing
  aims_loose slot q h (to_home e) =
      home_loose standing g table q slot PreHidden Clean sh.apart (named_lt slot q PreHidden h e) (apart_finds q slot PreHidden sh.apart (omega arith) e) refl
  aims_loose slot q h (to_checkpoint block e z) =
      subst (λ (n : ℕ). (k : ℕ) → k < g.blocks → saved_block g (map (changed standing) table) k ≢ n) (sym z)
      (slot_loose standing g table slot (gone_old standing g table block slot PreDirty (apart_finds block slot PreDirty sh.apart (omega arith) e) refl))

  fits : Fits g cache (length memory) 0 table
  unfolding Fits
  fits slot q x =
      let a = goes_aims slot q x in
      let l : q < g.blocks + g.slots = aims_lt slot q a.0 a.1 in
      (omega arith, length_block cache slot (omega (arith, a.0)))

  pub copies_fitting : All (Fit (length memory)) (copies g cache 0 table)
  copies_fitting = copies_fit g cache (length memory) table 0 fits

  pub copies_loose : (x : Backup) → All (Loose g x (map (changed standing) table)) (copies g cache 0 table)
  unfolding Fits
  copies_loose x =
      copies_all g cache (Loose g x (map (changed standing) table)) table 0
      (λ slot q y.
      let a = goes_aims slot q y in
      let f = fits slot q y in
      all_map (λ s i. in_block q (aims_lt slot q a.0 a.1) (aims_loose slot q a.0 a.1) i.low i.high)
      (block_stores q (length memory) (block_at cache slot) f.1 f.0).inside)

  memory' : List ℕ
  memory' = lay (copies g cache 0 table) memory

  still : (q : ℕ) → ((slot : ℕ) → slot < g.slots → Aims g slot (get_or table slot 0) q → ⊥) → block_at memory' q ≡ block_at memory q
  unfolding memory'
  still q h =
      block_clear (copies g cache 0 table) memory q copies_fitting
      (copies_clear g cache (length memory) table 0 q fits (λ slot x. let a = goes_aims slot q x in h slot a.0 a.1))

  copied : (slot q : ℕ) → slot < g.slots → copied_to g slot (says (get_or table slot 0)) ≡ Some q
      → ((i : ℕ) → i < g.slots → Aims g i (get_or table i 0) q → i ≡ slot) → block_at memory' q ≡ block_at cache slot
  unfolding memory'
  copied slot q h e u = copies_hit g cache memory fits (goes_there slot q h e) (λ i x. let a = goes_aims i q x in u i a.0 a.1)

  -- after the copies every block is where begin's table has it
  after : (block : ℕ) → block < g.blocks → block_at memory' (saved_by g block (found begun (lookup block table))) ≡ live block
  unfolding visible spot_of spot_in block_in saved_by found found_or begun copied_to
  after block h = go (case_of (lookup block table)) (finds block table) (sh.shows block h)
    where
      -- HOME of a block is no slot's goal but that of its own entry
      at_home : (i : ℕ) → i < g.slots → Aims g i (get_or table i 0) block → says (get_or table i 0) ≡ names block PreHidden
      at_home i l (to_home e) = e
      at_home i l (to_checkpoint k e z) = absurd (omega arith)

      own_home : (slot : ℕ) (state : State) → Finds block table (entry_at slot state) → (i : ℕ) → i < g.slots → Aims g i (get_or table i 0) block → i ≡ slot
      own_home slot state l i b x =
          elim (ℕ_discrete i slot) [ yes q ↦ q | no ne ↦ absurd ((apart_at sh.apart l i ne).never PreHidden (at_home i b x)) ]

      -- CHECKPOINT of a slot is no slot's goal but its own
      own_slot : (slot i : ℕ) → i < g.slots → Aims g i (get_or table i 0) (g.blocks + slot) → (i ≡ slot) × ((k : ℕ) × (says (get_or table i 0) ≡ names k PreDirty))
      own_slot slot i l (to_home e) = absurd (let z = named_lt i (g.blocks + slot) PreHidden l e in omega arith)
      own_slot slot i l (to_checkpoint k e z) = (omega arith, (k, e))

      slot_still : (slot : ℕ) (state : State) → Finds block table (entry_at slot state) → state ≢ PreDirty → block_at memory' (g.blocks + slot) ≡ block_at memory (g.blocks + slot)
      slot_still slot state l ne =
          still (g.blocks + slot)
          (λ i b x. let r = own_slot slot i b x in
          let e : says (get_or table slot 0) ≡ names r.1.0 PreDirty = subst (λ (n : ℕ). says (get_or table n 0) ≡ names r.1.0 PreDirty) r.0 r.1.1 in
          let e' : says (get_or table slot 0) ≡ names block state = found_at l in
          ne (cc))

      home_still : (slot : ℕ) (state : State) → Finds block table (entry_at slot state) → state ≢ PreHidden → block_at memory' block ≡ block_at memory block
      home_still slot state l ne =
          still block
          (λ i b x.
          let q : i ≡ slot = own_home slot state l i b x in
          let e : says (get_or table slot 0) ≡ names block PreHidden = subst (λ (n : ℕ). says (get_or table n 0) ≡ names block PreHidden) q (at_home i b x) in
          let e' : says (get_or table slot 0) ≡ names block state = found_at l in
          ne (cc))

      go : {r : Option Entry} → Case r → Finds block table r → block_in memory cache (spot_of g block r) ≡ live block → block_at memory' (saved_by g block (found begun r)) ≡ live block
      go nothing l e = still block (λ i b x. (not_found i l).never PreHidden (at_home i b x)) ∙ e
      go (in_slot slot Clean) l e = slot_still slot Clean l (λ q. let z : ◌≡◌ {A = ℕ} 0 1 = cc in omega arith) ∙ e
      go (in_slot slot Dirty) l e = slot_still slot Dirty l (λ q. let z : ◌≡◌ {A = ℕ} 0 1 = cc in omega arith) ∙ e
      go (in_slot slot Hidden) l e = home_still slot Hidden l (λ q. let z : ◌≡◌ {A = ℕ} 0 1 = cc in omega arith) ∙ e
      go (in_slot slot PreHidden) l e =
          copied slot block (omega (arith, found_lt l, lt)) (ap (copied_to g slot) (found_at l)) (own_home slot PreHidden l) ∙ e
      go (in_slot slot PreDirty) l e =
          copied slot (g.blocks + slot) (omega (arith, found_lt l, lt)) (ap (copied_to g slot) (found_at l)) (λ i b x. (own_slot slot i b x).0) ∙ e

  -- begin's table holds clean entries alone: it shows a block where it saves it
  begun_spot : (block : ℕ) {r : Option Entry} → Case r → spot_of g block (found begun r) ≡ in_memory (saved_by g block (found begun r))
  unfolding spot_of spot_in saved_by found found_or begun
  begun_spot block nothing = refl
  begun_spot block (in_slot slot Clean) = refl
  begun_spot block (in_slot slot Dirty) = refl
  begun_spot block (in_slot slot Hidden) = refl
  begun_spot block (in_slot slot PreHidden) = refl
  begun_spot block (in_slot slot PreDirty) = refl

  begun_saved : {r : Option Entry} → Case r → found saved (found begun r) ≡ found begun r
  unfolding found found_or begun saved
  begun_saved nothing = refl
  begun_saved (in_slot slot Clean) = refl
  begun_saved (in_slot slot Dirty) = refl
  begun_saved (in_slot slot Hidden) = refl
  begun_saved (in_slot slot PreHidden) = refl
  begun_saved (in_slot slot PreDirty) = refl

  begun_finds : (block : ℕ) → Finds block (map (changed begun) table) (found begun (lookup block table))
  begun_finds block = changed_finds begun sh.apart (finds block table)

  begun_formed : (word : ℕ) → well_formed (allows Running) g word ≡ true → well_formed while_writing g (changed begun word) ≡ true
  unfolding well_formed well_said changed changed_by entry_or begun while_writing
  begun_formed word e = go (says word) e
    where
      cleaned : (block : ℕ) (y : Bool) → ltb block g.blocks && y ≡ true → well_said while_writing g (says (word_of block Clean)) ≡ true
      cleaned block y q = rw (says_word block Clean, and_left (ltb block g.blocks) y q)

      go : (x : Says) → well_said (allows Running) g x ≡ true → well_said while_writing g (says (changed_by begun x)) ≡ true
      go free q = refl
      go neither q = refl
      go (names block Clean) q = cleaned block (allows Running Clean) q
      go (names block Dirty) q = cleaned block (allows Running Dirty) q
      go (names block Hidden) q = refl
      go (names block PreHidden) q = refl
      go (names block PreDirty) q = cleaned block (allows Running PreDirty) q

  pub begun_live : Live g while_writing (lay (copies g cache 0 table) memory) cache (map (changed begun) table) live
  unfolding visible block_in memory'
  begun_live = record {
    formed = all_over (changed begun) begun_formed sh.formed;
    apart = changed_apart begun sh.apart;
    shows = λ block h.
        ap (λ (r : Option Entry). block_in memory' cache (spot_of g block r)) (finds_lookup (begun_finds block))
        ∙ ap (block_in memory' cache) (begun_spot block (case_of (lookup block table)))
        ∙ after block h;
  }

  pub begun_picture : (block : ℕ) → block < g.blocks → block_at (lay (copies g cache 0 table) memory) (saved_block g (map (changed saved) (map (changed begun) table)) block) ≡ live block
  unfolding saved_block memory'
  begun_picture block h =
      ap (λ (r : Option Entry). block_at memory' (saved_by g block r))
      (finds_lookup (changed_finds saved (changed_apart begun sh.apart) (begun_finds block)) ∙ begun_saved (case_of (lookup block table)))
      ∙ after block h

-- ---- the plan

module _ (board : Board) (plain : Plain) (v : Inv board plain) (registers : List ℕ) (eight : length registers ≡ 64)
    (be : v.keeps ≡ map (changed standing) (table_of board))
    (sh : Live (sizes board) (allows Running) board.memory (cache_of board) (table_of board) plain.live) where
  begin_carried : Keeps board plain (begin registers)
      (carry (copies (sizes board) (cache_of board) 0 (table_of board))
      (record {
        cache = cache_of board;
        table = map (changed begun) (table_of board);
        controller = record { geometry = sizes board; registers = registers; finished = board.volatile.controller.finished; phase = Writing 0 };
      })
      [])
  unfolding did
  begin_carried =
      k_carry refl (subst (Inv _) (sym (note_loose g plain (begin registers) 0 x v.keeps loose)) all)
      (λ p h. subst (Inv _) (sym (note_loose g plain (begin registers) 20 x v.keeps (all_take p loose) ∙ did_not plain (begin registers) 20 (suc-ne-zero 19))) (stopped v ws fit loose p))
    where
      g : Geometry
      g = sizes board

      x : Backup
      x = board.volatile.controller.finished

      ws : List Store
      ws = copies g (cache_of board) 0 (table_of board)

      fit : All (Fit (length board.memory)) ws
      fit = copies_fitting g board.memory (cache_of board) (table_of board) plain.live sh v.lent.memory v.lent.cache v.lent.table

      loose : All (Loose g x v.keeps) ws
      loose =
          subst (λ (z : List ℕ). All (Loose g x z) ws) (sym be)
          (copies_loose g board.memory (cache_of board) (table_of board) plain.live sh v.lent.memory v.lent.cache v.lent.table x)

      all : Inv
          (record {
            memory = lay ws board.memory;
            volatile = record {
              cache = cache_of board;
              table = map (changed begun) (table_of board);
              controller = record { geometry = g; registers = registers; finished = x; phase = Writing 0 };
            };
          })
          (did plain (begin registers) 0)
      all = record {
        fine = v.fine;
        lent = record {
          memory = lay-length ws board.memory fit ∙ v.lent.memory;
          cache = v.lent.cache;
          table = length-map (table_of board) (changed begun) ∙ v.lent.table;
        };
        registers = v.registers;
        keeps = v.keeps;
        kept = kept_whole v.kept ws fit loose;
        mode = mode_writing {count = 0} (begun_live g board.memory (cache_of board) (table_of board) plain.live sh v.lent.memory v.lent.cache v.lent.table)
            (record {
              picture = record { blocks = plain.live; registers = Some registers };
              begun = refl;
              few = omega arith;
              eight = eight;
              given = refl;
              blocks = begun_picture g board.memory (cache_of board) (table_of board) plain.live sh v.lent.memory v.lent.cache v.lent.table;
              written = done;
            });
      }

pub begin_keeps : (board : Board) (plain : Plain) → Inv board plain → (registers : List ℕ) → Keeps board plain (begin registers) (begin_plan board registers)
unfolding begin_plan begin_number
begin_keeps board plain v registers = guarded (begin_number board registers) (λ e. go e)
  where
    unfit : Bool
    unfit = not (eqb (length registers) 64)

    goal : Plan
    goal =
        carry (copies (sizes board) (cache_of board) 0 (table_of board))
        (record {
          cache = cache_of board;
          table = map (changed begun) (table_of board);
          controller = record { geometry = sizes board; registers = registers; finished = board.volatile.controller.finished; phase = Writing 0 };
        })
        []

    body : Common board unfit → is_writing (phase_of board) ≡ false → (phase : Phase) → phase_of board ≡ phase → Mode board plain v.keeps phase
        → Keeps board plain (begin registers) goal
    body cm r Running e (mode_running be sh) =
        begin_carried board plain v registers
        (eqb-true (length registers) 64 (not-false (eqb (length registers) 64) (or_false (inexact (sizes board) board) unfit cm.exact).1)) be sh
    body cm r (Writing count) e m = absurd (false_true (sym r ∙ ap is_writing e))
    body cm r Off e m = absurd (false_true (sym cm.awake ∙ ap is_off e))

    go : number_of (begin_number board registers) ≡ 0 → Keeps board plain (begin registers) goal
    go e =
        let c = common_passed board unfit ((is_writing (phase_of board) ⇒ No.Busy) ∷ []) e in
        body c.0 (passed (is_writing (phase_of board)) No.Busy [] (suc-ne-zero 7) c.1).0 (phase_of board) refl v.mode
