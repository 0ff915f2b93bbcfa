-- A store keeps the invariant.
use mathlib.Core.Path.{◌≡◌, refl, sym, ap, ◌∙◌, subst}
use mathlib.Core.Logic.{◌≢◌}
use mathlib.Core.Bool.{Bool, true, false, cond}
use mathlib.Core.List.{List, [], ◌∷◌, ◌++◌, map}
use Prim.Native.Nat.{ℕ, zero, suc, ◌+◌, ◌*◌, ◌≤◌, ◌<◌}
use native.Mathlib.Omega.{arith}
use native.Mathlib.Nat.{suc-ne-zero, not-suc-le-zero, zero-add, suc-add}
use native.Mathlib.Decide.{ℕ_discrete}
use lib.Dec.{eqb}
use lib.ListN.{length, get_or, set, take, drop, length-set}
use lib.Seq.{map-set_same}
use borrow.Author.Tests.{eq-eqb, ne_eqb, lt-ltb}
use Rattle.std.specs.Prelude.{Option, Some, None}
use Rattle.words.specs.Words.{word, block_at, Store, lay, bytes_to}
use Rattle.words.proofs.All.{All, done, all_take, all_map}
use Rattle.words.proofs.Lists.{lay-length}
use Rattle.words.proofs.Rising.{Held}
use Rattle.words.proofs.Makers.{Laid}
use Rattle.words.proofs.Blocks.{block_stores, length_block}
use Rattle.rules.specs.declared.Geometry.{Geometry}
use Rattle.rules.specs.declared.Phase.{Phase}
use Rattle.rules.specs.declared.Phase.TheVariants.{Running, Writing, Off}
use Rattle.rules.specs.declared.State.{State}
use Rattle.rules.specs.declared.State.TheVariants.{Clean, Dirty, Hidden, PreHidden, PreDirty}
use Rattle.rules.specs.declared.Entry.{Entry}
use Rattle.rules.specs.declared.Place.{Place}
use Rattle.rules.specs.declared.Place.TheVariants.{Home, Checkpoint, Cache}
use Rattle.rules.specs.declared.Window.{Window}
use Rattle.rules.specs.declared.Number.TheVariants as No
use Rattle.rules.specs.Geometry.{home_block, checkpoint_block}
use Rattle.rules.specs.TableWords.{entry_at, word_of, names, says, lookup, lowest_free, entry_or, changed}
use Rattle.rules.specs.Board.{Board, Volatile, sizes, phase_of, cache_of, table_of}
use Rattle.rules.specs.Numbers.{number_of, Check, ◌⇒◌, is_off, while_writing, allows, well_said, well_formed, out_of_range}
use Rattle.rules.specs.Power.{Plan, carry}
use Rattle.rules.specs.Loads.{Spot, spot_in, shows, spot_of, block_in, visible, seen}
use Rattle.rules.specs.Stores.{replaced, to, stores, move_in, slot_for, full, store_number, all, is_short, window_for, window_to, lay_at, moved, moved_to, store_by, store_plan}
use Rattle.rules.specs.Checkpoints.{saved, other, checkpoint_list}
use Rattle.rules.specs.Starts.{saved_by, saved_block}
use Rattle.rules.specs.Calls.{store}
use Rattle.rules.specs.PlainMachine.{Plain, laid_over, overlaid, update, did}
use Rattle.rules.proofs.Clashes.{false_true, nothing_entry}
use Rattle.rules.proofs.TableWordLaws.{says_word, says_zero}
use Rattle.rules.proofs.Finding.{Skips, skip_free, skip_names, Finds, finds, finds_lookup, found_at, found_lt, set_same, set_new, set_other}
use Rattle.rules.proofs.Apart.{Apart, apart_same, apart_new}
use Rattle.rules.proofs.Changing.{found_or, found, changed_finds, changed_free, changed_entry, changed_get, all_set}
use Rattle.rules.proofs.FreeSlot.{Vacant, VacantAt, vacant, vacant_at, vacant_lt}
use Rattle.rules.proofs.Saving.{Loose, in_block, kept_whole}
use Rattle.rules.proofs.Checked.{passed, Common, common_passed, Lent, InRange, in_range}
use Rattle.rules.proofs.Replaced.{length-replaced}
use Rattle.rules.proofs.Windows.{window_stores}
use Rattle.rules.proofs.LaidAt.{memory_cache, memory_with, cache_with, stores_at, Room, Whole, spot_laid, spot_other, window_covers, row_whole}
use Rattle.rules.proofs.Invariant.{standing, Live, Drafted, Mode, mode_running, mode_writing, mode_off, Inv, Keeps, k_refuse, k_carry, did_not, no_mark, note_unmarked, note_loose, guarded, stopped}
use Rattle.rules.proofs.EntryCases.{same_slot, Case, nothing, in_slot, case_of}

-- ---- the slot that a store takes

pub data Sits (block : ℕ) (table : List ℕ) (slot : ℕ) : Type 0 where
  old : {state : State} → Finds block table (entry_at slot state) → Sits block table slot
  new : Finds block table None → Vacant table slot → Sits block table slot

sits_lt : {block slot : ℕ} {table : List ℕ} → Sits block table slot → slot < length table
sits_lt (old l) = found_lt l
sits_lt (new l v) = vacant_lt v

sits_skips : {block slot : ℕ} {table : List ℕ} → Sits block table slot → (k : ℕ) → k ≢ block → Skips k (get_or table slot 0)
sits_skips {block} {slot} {table} (old {state = state} l) k ne = skip_names k (get_or table slot 0) block state (found_at l) (λ e. ne (sym e))
sits_skips {block} {slot} {table} (new l v) k ne = skip_free k (get_or table slot 0) (vacant_at v)

sits_here : {block slot : ℕ} {table : List ℕ} (word : ℕ) (next : State) → Sits block table slot → says word ≡ names block next
    → Finds block (set table slot word) (entry_at slot next)
sits_here word next (old l) e = set_same word next l e
sits_here {slot = slot} word next (new l v) e = set_new slot word next l (vacant_lt v) e

sits_apart : {block slot : ℕ} {table : List ℕ} (word : ℕ) (next : State) → Apart table → Sits block table slot → says word ≡ names block next
    → Apart (set table slot word)
sits_apart word next a (old l) e = apart_same word next a l e
sits_apart {slot = slot} word next a (new l v) e = apart_new slot word next a l (vacant_lt v) e

-- another block is not at this slot
sits_other : {block slot i k : ℕ} {table : List ℕ} {state : State} → Sits block table slot → k ≢ block → Finds k table (entry_at i state) → i ≢ slot
sits_other {block} {slot} {i} {k} {table} {state} s ne r e =
    (sits_skips s k ne).never state (subst (λ (n : ℕ). says (get_or table n 0) ≡ names k state) e (found_at r))

-- ---- where a block goes, no other shows

-- two blocks at two slots have no spot in common
spots_apart : (g : Geometry) (k block i slot : ℕ) (p r : Place) → k < g.blocks → block < g.blocks → k ≢ block → i ≢ slot
    → spot_in g k i p ≢ spot_in g block slot r
unfolding spot_in
spots_apart g k block i slot Home Home lk lb ne ns e = ne (cc)
spots_apart g k block i slot Home Checkpoint lk lb ne ns e = let z : k ≡ g.blocks + slot = cc in omega arith
spots_apart g k block i slot Home Cache lk lb ne ns e = memory_cache _ _ e
spots_apart g k block i slot Checkpoint Home lk lb ne ns e = let z : g.blocks + i ≡ block = cc in omega arith
spots_apart g k block i slot Checkpoint Checkpoint lk lb ne ns e = let z : g.blocks + i ≡ g.blocks + slot = cc in ns (omega arith)
spots_apart g k block i slot Checkpoint Cache lk lb ne ns e = memory_cache _ _ e
spots_apart g k block i slot Cache Home lk lb ne ns e = memory_cache _ _ (sym e)
spots_apart g k block i slot Cache Checkpoint lk lb ne ns e = memory_cache _ _ (sym e)
spots_apart g k block i slot Cache Cache lk lb ne ns e = ns (cc)

-- the block that is stored goes nowhere where another block shows
spot_apart : (g : Geometry) (k block slot : ℕ) (table : List ℕ) (p : Place) → Sits block table slot → k < g.blocks → block < g.blocks → k ≢ block
    → (r : Option Entry) → Finds k table r → spot_of g k r ≢ spot_in g block slot p
unfolding spot_of spot_in
spot_apart g k block slot table p s lk lb ne None l = spots_apart g k block (suc slot) slot Home p lk lb ne (λ e. omega arith)
spot_apart g k block slot table p s lk lb ne (Some entry) l = spots_apart g k block entry.slot slot (shows entry.state) p lk lb ne (sits_other s ne l)

-- ---- what shows after a store

pub word_formed : (allowed : State → Bool) (g : Geometry) (block : ℕ) (state : State) → block < g.blocks → allowed state ≡ true
    → well_formed allowed g (word_of block state) ≡ true
unfolding well_formed well_said
word_formed allowed g block state h e = ap (well_said allowed g) (says_word block state) ∙ (rw (lt-ltb block g.blocks h) e)

module _ (g : Geometry) (allowed : State → Bool) (memory cache table : List ℕ) (live : ℕ → List ℕ) (block slot : ℕ) (next : State) (fresh : List ℕ) where
  abbrev spot : Spot
  spot = spot_in g block slot (shows next)

  pub live_stored : Live g allowed memory cache table live → Sits block table slot → block < g.blocks → allowed next ≡ true → length fresh ≡ 64
      → Room memory cache spot
      → Live g allowed (memory_with memory fresh spot) (cache_with cache fresh spot) (set table slot (word_of block next)) (update live block fresh)
  unfolding visible update spot_of
  live_stored s q lt al eight room = record {
    formed = all_set slot (word_of block next) s.formed (word_formed allowed g block next lt al);
    apart = sits_apart (word_of block next) next s.apart q (says_word block next);
    shows = λ k h. go k h (ℕ_discrete k block);
  }
    where
      memory' : List ℕ
      memory' = memory_with memory fresh spot

      cache' : List ℕ
      cache' = cache_with cache fresh spot

      table' : List ℕ
      table' = set table slot (word_of block next)

      go : (k : ℕ) → k < g.blocks → Dec (k ≡ block) → visible g memory' cache' table' k ≡ cond (eqb k block) fresh (live k)
      go k h (yes e) =
          rw (eq-eqb k block e, e, finds_lookup (sits_here (word_of block next) next q (says_word block next)))
          (spot_laid memory cache fresh spot eight room)
      go k h (no ne) =
          let l : Finds k table (lookup k table) = finds k table in
          let l' : Finds k table' (lookup k table) =
          set_other slot (word_of block next) l (sits_skips q k ne) (skip_names k (word_of block next) block next (says_word block next) (λ e. ne (sym e)))
          in
          rw (ne_eqb k block ne, finds_lookup l')
          (spot_other memory cache fresh spot (spot_of g k (lookup k table)) eight room (spot_apart g k block slot table (shows next) q h lt ne (lookup k table) l)
          ∙ s.shows k h)

-- ---- where the finished backup has no block

module _ (next : State → Option State) (g : Geometry) (table : List ℕ) where
  -- HOME of a block whose copy is in CHECKPOINT
  pub home_loose : (block slot : ℕ) (state after : State) → Apart table → block < g.blocks → Finds block table (entry_at slot state) → next state ≡ Some after
      → (k : ℕ) → k < g.blocks → saved_block g (map (changed next) table) k ≢ home_block g block
  unfolding saved_block saved_by found found_or
  home_loose block slot state after a h l e k hk = go (lookup k (map (changed next) table)) refl
    where
      there : lookup block (map (changed next) table) ≡ entry_at slot after
      there = finds_lookup (changed_finds next a l) ∙ ap (found_or slot) e

      go : (r : Option Entry) → lookup k (map (changed next) table) ≡ r → saved_by g k r ≢ block
      go None q z = nothing_entry slot after (sym q ∙ subst (λ (n : ℕ). lookup n (map (changed next) table) ≡ entry_at slot after) (sym z) there)
      go (Some entry) q z = omega arith

  -- CHECKPOINT of a slot that is free there
  pub slot_loose : (slot : ℕ) → changed next (get_or table slot 0) ≡ 0 → (k : ℕ) → k < g.blocks → saved_block g (map (changed next) table) k ≢ checkpoint_block g slot
  unfolding saved_block saved_by
  slot_loose slot u k hk = go (lookup k (map (changed next) table)) (finds k (map (changed next) table))
    where
      go : (r : Option Entry) → Finds k (map (changed next) table) r → saved_by g k r ≢ g.blocks + slot
      go None l q = omega arith
      go (Some entry) l q =
          let d = entry.state in
          let e : entry.slot ≡ slot = omega arith in
          let r : says (get_or (map (changed next) table) slot 0) ≡ names k d = subst (λ (x : ℕ). says (get_or (map (changed next) table) x 0) ≡ names k d) e (found_at l) in
          let z : says 0 ≡ names k d = subst (λ (x : ℕ). says x ≡ names k d) (changed_get next table slot ∙ u) r in
          (skip_free k 0 says_zero).never d z

  -- the word of a slot counts for the same there before and after the store
  pub same_old : (block slot : ℕ) (state after : State) → Finds block table (entry_at slot state) → next after ≡ next state
      → changed next (word_of block after) ≡ changed next (get_or table slot 0)
  same_old block slot state after l e =
      changed_entry next (word_of block after) block after (says_word block after)
      ∙ ap (entry_or block) e
      ∙ sym (changed_entry next (get_or table slot 0) block state (found_at l))

  pub gone_old : (block slot : ℕ) (state : State) → Finds block table (entry_at slot state) → next state ≡ None → changed next (get_or table slot 0) ≡ 0
  unfolding entry_or
  gone_old block slot state l e = changed_entry next (get_or table slot 0) block state (found_at l) ∙ ap (entry_or block) e

  pub gone_new : (block : ℕ) (after : State) → next after ≡ None → changed next (word_of block after) ≡ 0
  unfolding entry_or
  gone_new block after e = changed_entry next (word_of block after) block after (says_word block after) ∙ ap (entry_or block) e

-- ---- the plan

-- the new block is the old one with the bytes laid over it: no byte beside them changes
over_is : (block bytes : List ℕ) → length bytes ≤ length block → bytes ++ drop (length bytes) block ≡ laid_over block bytes
unfolding laid_over
over_is block [] h = refl
over_is [] (x ∷ bytes) h = absurd (not-suc-le-zero h)
over_is (b ∷ block) (x ∷ bytes) h = ap (λ (z : List ℕ). x ∷ z) (over_is block bytes (omega arith))

pub replaced_is : (block : List ℕ) (offset : ℕ) (bytes : List ℕ) → offset + length bytes ≤ length block → replaced block offset bytes ≡ overlaid block offset bytes
unfolding replaced overlaid
replaced_is block zero bytes h = rw (zero-add (length bytes)) (over_is block bytes (omega arith))
replaced_is [] (suc offset) bytes h = absurd (omega arith)
replaced_is (b ∷ block) (suc offset) bytes h =
    rw (suc-add offset (length bytes)) (ap (λ (z : List ℕ). b ∷ z) (replaced_is block offset bytes (omega arith)))

pub replaced-length : (block : List ℕ) (offset : ℕ) (bytes : List ℕ) → length block ≡ 64 → offset + length bytes ≤ 64 → length (replaced block offset bytes) ≡ 64
replaced-length block offset bytes e h = length-replaced block offset bytes (omega arith) ∙ e

module _ (board : Board) (plain : Plain) (v : Inv board plain) (block offset : ℕ) (bytes fresh : List ℕ) (lt : block < (sizes board).blocks) (fits : offset + length bytes ≤ 64)
    (made : fresh ≡ replaced (seen board block) offset bytes) (eight : length fresh ≡ 64) (is : fresh ≡ overlaid (plain.live block) offset bytes) where
  abbrev g : Geometry
  g = sizes board

  abbrev table : List ℕ
  table = table_of board

  abbrev after : ℕ → State → List ℕ → Volatile
  after slot next cache = record { cache = cache; table = set (table_of board) slot (word_of block next); controller = board.volatile.controller }

  -- a store to the nonvolatile memory, while Running
  running_store : (slot q : ℕ) (next : State)
      → phase_of board ≡ Running
      → v.keeps ≡ map (changed standing) table
      → q < g.blocks + g.slots
      → ((k : ℕ) → k < g.blocks → saved_block g (map (changed standing) table) k ≢ q)
      → changed standing (word_of block next) ≡ changed standing (get_or table slot 0)
      → Live g (allows Running) (lay (bytes_to (8 * q) 8 fresh) board.memory) (cache_of board) (set table slot (word_of block next)) (update plain.live block fresh)
      → (window : Window)
      → window.first + window.count ≤ 8
      → lay (window_to q window fresh) board.memory ≡ lay (bytes_to (8 * q) 8 fresh) board.memory
      → Keeps board plain (store block offset bytes) (carry (window_to q window fresh) (after slot next (cache_of board)) [])
  unfolding did
  running_store slot q next ph be lq loose se sh window few whole =
      k_carry refl (subst (Inv _) (sym (note_loose g plain (store block offset bytes) 0 board.volatile.controller.finished v.keeps lo)) all)
      (λ p h. subst (Inv _)
      (sym (note_loose g plain (store block offset bytes) 20 board.volatile.controller.finished v.keeps (all_take p lo) ∙ did_not plain (store block offset bytes) 20 (suc-ne-zero 19)))
      (stopped v ws run.fits lo p))
    where
      ws : List Store
      ws = window_to q window fresh

      run : Laid (8 * q + window.first) window.count (length board.memory) ws
      run = window_stores q (length board.memory) window fresh few eight (omega (arith, v.lent.memory))

      lo : All (Loose g board.volatile.controller.finished v.keeps) ws
      lo =
          all_map
          (λ w h. in_block q lq (subst (λ (z : List ℕ). (k : ℕ) → k < g.blocks → saved_block g z k ≢ q) (sym be) loose) (omega (arith, h.low)) (omega (arith, h.high)))
          run.inside

      all : Inv (record { memory = lay ws board.memory; volatile = after slot next (cache_of board) }) (did plain (store block offset bytes) 0)
      all = record {
        fine = v.fine;
        lent = record {
          memory = lay-length ws board.memory run.fits ∙ v.lent.memory;
          cache = v.lent.cache;
          table = length-set table slot (word_of block next) ∙ v.lent.table;
        };
        registers = v.registers;
        keeps = v.keeps;
        kept = kept_whole v.kept ws run.fits lo;
        mode =
            subst (Mode _ _ _) (sym ph)
            (mode_running (be ∙ sym (map-set_same (changed standing) table slot (word_of block next) 0 se))
            (subst (λ (z : List ℕ). Live g (allows Running) z (cache_of board) (set table slot (word_of block next)) (update plain.live block (overlaid (plain.live block) offset bytes)))
            (sym whole)
            (subst (λ (z : List ℕ). Live g (allows Running) (lay (bytes_to (8 * q) 8 fresh) board.memory) (cache_of board) (set table slot (word_of block next)) (update plain.live block z)) is sh)));
      }

  -- a store to CACHE, while Writing
  writing_store : (count slot : ℕ) (next : State)
      → phase_of board ≡ Writing count
      → slot < g.slots
      → changed saved (word_of block next) ≡ changed saved (get_or table slot 0)
      → Drafted g board.memory table board.volatile.controller.registers board.volatile.controller.finished count plain.on_its_way
      → Live g while_writing board.memory (lay (bytes_to (8 * slot) 8 fresh) (cache_of board)) (set table slot (word_of block next)) (update plain.live block fresh)
      → Keeps board plain (store block offset bytes) (carry [] (after slot next (lay (bytes_to (8 * slot) 8 fresh) (cache_of board))) [])
  unfolding did lay
  writing_store count slot next ph ls se dr sh =
      k_carry refl (subst (Inv _) (sym (note_unmarked g plain (store block offset bytes) 0 [] (no_mark g done))) all) (λ p h. absurd (not-suc-le-zero h))
    where
      cache' : List ℕ
      cache' = lay (bytes_to (8 * slot) 8 fresh) (cache_of board)

      same : map (changed saved) table ≡ map (changed saved) (set table slot (word_of block next))
      same = sym (map-set_same (changed saved) table slot (word_of block next) 0 se)

      all : Inv (record { memory = board.memory; volatile = after slot next cache' }) (did plain (store block offset bytes) 0)
      all = record {
        fine = v.fine;
        lent = record {
          memory = v.lent.memory;
          cache =
              lay-length (bytes_to (8 * slot) 8 fresh) (cache_of board) (block_stores slot (length (cache_of board)) fresh eight (omega (arith, v.lent.cache))).fits
              ∙ v.lent.cache;
          table = length-set table slot (word_of block next) ∙ v.lent.table;
        };
        registers = v.registers;
        keeps = v.keeps;
        kept = v.kept;
        mode =
            subst (Mode _ _ _) (sym ph)
            (mode_writing (subst (λ (z : List ℕ). Live g while_writing board.memory cache' (set table slot (word_of block next)) (update plain.live block z)) is sh)
            (record {
              picture = dr.picture;
              begun = dr.begun;
              few = dr.few;
              eight = dr.eight;
              given = dr.given;
              blocks = subst (λ (z : List ℕ). (k : ℕ) → k < g.blocks → block_at board.memory (saved_block g z k) ≡ dr.picture.blocks k) same dr.blocks;
              written =
                  subst (λ (z : List ℕ). All (Held board.memory) (take count (checkpoint_list g (other board.volatile.controller.finished) board.volatile.controller.registers z)))
                  same dr.written;
            }));
      }

  -- the rows of the column Running
  while_running :
      phase_of board ≡ Running
      → v.keeps ≡ map (changed standing) table
      → Live g (allows Running) board.memory (cache_of board) table plain.live
      → (r : Option Entry)
      → Finds block table r
      → (z : Option ℕ)
      → VacantAt table z
      → Keeps board plain (store block offset bytes) (moved_to board block (slot_for r z) fresh (window_for (is_short Running r) offset (length bytes)) (stores r).running)
  unfolding moved_to moved lay_at slot_for stores move_in standing number_of spot_in allows seen visible Room Whole stores_at memory_with cache_with
  while_running ph be sh r = go (case_of r)
    where
      window : Option Entry → Window
      window r = window_for (is_short Running r) offset (length bytes)

      few : (r : Option Entry) → (window r).first + (window r).count ≤ 8
      few r = (window_covers (is_short Running r) offset (length bytes) fits).few

      room : (q : ℕ) → q < g.blocks + g.slots → 64 * q + 64 ≤ length board.memory
      room q h = omega (arith, v.lent.memory)

      whole : (r : Option Entry) → Finds block table r → (slot : ℕ) (place : Place) (state : State) → (stores r).running ≡ to place state → ((i : ℕ) (s : State) → r ≡ entry_at i s → i ≡ slot)
          → Room board.memory (cache_of board) (spot_in g block slot place) → Whole board.memory fresh (window r) (spot_in g block slot place)
      whole r l slot place state m e h =
          subst (λ (z : List ℕ). Whole board.memory z (window r) (spot_in g block slot place))
          (sym (made ∙ ap (λ (z : Option Entry). replaced (block_in board.memory (cache_of board) (spot_of g block z)) offset bytes) (finds_lookup l)))
          (row_whole g board.memory (cache_of board) block offset bytes Running r slot place state m e h fits)

      to_home : (slot : ℕ) (state : State) → Finds block table (entry_at slot state) → standing state ≡ Some Clean → (stores (entry_at slot state)).running ≡ to Home Hidden
          → Keeps board plain (store block offset bytes) (moved board block slot fresh (window (entry_at slot state)) (to Home Hidden))
      to_home slot state l e m =
          let rm : 64 * block + 64 ≤ length board.memory = room block (omega arith) in
          running_store slot block Hidden ph be (omega arith) (home_loose standing g table block slot state Clean sh.apart lt l e)
          (same_old standing g table block slot state Hidden l (sym e))
          (live_stored g (allows Running) board.memory (cache_of board) table plain.live block slot Hidden fresh sh (old l) lt refl eight rm)
          (window (entry_at slot state)) (few (entry_at slot state)) (whole (entry_at slot state) l slot Home Hidden m (λ i s q. same_slot q) rm)

      to_checkpoint : (r : Option Entry) → Finds block table r → (slot : ℕ) → Sits block table slot → changed standing (get_or table slot 0) ≡ 0
          → (stores r).running ≡ to Checkpoint Dirty → ((i : ℕ) (s : State) → r ≡ entry_at i s → i ≡ slot)
          → Keeps board plain (store block offset bytes) (moved board block slot fresh (window r) (to Checkpoint Dirty))
      to_checkpoint r l slot q u m e =
          let ls : g.blocks + slot < g.blocks + g.slots = omega (arith, sits_lt q, v.lent.table) in
          let rm : 64 * (g.blocks + slot) + 64 ≤ length board.memory = room (g.blocks + slot) ls in
          running_store slot (g.blocks + slot) Dirty ph be ls (slot_loose standing g table slot u) (gone_new standing g table block Dirty refl ∙ sym u)
          (live_stored g (allows Running) board.memory (cache_of board) table plain.live block slot Dirty fresh sh q lt refl eight rm)
          (window r) (few r) (whole r l slot Checkpoint Dirty m e rm)

      go : {r : Option Entry} → Case r → Finds block table r → (z : Option ℕ) → VacantAt table z
          → Keeps board plain (store block offset bytes) (moved_to board block (slot_for r z) fresh (window r) (stores r).running)
      go nothing l None u = k_refuse (suc-ne-zero 6)
      go nothing l (Some slot) u =
          to_checkpoint None l slot (new l u) (changed_free standing (get_or table slot 0) (vacant_at u)) refl (λ i s q. absurd (nothing_entry i s q))
      go (in_slot slot Clean) l z u = to_home slot Clean l refl refl
      go (in_slot slot Dirty) l z u = to_checkpoint (entry_at slot Dirty) l slot (old l) (gone_old standing g table block slot Dirty l refl) refl (λ i s q. same_slot q)
      go (in_slot slot Hidden) l z u = to_home slot Hidden l refl refl
      go (in_slot slot PreHidden) l z u = to_home slot PreHidden l refl refl
      go (in_slot slot PreDirty) l z u = to_checkpoint (entry_at slot PreDirty) l slot (old l) (gone_old standing g table block slot PreDirty l refl) refl (λ i s q. same_slot q)

  -- the rows of the column Writing
  while_writing_lem : (count : ℕ)
      → phase_of board ≡ Writing count
      → Live g while_writing board.memory (cache_of board) table plain.live
      → Drafted g board.memory table board.volatile.controller.registers board.volatile.controller.finished count plain.on_its_way
      → (r : Option Entry)
      → Finds block table r
      → (z : Option ℕ)
      → VacantAt table z
      → Keeps board plain (store block offset bytes) (moved_to board block (slot_for r z) fresh (window_for (is_short (Writing count) r) offset (length bytes)) (stores r).writing)
  unfolding moved_to moved lay_at slot_for stores is_short window_for saved number_of spot_in while_writing Room memory_with cache_with
  while_writing_lem count ph sh dr r = go (case_of r)
    where
      to_cache : (slot : ℕ) (next : State) → Sits block table slot
          → changed saved (word_of block next) ≡ changed saved (get_or table slot 0)
          → Live g while_writing board.memory (lay (bytes_to (8 * slot) 8 fresh) (cache_of board)) (set table slot (word_of block next)) (update plain.live block fresh)
          → Keeps board plain (store block offset bytes) (moved board block slot fresh all (to Cache next))
      to_cache slot next q se live = writing_store count slot next ph (omega (arith, sits_lt q, v.lent.table)) se dr live

      room : (slot : ℕ) → Sits block table slot → 64 * slot + 64 ≤ length (cache_of board)
      room slot q = omega (arith, sits_lt q, v.lent.table, v.lent.cache)

      to_pre_hidden : (slot : ℕ) (state : State) → Finds block table (entry_at slot state) → saved state ≡ Some Clean
          → Keeps board plain (store block offset bytes) (moved board block slot fresh all (to Cache PreHidden))
      to_pre_hidden slot state l e =
          to_cache slot PreHidden (old l) (same_old saved g table block slot state PreHidden l (sym e))
          (live_stored g while_writing board.memory (cache_of board) table plain.live block slot PreHidden fresh sh (old l) lt refl eight (room slot (old l)))

      to_pre_dirty : (slot : ℕ) → Sits block table slot → changed saved (get_or table slot 0) ≡ 0
          → Keeps board plain (store block offset bytes) (moved board block slot fresh all (to Cache PreDirty))
      to_pre_dirty slot q u =
          to_cache slot PreDirty q (gone_new saved g table block PreDirty refl ∙ sym u)
          (live_stored g while_writing board.memory (cache_of board) table plain.live block slot PreDirty fresh sh q lt refl eight (room slot q))

      -- the rows that are not well formed are not met
      go : {r : Option Entry} → Case r → Finds block table r → (z : Option ℕ) → VacantAt table z
          → Keeps board plain (store block offset bytes) (moved_to board block (slot_for r z) fresh (window_for (is_short (Writing count) r) offset (length bytes)) (stores r).writing)
      go nothing l None u = k_refuse (suc-ne-zero 6)
      go nothing l (Some slot) u = to_pre_dirty slot (new l u) (changed_free saved (get_or table slot 0) (vacant_at u))
      go (in_slot slot Clean) l z u = to_pre_hidden slot Clean l refl
      go (in_slot slot Dirty) l z u = k_refuse (suc-ne-zero 4)
      go (in_slot slot Hidden) l z u = k_refuse (suc-ne-zero 4)
      go (in_slot slot PreHidden) l z u = to_pre_hidden slot PreHidden l refl
      go (in_slot slot PreDirty) l z u = to_pre_dirty slot (old l) (gone_old saved g table block slot PreDirty l refl)

-- ---- the visible block has 64 bytes

pub seen-length : (board : Board) → Lent (sizes board) board → (block : ℕ) → block < (sizes board).blocks → length (seen board block) ≡ 64
unfolding seen visible spot_of block_in
seen-length board l block h = go (lookup block (table_of board)) (finds block (table_of board))
  where
    g : Geometry
    g = sizes board

    at : (slot : ℕ) (p : Place) → slot < g.slots → length (block_in board.memory (cache_of board) (spot_in g block slot p)) ≡ 64
    at slot Home ls = length_block board.memory block (omega (arith, l.memory))
    at slot Checkpoint ls = length_block board.memory (g.blocks + slot) (omega (arith, l.memory))
    at slot Cache ls = length_block (cache_of board) slot (omega (arith, l.cache))

    go : (r : Option Entry) → Finds block (table_of board) r → length (block_in board.memory (cache_of board) (spot_of g block r)) ≡ 64
    go None f = length_block board.memory block (omega (arith, l.memory))
    go (Some entry) f = at entry.slot (shows entry.state) (omega (arith, found_lt f, l.table))

pub store_keeps : (board : Board) (plain : Plain) → Inv board plain → (block offset : ℕ) (bytes : List ℕ)
    → Keeps board plain (store block offset bytes) (store_plan board block offset bytes)
unfolding store_plan store_by store_number seen move_in
store_keeps board plain v block offset bytes = guarded (store_number board block offset bytes) (λ e. go e)
  where
    own : List Check
    own =
        (out_of_range board block offset (length bytes) ⇒ No.Range)
        ∷ (full (slot_for (lookup block (table_of board)) (lowest_free (table_of board))) ⇒ No.Full)
        ∷ []

    fresh : List ℕ
    fresh = replaced (seen board block) offset bytes

    goal : Phase → Plan
    goal phase =
        moved_to board block (slot_for (lookup block (table_of board)) (lowest_free (table_of board))) fresh (window_for (is_short phase (lookup block (table_of board))) offset (length bytes)) (move_in phase (stores (lookup block (table_of board))))

    fresh_is : InRange board block offset (length bytes) → seen board block ≡ plain.live block → fresh ≡ overlaid (plain.live block) offset bytes
    fresh_is r e =
        replaced_is (seen board block) offset bytes (omega (arith, r.fits, seen-length board v.lent block r.below))
        ∙ ap (λ (z : List ℕ). overlaid z offset bytes) e

    body : Common board false → InRange board block offset (length bytes) → (phase : Phase) → phase_of board ≡ phase → Mode board plain v.keeps phase
        → Keeps board plain (store block offset bytes) (goal phase)
    body cm r Running e (mode_running be sh) =
        while_running board plain v block offset bytes fresh r.below r.fits refl
        (replaced-length (seen board block) offset bytes (seen-length board v.lent block r.below) r.fits)
        (fresh_is r (sh.shows block r.below)) e be sh (lookup block (table_of board)) (finds block (table_of board))
        (lowest_free (table_of board)) (vacant (table_of board))
    body cm r (Writing count) e (mode_writing sh dr) =
        while_writing_lem board plain v block offset bytes fresh r.below r.fits refl
        (replaced-length (seen board block) offset bytes (seen-length board v.lent block r.below) r.fits)
        (fresh_is r (sh.shows block r.below)) count e sh dr (lookup block (table_of board)) (finds block (table_of board))
        (lowest_free (table_of board)) (vacant (table_of board))
    body cm r Off e mode_off = absurd (false_true (sym cm.awake ∙ ap is_off e))

    go : number_of (store_number board block offset bytes) ≡ 0 → Keeps board plain (store block offset bytes) (goal (phase_of board))
    go e =
        let c = common_passed board false own e in
        let r = passed (out_of_range board block offset (length bytes)) No.Range ((full (slot_for (lookup block (table_of board)) (lowest_free (table_of board))) ⇒ No.Full) ∷ []) (suc-ne-zero 5) c.1 in
        body c.0 (in_range board block offset (length bytes) r.0) (phase_of board) refl v.mode
