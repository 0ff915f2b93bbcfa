-- The entries of a sweep, each as a store of its block's unchanged bytes.
use mathlib.Core.Path.{◌≡◌, refl, sym, ap, ◌∙◌}
use mathlib.Core.Bool.{true, false, cond}
use mathlib.Core.List.{List, [], ◌∷◌, ◌++◌, append-nil}
use Prim.Native.Nat.{ℕ, zero, suc, ◌+◌, ◌*◌, ◌≤◌, ◌<◌}
use native.Mathlib.Omega.{arith}
use native.Mathlib.Nat.{suc-ne-zero}
use native.Mathlib.Decide.{ℕ_discrete}
use lib.Dec.{eqb}
use lib.ListN.{length, take, drop, get_or, set, length-set, drop_of_length-le}
use lib.Seq.{get_or-set_other}
use borrow.Author.Tests.{eq-eqb, ne_eqb}
use Rattle.std.specs.Prelude.{Option}
use Rattle.words.specs.Words.{block_at, Store, lay, bytes_to}
use Rattle.words.proofs.All.{All}
use Rattle.words.proofs.Lists.{lay-append}
use Rattle.words.proofs.Makers.{Laid}
use Rattle.words.proofs.Blocks.{block_stores, block_laid_other}
use Rattle.rules.specs.declared.Phase.{Phase}
use Rattle.rules.specs.declared.Phase.TheVariants.{Running, Writing, Off}
use Rattle.rules.specs.declared.State.TheVariants.{Clean, Dirty, Hidden, PreHidden, PreDirty}
use Rattle.rules.specs.declared.Entry.{Entry}
use Rattle.rules.specs.declared.Number.{Number}
use Rattle.rules.specs.declared.Number.TheVariants as No
use Rattle.rules.specs.Geometry.{home_block, checkpoint_block}
use Rattle.rules.specs.TableWords.{entry_at, word_of, Says, free, names, neither, says, lookup, lowest_free}
use Rattle.rules.specs.Board.{Board, sizes, phase_of, cache_of, table_of}
use Rattle.rules.specs.Numbers.{number_of, ◌⇒◌, first_of, allows, well_formed, common_checks, inexact, is_off, is_writing}
use Rattle.rules.specs.Power.{Plan, carry, guard}
use Rattle.rules.specs.Loads.{spot_of, spot_in, block_in, visible, seen}
use Rattle.rules.specs.Stores.{replaced, stores, move_in, slot_for, full, store_number, is_short, window_for, lay_at, moved, moved_to, store_by, store_plan}
use Rattle.rules.specs.Sweeps.{CleanEntry, clean_by, clean_from, lowest_clean, home_copies, hidden, sweep_number}
use Rattle.rules.specs.PlainMachine.{update}
use Rattle.rules.proofs.Clashes.{false_true, or_false}
use Rattle.rules.proofs.Finding.{Finds, finds_lookup}
use Rattle.rules.proofs.Changing.{all_get}
use Rattle.rules.proofs.Checked.{passed, Common, common_passed, common_formed, formed_names, Lent, exact_lent}
use Rattle.rules.proofs.KeepsStore.{seen-length}
use Rattle.rules.proofs.LiveShown.{in_range_false}
use Rattle.rules.proofs.Windows.{window_all}

-- ---- clean entries that stand in a table, each above the one before

pub data Waiting (table : List ℕ) : ℕ → List CleanEntry → Type 0 where
  no_more : {low : ℕ} → Waiting table low []
  and_above : {low : ℕ} {entry : CleanEntry} {entries : List CleanEntry}
      → low ≤ entry.slot
      → entry.slot < length table
      → says (get_or table entry.slot 0) ≡ names entry.block Clean
      → Waiting table (suc entry.slot) entries
      → Waiting table low (entry ∷ entries)

-- what is left of a table from a slot on begins with the slot's word
pub rest_word : (table : List ℕ) (slot : ℕ) (word : ℕ) (rest : List ℕ) → drop slot table ≡ word ∷ rest
    → (slot < length table) × (get_or table slot 0 ≡ word) × (drop (suc slot) table ≡ rest)
rest_word [] zero word rest e = absurd (nil_cons e)
  where
    nil_cons : ◌≡◌ {A = List ℕ} [] (word ∷ rest) → ⊥
    nil_cons q = suc-ne-zero (length rest) (sym (ap length q))
rest_word [] (suc slot) word rest e = absurd (nil_cons e)
  where
    nil_cons : ◌≡◌ {A = List ℕ} [] (word ∷ rest) → ⊥
    nil_cons q = suc-ne-zero (length rest) (sym (ap length q))
rest_word (first ∷ table) zero word rest e = (omega arith, ap (λ (z : List ℕ). get_or z 0 0) e, ap (drop 1) e)
rest_word (first ∷ table) (suc slot) word rest e = let r = rest_word table slot word rest e in (omega (arith, r.0), r.1, r.2)

pub clean_waiting : (table : List ℕ) → Waiting table 0 (clean_from 0 table)
unfolding clean_from clean_by
clean_waiting table = go table 0 refl
  where
    lower : {low : ℕ} {entries : List CleanEntry} → Waiting table (suc low) entries → Waiting table low entries
    lower no_more = no_more
    lower {low} (and_above {entry = entry} a b c d) = and_above {low = low} {entry = entry} (omega arith) b c d

    go : (rest : List ℕ) (slot : ℕ) → drop slot table ≡ rest → Waiting table slot (clean_from slot rest)
    go [] slot e = no_more
    go (word ∷ rest) slot e =
        let r = rest_word table slot word rest e in
        let above = go rest (suc slot) r.2 in
        by (says word) (ap says r.1) r.0 above
      where
        by : (x : Says) → says (get_or table slot 0) ≡ x → slot < length table → Waiting table (suc slot) (clean_from (suc slot) rest)
            → Waiting table slot (clean_by slot x (clean_from (suc slot) rest))
        by free q h above = lower above
        by neither q h above = lower above
        by (names block Clean) q h above = and_above {low = slot} {entry = record { slot = slot; block = block }} (omega arith) h q above
        by (names block Dirty) q h above = lower above
        by (names block Hidden) q h above = lower above
        by (names block PreHidden) q h above = lower above
        by (names block PreDirty) q h above = lower above

pub waiting_take : {table : List ℕ} {low : ℕ} {entries : List CleanEntry} (limit : ℕ) → Waiting table low entries → Waiting table low (take limit entries)
waiting_take zero s = no_more
waiting_take (suc limit) no_more = no_more
waiting_take (suc limit) (and_above a b c d) = and_above a b c (waiting_take limit d)

-- a word changed below them
pub waiting_set : {table : List ℕ} {low : ℕ} {entries : List CleanEntry} (slot word : ℕ) → slot < low → Waiting table low entries
    → Waiting (set table slot word) low entries
waiting_set slot word h no_more = no_more
waiting_set {table} {low} slot word h (and_above {entry = entry} a b c d) =
    and_above a (omega (arith, length-set table slot word))
    (ap says (get_or-set_other table slot entry.slot word 0 (λ e. omega arith)) ∙ c)
    (waiting_set slot word (omega arith) d)

pub lowest_waiting : (limit : ℕ) (table : List ℕ) → Waiting table 0 (lowest_clean limit table)
unfolding lowest_clean
lowest_waiting limit table = waiting_take limit (clean_waiting table)

-- ---- a board on which a sweep may be carried out: it passes the checks, and its phase is Running

pub record Open (board : Board) : Type 0 where
  pub common : Common board false
  pub running : phase_of board ≡ Running

-- the checks of a sweep, passed
pub sweep_open : (board : Board) → number_of (sweep_number board) ≡ 0 → Open board
unfolding sweep_number number_of
sweep_open board e =
    let c = common_passed board false ((is_writing (phase_of board) ⇒ No.Busy) ∷ []) e in
    record { common = c.0; running = only (phase_of board) c.0.awake (passed (is_writing (phase_of board)) No.Busy [] (suc-ne-zero 7) c.1).0 }
  where
    only : (phase : Phase) → is_off phase ≡ false → is_writing phase ≡ false → phase ≡ Running
    only Running a b = refl
    only (Writing count) a b = absurd (false_true (sym b))
    only Off a b = absurd (false_true (sym a))

pub open_lent : {board : Board} → Open board → Lent (sizes board) board
open_lent {board} o = exact_lent (sizes board) board (or_false (inexact (sizes board) board) false o.common.exact).0

pub open_formed : {board : Board} → Open board → All (λ w. well_formed (allows Running) (sizes board) w ≡ true) (table_of board)
open_formed o = common_formed o.common Running o.running

-- the block that a clean entry names is one of the board's
pub swept_block : {board : Board} → Open board → (slot block : ℕ) → slot < length (table_of board) → says (get_or (table_of board) slot 0) ≡ names block Clean
    → block < (sizes board).blocks
swept_block {board} o slot block h e = (formed_names (allows Running) (sizes board) (get_or (table_of board) slot 0) block Clean (all_get slot (open_formed o) h) e).0

-- ---- one entry

-- the board after one entry is swept
abbrev pub swept_once : Board → ℕ → ℕ → Board
swept_once board slot block = record {
  memory = lay (bytes_to (8 * home_block (sizes board) block) 8 (block_at board.memory (checkpoint_block (sizes board) slot))) board.memory;
  volatile = record { cache = cache_of board; table = set (table_of board) slot (word_of block Hidden); controller = board.volatile.controller };
}

-- the board after these entries are swept
abbrev pub swept_all : Board → List CleanEntry → Board
swept_all board entries = record {
  memory = lay (home_copies (sizes board) board.memory entries) board.memory;
  volatile = record { cache = cache_of board; table = hidden entries (table_of board); controller = board.volatile.controller };
}

-- what stands for a block laid over it changes none
pub update_itself : (live : ℕ → List ℕ) (block : ℕ) (bytes : List ℕ) → bytes ≡ live block → (k : ℕ) → update live block bytes k ≡ live k
unfolding update
update_itself live block bytes e k = go (ℕ_discrete k block)
  where
    go : Dec (k ≡ block) → cond (eqb k block) bytes (live k) ≡ live k
    go (yes q) = rw (eq-eqb k block q) (e ∙ ap live (sym q))
    go (no ne) = rw (ne_eqb k block ne)

itself : (block : List ℕ) → replaced block 0 block ≡ block
unfolding replaced
itself block = let h : length block ≤ 0 + length block = omega arith in ap (λ (z : List ℕ). block ++ z) (drop_of_length-le block h) ∙ append-nil block

module _ (board : Board) (o : Open board) (slot block : ℕ) (found : Finds block (table_of board) (entry_at slot Clean)) (below : block < (sizes board).blocks) where
  pub shown : seen board block ≡ block_at board.memory (checkpoint_block (sizes board) slot)
  unfolding seen visible spot_of spot_in block_in
  shown = ap (λ (z : Option Entry). block_in board.memory (cache_of board) (spot_of (sizes board) block z)) (finds_lookup found)

  pub whole_block : length (seen board block) ≡ 64
  whole_block = seen-length board (open_lent o) block below

  pub copy_whole : length (block_at board.memory (checkpoint_block (sizes board) slot)) ≡ 64
  copy_whole = sym (ap length shown) ∙ whole_block

  pub home_room : 64 * home_block (sizes board) block + 64 ≤ length board.memory
  home_room = omega (arith, below, (open_lent o).memory)

  pub copy_laid : Laid (8 * home_block (sizes board) block) 8 (length board.memory) (bytes_to (8 * home_block (sizes board) block) 8 (block_at board.memory (checkpoint_block (sizes board) slot)))
  copy_laid = block_stores block (length board.memory) (block_at board.memory (checkpoint_block (sizes board) slot)) copy_whole home_room

  checks_passed : store_number board block 0 (seen board block) ≡ No.Done
  unfolding store_number common_checks first_of slot_for full
  checks_passed =
      rw (
        o.common.fine,
        o.common.exact,
        o.common.count,
        o.common.awake,
        o.common.formed,
        in_range_false board block 0 (length (seen board block)) below (omega arith) (λ e. omega (arith, whole_block)) (omega (arith, whole_block)),
        finds_lookup found,
      )

  abbrev planned : Option Entry → Phase → List ℕ → Plan
  planned r phase fresh =
      moved_to board block (slot_for r (lowest_free (table_of board))) fresh (window_for (is_short phase r) 0 (length (seen board block))) (move_in phase (stores r))

  -- the sweep of an entry is the store of its block's own bytes
  pub as_store : store_plan board block 0 (seen board block)
      ≡ carry (bytes_to (8 * home_block (sizes board) block) 8 (block_at board.memory (checkpoint_block (sizes board) slot))) (swept_once board slot block).volatile []
  unfolding store_plan store_by guard number_of slot_for move_in stores is_short window_for moved_to moved lay_at spot_in
  as_store =
      let fresh = replaced (seen board block) 0 (seen board block) in
      ap (λ (n : Number). guard n (planned (lookup block (table_of board)) (phase_of board) fresh)) checks_passed
      ∙ ap (λ (r : Option Entry). planned r (phase_of board) fresh) (finds_lookup found)
      ∙ ap (λ (phase : Phase). planned (entry_at slot Clean) phase fresh) o.running
      ∙ ap (planned (entry_at slot Clean) Running) (itself (seen board block) ∙ shown)
      ∙ ap (λ (ws : List Store). carry ws (swept_once board slot block).volatile []) (window_all block (block_at board.memory (checkpoint_block (sizes board) slot)))

  -- a copy to HOME touches no CHECKPOINT block
  pub reads_on : (entries : List CleanEntry) → home_copies (sizes board) (swept_once board slot block).memory entries ≡ home_copies (sizes board) board.memory entries
  unfolding home_copies
  reads_on [] = refl
  reads_on (entry ∷ entries) =
      let same : block_at (swept_once board slot block).memory (checkpoint_block (sizes board) entry.slot) ≡ block_at board.memory (checkpoint_block (sizes board) entry.slot) =
      block_laid_other board.memory (checkpoint_block (sizes board) entry.slot) (home_block (sizes board) block) (block_at board.memory (checkpoint_block (sizes board) slot))
      copy_whole home_room (λ e. omega (arith, below))
      in
      rw (same, reads_on entries)

  -- the entry, and then the others
  pub first_then : (entries : List CleanEntry) → swept_all (swept_once board slot block) entries ≡ swept_all board (record { slot = slot; block = block } ∷ entries)
  unfolding home_copies hidden
  first_then entries =
      let after = (swept_all board (record { slot = slot; block = block } ∷ entries)).volatile in
      ap (λ (m : List ℕ). record { memory = m; volatile = after })
      (ap (λ (ws : List Store). lay ws (swept_once board slot block).memory) (reads_on entries) ∙ sym (lay-append _ (home_copies (sizes board) board.memory entries) board.memory))
