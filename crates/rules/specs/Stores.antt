-- Stores: where the new block goes, which of its words are stored, and what becomes of its entry (document 01, Stores; document 02, No. 5).
use Rattle.std.specs.Prelude.{Bool, true, false, cond, List, [], ◌∷◌, ◌++◌, ℕ, ◌+◌, ◌*◌, ◌-◌, ◌/◌, length, take, drop, set, Option, Some, None}
use Rattle.words.specs.Words.{Store, bytes_to, lay}
use Rattle.rules.specs.declared.Phase.{Phase}
use Rattle.rules.specs.declared.Phase.TheVariants.{Running, Writing, Off}
use Rattle.rules.specs.declared.State.{State}
use Rattle.rules.specs.declared.State.TheVariants.{Clean, Dirty, Hidden, PreHidden, PreDirty}
use Rattle.rules.specs.declared.Entry.{Entry}
use Rattle.rules.specs.declared.Place.{Place}
use Rattle.rules.specs.declared.Place.TheVariants.{Home, Checkpoint, Cache}
use Rattle.rules.specs.declared.Window.{Window}
use Rattle.rules.specs.declared.Number.{Number}
use Rattle.rules.specs.declared.Number.TheVariants as No
use Rattle.rules.specs.TableWords.{word_of, lookup, lowest_free}
use Rattle.rules.specs.Board.{Board, sizes, phase_of, cache_of, table_of}
use Rattle.rules.specs.Numbers.{◌⇒◌, first_of, common_checks, out_of_range}
use Rattle.rules.specs.Power.{Plan, refuse, carry, guard}
use Rattle.rules.specs.Loads.{Spot, in_memory, in_cache, spot_in, seen}

-- the new block: the visible block with the bytes replaced
unfoldable pub replaced : List ℕ → ℕ → List ℕ → List ℕ
replaced block offset bytes = take offset block ++ bytes ++ drop (offset + length bytes) block

-- where all 64 bytes go, and the entry's state after
pub data Move : Type 0 where
  to : Place → State → Move
  not_well_formed : Move

pub record Row : Type 0 where
  pub running : Move
  pub writing : Move

abbrev row : Move → Move → Row
row running writing = record { running = running; writing = writing }

-- the table of stores: the entry's state, or none, the column Running, the column Writing
abbrev row_of : Option State → Row
row_of None = row (to Checkpoint Dirty) (to Cache PreDirty)
row_of (Some Clean) = row (to Home Hidden) (to Cache PreHidden)
row_of (Some Dirty) = row (to Checkpoint Dirty) not_well_formed
row_of (Some Hidden) = row (to Home Hidden) not_well_formed
row_of (Some PreHidden) = row (to Home Hidden) (to Cache PreHidden)
row_of (Some PreDirty) = row (to Checkpoint Dirty) (to Cache PreDirty)

unfoldable pub stores : Option Entry → Row
stores None = row_of None
stores (Some entry) = row_of (Some entry.state)

-- the column of the phase; a store while Off is refused before it is asked
unfoldable pub move_in : Phase → Row → Move
move_in Running r = r.running
move_in (Writing count) r = r.writing
move_in Off r = not_well_formed

-- the slot: that of the entry, else the lowest free slot
unfoldable pub slot_for : Option Entry → Option ℕ → Option ℕ
slot_for (Some entry) lowest = Some entry.slot
slot_for None lowest = lowest

-- 7 FULL: no entry and no free slot
unfoldable pub full : Option ℕ → Bool
full None = true
full (Some slot) = false

unfoldable pub store_number : Board → ℕ → ℕ → List ℕ → Number
unfolding first_of common_checks out_of_range full slot_for lookup lowest_free
store_number board block offset bytes =
    first_of
    (common_checks board false
    ++ (out_of_range board block offset (length bytes) ⇒ No.Range)
    ∷ (full (slot_for (lookup block (table_of board)) (lowest_free (table_of board))) ⇒ No.Full)
    ∷ [])

-- ---- which words of the new block are stored

-- all 8
abbrev pub all : Window
all = record { first = 0; count = 8 }

-- those that the bytes of the range touch
unfoldable pub touched : ℕ → ℕ → Window
touched offset len = record { first = offset / 8; count = (offset + len + 7) / 8 - offset / 8 }

-- which of the two: the state found decides, not the state after (document 02, No. 5)
abbrev dirty_or_hidden_state : State → Bool
dirty_or_hidden_state Clean = false
dirty_or_hidden_state Dirty = true
dirty_or_hidden_state Hidden = true
dirty_or_hidden_state PreHidden = false
dirty_or_hidden_state PreDirty = false

unfoldable pub dirty_or_hidden : Option Entry → Bool
dirty_or_hidden None = false
dirty_or_hidden (Some entry) = dirty_or_hidden_state entry.state

unfoldable pub is_short : Phase → Option Entry → Bool
unfolding dirty_or_hidden
is_short Running found = dirty_or_hidden found
is_short (Writing count) found = false
is_short Off found = false

unfoldable pub window_for : Bool → ℕ → ℕ → Window
unfolding touched
window_for short offset len = cond short (touched offset len) all

-- these words, ascending, each at its place in block q of the memory
unfoldable pub window_to : ℕ → Window → List ℕ → List Store
unfolding bytes_to
window_to q window new = bytes_to (8 * q + window.first) window.count (drop (8 * window.first) new)

-- ---- the plan

-- the new block laid at its place: words of the list, or bytes of CACHE
unfoldable pub lay_at : Board → List ℕ → List ℕ → Window → Spot → Plan
unfolding window_to bytes_to lay
lay_at board table new window (in_memory q) =
    carry (window_to q window new) (record { cache = cache_of board; table = table; controller = board.volatile.controller }) []
lay_at board table new window (in_cache q) =
    carry [] (record { cache = lay (bytes_to (8 * q) 8 new) (cache_of board); table = table; controller = board.volatile.controller }) []

unfoldable pub moved : Board → ℕ → ℕ → List ℕ → Window → Move → Plan
unfolding lay_at spot_in word_of
moved board block slot new window (to place state) =
    lay_at board (set (table_of board) slot (word_of block state)) new window (spot_in (sizes board) block slot place)
moved board block slot new window not_well_formed = refuse No.Table

unfoldable pub moved_to : Board → ℕ → Option ℕ → List ℕ → Window → Move → Plan
unfolding moved
moved_to board block None new window move = refuse No.Full
moved_to board block (Some slot) new window move = moved board block slot new window move

-- a store that lays these words of the new block; with all 8 it is document 01's
unfoldable pub store_by : Window → Board → ℕ → ℕ → List ℕ → Plan
unfolding guard store_number moved_to slot_for lookup lowest_free replaced seen move_in stores
store_by window board block offset bytes =
    guard (store_number board block offset bytes)
    (moved_to board block (slot_for (lookup block (table_of board)) (lowest_free (table_of board))) (replaced (seen board block) offset bytes) window
    (move_in (phase_of board) (stores (lookup block (table_of board)))))

unfoldable pub store_plan : Board → ℕ → ℕ → List ℕ → Plan
unfolding store_by window_for is_short lookup
store_plan board block offset bytes = store_by (window_for (is_short (phase_of board) (lookup block (table_of board))) offset (length bytes)) board block offset bytes
