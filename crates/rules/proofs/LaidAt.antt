-- A new block laid at its place: the words of the list, and the memory and CACHE after them.
use mathlib.Core.Path.{◌≡◌, refl, sym, ap, ◌∙◌, subst}
use mathlib.Core.Logic.{◌≢◌}
use mathlib.Core.Bool.{Bool, true, false}
use mathlib.Core.List.{List, []}
use Prim.Native.Nat.{ℕ, ◌+◌, ◌*◌, ◌≤◌}
use native.Mathlib.Omega.{arith}
use lib.ListN.{length}
use Rattle.std.specs.Prelude.{Option, Some}
use Rattle.words.specs.Words.{Store, lay, bytes_to}
use Rattle.words.proofs.Blocks.{block_laid, block_laid_other}
use Rattle.rules.specs.declared.Geometry.{Geometry}
use Rattle.rules.specs.declared.Phase.{Phase}
use Rattle.rules.specs.declared.Phase.TheVariants.{Running, Writing, Off}
use Rattle.rules.specs.declared.State.{State}
use Rattle.rules.specs.declared.State.TheVariants.{Clean, Dirty, Hidden, PreHidden, PreDirty}
use Rattle.rules.specs.declared.Entry.{Entry}
use Rattle.rules.specs.TableWords.{entry_at}
use Rattle.rules.specs.declared.Place.{Place}
use Rattle.rules.specs.declared.Window.{Window}
use Rattle.rules.specs.Board.{Board, cache_of}
use Rattle.rules.specs.Power.{carry}
use Rattle.rules.specs.Loads.{Spot, in_memory, in_cache, spot_in, shows, spot_of, block_in}
use Rattle.rules.specs.Stores.{replaced, to, stores, move_in, slot_for, all, touched, dirty_or_hidden, is_short, window_for, window_to, lay_at}
use Rattle.rules.proofs.Clashes.{false_true}
use Rattle.rules.proofs.Windows.{Covers, all_covers, touched_covers, window_all, window_whole}
use Rattle.rules.proofs.EntryCases.{Case, nothing, in_slot, case_of}

pub memory_cache : (q i : ℕ) → in_memory q ≡ in_cache i → ⊥
memory_cache q i e = let z : ◌≡◌ {A = ℕ} 0 1 = cc in omega arith

unfoldable pub memory_with : List ℕ → List ℕ → Spot → List ℕ
memory_with memory fresh (in_memory q) = lay (bytes_to (8 * q) 8 fresh) memory
memory_with memory fresh (in_cache q) = memory

unfoldable pub cache_with : List ℕ → List ℕ → Spot → List ℕ
cache_with cache fresh (in_memory q) = cache
cache_with cache fresh (in_cache q) = lay (bytes_to (8 * q) 8 fresh) cache

-- the plan that lays it: words of the list, and its CACHE
unfoldable pub stores_at : List ℕ → Window → Spot → List Store
stores_at fresh window (in_memory q) = window_to q window fresh
stores_at fresh window (in_cache q) = []

pub laid_at : (board : Board) (table fresh : List ℕ) (window : Window) (s : Spot)
    → lay_at board table fresh window s
    ≡ carry (stores_at fresh window s) (record { cache = cache_with (cache_of board) fresh s; table = table; controller = board.volatile.controller }) []
unfolding lay_at stores_at cache_with
laid_at board table fresh window (in_memory q) = refl
laid_at board table fresh window (in_cache q) = refl

-- the words of the list leave the whole block at the spot
unfoldable pub Whole : List ℕ → List ℕ → Window → Spot → Type 0
Whole memory fresh window s = lay (stores_at fresh window s) memory ≡ memory_with memory fresh s

pub all_whole : (memory fresh : List ℕ) (s : Spot) → Whole memory fresh all s
unfolding Whole lay stores_at memory_with
all_whole memory fresh (in_memory q) = ap (λ (z : List Store). lay z memory) (window_all q fresh)
all_whole memory fresh (in_cache q) = refl

unfoldable pub Room : List ℕ → List ℕ → Spot → Type 0
Room memory cache (in_memory q) = 64 * q + 64 ≤ length memory
Room memory cache (in_cache q) = 64 * q + 64 ≤ length cache

pub spot_laid : (memory cache fresh : List ℕ) (s : Spot) → length fresh ≡ 64 → Room memory cache s
    → block_in (memory_with memory fresh s) (cache_with cache fresh s) s ≡ fresh
unfolding memory_with cache_with Room block_in
spot_laid memory cache fresh (in_memory q) e h = block_laid memory q fresh e h
spot_laid memory cache fresh (in_cache q) e h = block_laid cache q fresh e h

pub spot_other : (memory cache fresh : List ℕ) (s r : Spot) → length fresh ≡ 64 → Room memory cache s → r ≢ s
    → block_in (memory_with memory fresh s) (cache_with cache fresh s) r ≡ block_in memory cache r
unfolding memory_with cache_with Room block_in
spot_other memory cache fresh (in_memory q) (in_memory a) e h ne = block_laid_other memory a q fresh e h (λ z. ne (ap in_memory z))
spot_other memory cache fresh (in_memory q) (in_cache a) e h ne = refl
spot_other memory cache fresh (in_cache q) (in_memory a) e h ne = refl
spot_other memory cache fresh (in_cache q) (in_cache a) e h ne = block_laid_other cache a q fresh e h (λ z. ne (ap in_cache z))

-- ---- the words that a store lays leave the whole new block

pub window_covers : (short : Bool) (offset len : ℕ) → offset + len ≤ 64 → Covers offset len (window_for short offset len)
unfolding window_for
window_covers true offset len h = touched_covers offset len h
window_covers false offset len h = all_covers offset len h

-- where the block shows, a window that has every word of the range is enough
shown_whole : (memory cache : List ℕ) (s : Spot) (offset : ℕ) (bytes : List ℕ) (window : Window)
    → Room memory cache s → offset + length bytes ≤ 64 → Covers offset (length bytes) window
    → Whole memory (replaced (block_in memory cache s) offset bytes) window s
unfolding Whole lay stores_at memory_with Room block_in
shown_whole memory cache (in_memory q) offset bytes window room fits c = window_whole memory q offset bytes room fits window c
shown_whole memory cache (in_cache q) offset bytes window room fits c = refl

-- what the lookup found is at the slot taken
pub found_taken : (found : Option Entry) (lowest : Option ℕ) (slot : ℕ) → slot_for found lowest ≡ Some slot → (i : ℕ) (s : State) → found ≡ entry_at i s → i ≡ slot
unfolding slot_for
found_taken found lowest slot e i s q = let t : slot_for (entry_at i s) lowest ≡ Some slot = ap (λ (x : Option Entry). slot_for x lowest) (sym q) ∙ e in cc

-- what holds of dirty and of hidden while Running holds of every store that is short
pub short_only : (P : Phase → Option Entry → Type 0) → ((i : ℕ) → P Running (entry_at i Dirty)) → ((i : ℕ) → P Running (entry_at i Hidden))
    → (phase : Phase) (found : Option Entry) → is_short phase found ≡ true → P phase found
unfolding is_short dirty_or_hidden
short_only P d h phase found = go phase (case_of found)
  where
    go : (phase : Phase) {found : Option Entry} → Case found → is_short phase found ≡ true → P phase found
    go Running nothing e = absurd (false_true e)
    go Running (in_slot i Clean) e = absurd (false_true e)
    go Running (in_slot i Dirty) e = d i
    go Running (in_slot i Hidden) e = h i
    go Running (in_slot i PreHidden) e = absurd (false_true e)
    go Running (in_slot i PreDirty) e = absurd (false_true e)
    go (Writing count) c e = absurd (false_true e)
    go Off c e = absurd (false_true e)

-- a block that is stored short goes where it shows
pub short_shown : (g : Geometry) (block slot : ℕ) (phase : Phase) (found : Option Entry) (place : Place) (state : State)
    → is_short phase found ≡ true → move_in phase (stores found) ≡ to place state → ((i : ℕ) (s : State) → found ≡ entry_at i s → i ≡ slot)
    → spot_of g block found ≡ spot_in g block slot place
unfolding move_in stores spot_of
short_shown g block slot phase found place state h =
    short_only (λ phase found. move_in phase (stores found) ≡ to place state → ((i : ℕ) (s : State) → found ≡ entry_at i s → i ≡ slot) → spot_of g block found ≡ spot_in g block slot place)
    (λ i m e. there i Dirty (cc) (e i Dirty refl)) (λ i m e. there i Hidden (cc) (e i Hidden refl)) phase found h
  where
    there : (i : ℕ) (s : State) → shows s ≡ place → i ≡ slot → spot_in g block i (shows s) ≡ spot_in g block slot place
    there i s p q = ap (spot_in g block i) p ∙ ap (λ (z : ℕ). spot_in g block z place) q

pub row_whole : (g : Geometry) (memory cache : List ℕ) (block offset : ℕ) (bytes : List ℕ) (phase : Phase) (found : Option Entry) (slot : ℕ) (place : Place) (state : State)
    → move_in phase (stores found) ≡ to place state → ((i : ℕ) (s : State) → found ≡ entry_at i s → i ≡ slot)
    → Room memory cache (spot_in g block slot place) → offset + length bytes ≤ 64
    → Whole memory (replaced (block_in memory cache (spot_of g block found)) offset bytes) (window_for (is_short phase found) offset (length bytes)) (spot_in g block slot place)
unfolding window_for
row_whole g memory cache block offset bytes phase found slot place state m e room fits = go (is_short phase found) refl
  where
    spot : Spot
    spot = spot_in g block slot place

    len : ℕ
    len = length bytes

    go : (short : Bool) → is_short phase found ≡ short
        → Whole memory (replaced (block_in memory cache (spot_of g block found)) offset bytes) (window_for short offset len) spot
    go true h =
        subst (λ (z : Spot). Whole memory (replaced (block_in memory cache z) offset bytes) (touched offset len) spot) (sym (short_shown g block slot phase found place state h m e))
        (shown_whole memory cache spot offset bytes (touched offset len) room fits (touched_covers offset len fits))
    go false h = all_whole memory (replaced (block_in memory cache (spot_of g block found)) offset bytes) spot
