-- A free slot is room for any store in range: all of its words are stored where the supply has 8.
use mathlib.Core.Path.{◌≡◌, refl, sym, ap, ◌∙◌}
use mathlib.Core.Logic.{◌≢◌}
use mathlib.Core.Bool.{Bool, true, false, cond}
use mathlib.Core.List.{List, [], ◌∷◌}
use Prim.Native.Nat.{ℕ, ◌+◌, ◌*◌, ◌≤◌, ◌<◌}
use native.Mathlib.Omega.{arith}
use native.Mathlib.Nat.{suc-ne-zero, le_refl}
use lib.ListN.{length, get_or}
use borrow.Author.Tests.{le-leb}
use Rattle.std.specs.Prelude.{Option, Some, None}
use Rattle.words.specs.Words.{Store}
use Rattle.words.proofs.All.{All}
use Rattle.rules.specs.declared.Phase.{Phase}
use Rattle.rules.specs.declared.Phase.TheVariants.{Running, Writing, Off}
use Rattle.rules.specs.declared.State.{State}
use Rattle.rules.specs.declared.State.TheVariants.{Clean, Dirty, Hidden, PreHidden, PreDirty}
use Rattle.rules.specs.declared.Entry.{Entry}
use Rattle.rules.specs.declared.Number.TheVariants as No
use Rattle.rules.specs.TableWords.{entry_at, free, says, lookup, lowest_free}
use Rattle.rules.specs.Board.{Board, Volatile, sizes, phase_of, table_of}
use Rattle.rules.specs.Numbers.{number_of, ◌⇒◌, inexact, is_off, while_writing, allows, out_of_range, is_writing}
use Rattle.rules.specs.Power.{carry, guard, settle}
use Rattle.rules.specs.Loads.{spot_in, seen, load_number}
use Rattle.rules.specs.Stores.{replaced, stores, move_in, slot_for, full, dirty_or_hidden, is_short, window_for, window_to, lay_at, moved, moved_to, store_by, store_plan}
use Rattle.rules.specs.Calls.{store, plan, call}
use Rattle.rules.proofs.Clashes.{false_true, or_false}
use Rattle.rules.proofs.TableWordLaws.{says_zero}
use Rattle.rules.proofs.Finding.{Finds, finds, found_at, found_lt}
use Rattle.rules.proofs.Changing.{all_get}
use Rattle.rules.proofs.FreeSlot.{VacantAt, vacant}
use Rattle.rules.proofs.Checked.{passed, Common, common_passed, common_formed, formed_names, exact_lent, InRange, in_range}
use Rattle.rules.proofs.Windows.{window_stores}
use Rattle.rules.proofs.LaidAt.{window_covers}
use Rattle.rules.proofs.KeepsStore.{replaced-length, seen-length}
use Rattle.rules.proofs.Moves.{store_room}
use Rattle.rules.proofs.EntryCases.{Case, nothing, in_slot, case_of}

-- a list within the supply is never cut
uncut : (q : ℕ) (board : Board) (ws : List Store) (after : Volatile) → length ws ≤ q → number_of (settle q board (carry ws after [])).number ≡ 0
unfolding settle number_of
uncut q board ws after h = rw (le-leb (length ws) q h)

module _ (board : Board) (slot : ℕ) (inside : slot < length (table_of board)) (room : get_or (table_of board) slot 0 ≡ 0)
    (block offset : ℕ) (bytes : List ℕ) (checked : number_of (load_number board block offset (length bytes)) ≡ 0) where
  abbrev table : List ℕ
  table = table_of board

  abbrev fresh : List ℕ
  fresh = replaced (seen board block) offset bytes

  load_passed : Common board false × InRange board block offset (length bytes)
  unfolding load_number number_of
  load_passed =
      let c = common_passed board false ((out_of_range board block offset (length bytes) ⇒ No.Range) ∷ []) checked in
      (c.0, in_range board block offset (length bytes) (passed (out_of_range board block offset (length bytes)) No.Range [] (suc-ne-zero 5) c.1).0)

  -- the words of the new block that are stored
  few_words : (k : ℕ) (short : Bool) → length (window_to k (window_for short offset (length bytes)) fresh) ≤ 8
  few_words k short =
      let lent = exact_lent (sizes board) board (or_false (inexact (sizes board) board) false load_passed.0.exact).0 in
      let range = load_passed.1 in
      let size = replaced-length (seen board block) offset bytes (seen-length board lent block range.below) range.fits in
      let few = (window_covers short offset (length bytes) range.fits).few in
      omega (arith, few, (window_stores k (64 * k + 64) (window_for short offset (length bytes)) fresh few size (le_refl (64 * k + 64))).count)

  -- an entry that is found while Writing is neither dirty nor hidden
  writing_state : (count i : ℕ) (state : State) → phase_of board ≡ Writing count → Finds block table (entry_at i state) → while_writing state ≡ true
  unfolding allows
  writing_state count i state writing f =
      (formed_names while_writing (sizes board) (get_or table i 0) block state (all_get i (common_formed load_passed.0 (Writing count) writing) (found_lt f)) (found_at f)).1

  abbrev answer : ℕ → Phase → Option Entry → Option ℕ → ℕ
  answer q phase r z =
      number_of (settle q board (guard (cond (full (slot_for r z)) No.Full No.Done) (moved_to board block (slot_for r z) fresh (window_for (is_short phase r) offset (length bytes)) (move_in phase (stores r))))).number

  -- the slot is free, so that one is found
  not_full : All (λ w. says w ≢ free) table → ⊥
  not_full none_free = all_get slot none_free inside (ap says room ∙ says_zero)

  -- while Running the new block goes to the memory
  running_accepted : (q : ℕ) → 8 ≤ q → (r : Option Entry) (z : Option ℕ) → VacantAt table z → answer q Running r z ≡ 0
  unfolding guard moved_to moved slot_for full move_in stores lay_at spot_in number_of is_short dirty_or_hidden
  running_accepted q supply r = go (case_of r)
    where
      laid : (k : ℕ) (short : Bool) (after : Volatile) → number_of (settle q board (carry (window_to k (window_for short offset (length bytes)) fresh) after [])).number ≡ 0
      laid k short after = uncut q board _ after (omega (arith, few_words k short))

      go : {r : Option Entry} → Case r → (z : Option ℕ) → VacantAt table z → answer q Running r z ≡ 0
      go nothing None v = absurd (not_full v)
      go nothing (Some lowest) v = laid _ false _
      go (in_slot i Clean) z v = laid _ false _
      go (in_slot i Dirty) z v = laid _ true _
      go (in_slot i Hidden) z v = laid _ true _
      go (in_slot i PreHidden) z v = laid _ false _
      go (in_slot i PreDirty) z v = laid _ false _

  -- while Writing it goes to CACHE, so that no supply cuts it
  writing_accepted : (q count : ℕ) → phase_of board ≡ Writing count → (r : Option Entry) → Finds block table r → (z : Option ℕ) → VacantAt table z → answer q (Writing count) r z ≡ 0
  unfolding guard moved_to moved slot_for full move_in stores lay_at spot_in number_of while_writing
  writing_accepted q count writing r = go (case_of r)
    where
      laid : (after : Volatile) → number_of (settle q board (carry [] after [])).number ≡ 0
      laid after = uncut q board [] after (omega arith)

      go : {r : Option Entry} → Case r → Finds block table r → (z : Option ℕ) → VacantAt table z → answer q (Writing count) r z ≡ 0
      go nothing f None v = absurd (not_full v)
      go nothing f (Some lowest) v = laid _
      go (in_slot i Clean) f z v = laid _
      go (in_slot i Dirty) f z v = absurd (false_true (writing_state count i Dirty writing f))
      go (in_slot i Hidden) f z v = absurd (false_true (writing_state count i Hidden writing f))
      go (in_slot i PreHidden) f z v = laid _
      go (in_slot i PreDirty) f z v = laid _

  pub store_accepted : (q : ℕ) → (is_writing (phase_of board) ≡ false → 8 ≤ q) → number_of (call q board (store block offset bytes)).number ≡ 0
  unfolding call plan store_plan store_by
  store_accepted q supply = rw (store_room board block offset bytes checked) (go (phase_of board) refl)
    where
      go : (phase : Phase) → phase_of board ≡ phase → answer q phase (lookup block table) (lowest_free table) ≡ 0
      go Running e = running_accepted q (supply (ap is_writing e)) (lookup block table) (lowest_free table) (vacant table)
      go (Writing count) e = writing_accepted q count e (lookup block table) (finds block table) (lowest_free table) (vacant table)
      go Off e = absurd (false_true (sym load_passed.0.awake ∙ ap is_off e))
