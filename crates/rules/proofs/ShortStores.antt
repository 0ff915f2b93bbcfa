-- Document 02, No. 5: a store that finds dirty or hidden stores the words that its bytes touch, and leaves what all 8 leave.
use mathlib.Core.Path.{◌≡◌, refl, sym, ap, ◌∙◌}
use mathlib.Core.Logic.{◌≢◌, ◌↔◌}
use mathlib.Core.Bool.{Bool, false}
use mathlib.Core.List.{List}
use Prim.Native.Nat.{ℕ, ◌+◌, ◌≤◌, ◌<◌, min}
use native.Mathlib.Omega.{arith}
use lib.ListN.{length, set, take, length-take}
use Rattle.std.specs.Prelude.{Option, Some, None}
use Rattle.words.specs.Words.{bytes_to}
use Rattle.rules.specs.declared.Phase.{Phase}
use Rattle.rules.specs.declared.Phase.TheVariants.{Running, Writing, Off}
use Rattle.rules.specs.declared.State.{State}
use Rattle.rules.specs.declared.State.TheVariants.{Clean, Dirty, Hidden, PreHidden, PreDirty}
use Rattle.rules.specs.declared.Entry.{Entry}
use Rattle.rules.specs.declared.Place.{Place}
use Rattle.rules.specs.declared.Window.{Window}
use Rattle.rules.specs.Geometry.{home_block, checkpoint_block}
use Rattle.rules.specs.TableWords.{entry_at, word_of, lookup, lowest_free}
use Rattle.rules.specs.Board.{Board, sizes, phase_of, table_of}
use Rattle.rules.specs.Numbers.{number_of}
use Rattle.rules.specs.Power.{Plan, settle, stored}
use Rattle.rules.specs.Loads.{Spot, in_memory, in_cache, spot_in, shows, spot_of, seen}
use Rattle.rules.specs.Stores.{replaced, Move, to, stores, move_in, slot_for, full, store_number, all, touched, dirty_or_hidden, is_short, window_for, window_to, lay_at, moved, moved_to, store_by, store_plan}
use Rattle.rules.specs.Calls.{store, plan, call}
use Rattle.rules.specs.Promises.{Touches, ShortList, DirtyOrHidden, is_dirty, is_hidden, ShortStores, PlanElsewhere, EightElsewhere, SameBytes}
use Rattle.rules.proofs.Clashes.{false_true}
use Rattle.rules.proofs.Checked.{InRange}
use Rattle.rules.proofs.LaidAt.{all_whole}
use Rattle.rules.proofs.Answers.{past_guard}
use Rattle.rules.proofs.Moves.{laid_board, store_checked, store_stored}
use Rattle.rules.proofs.EntryCases.{Case, nothing, in_slot, case_of}

-- the words of the range, by the quotients of its ends
touched_exactly : (offset len k : ℕ) → len ≢ 0
    → (((touched offset len).first ≤ k) × (k < (touched offset len).first + (touched offset len).count)) ↔ Touches offset len k
unfolding touched Touches
touched_exactly offset len k h =
    (λ t. (omega (arith, h, t.0, t.1), omega (arith, h, t.0, t.1)), λ t. (omega (arith, h, t.0, t.1), omega (arith, h, t.0, t.1)))

touched_some : (offset len : ℕ) → len ≢ 0 → 1 ≤ (touched offset len).count
unfolding touched
touched_some offset len h = omega (arith, h)

touched_few : (offset len : ℕ) → offset + len ≤ 64 → (touched offset len).count ≤ 8
unfolding touched
touched_few offset len h = omega arith

module _ (board : Board) (block offset : ℕ) (bytes : List ℕ) where
  abbrev fresh : List ℕ
  fresh = replaced (seen board block) offset bytes

  abbrev table : List ℕ
  table = table_of board

  -- the store behind its checks, in a phase and for what a lookup finds
  abbrev carried : Window → Phase → Option Entry → Plan
  carried window phase found = moved_to board block (slot_for found (lowest_free table)) fresh window (move_in phase (stores found))

  short : (slot q : ℕ) (state : State) → phase_of board ≡ Running → lookup block table ≡ entry_at slot state
      → number_of (store_number board block offset bytes) ≡ 0 → InRange board block offset (length bytes)
      → spot_in (sizes board) block slot (shows state) ≡ in_memory q
      → ((p : ℕ) → stored p (carried (window_for (is_short Running (entry_at slot state)) offset (length bytes)) Running (entry_at slot state)) ≡ take p (window_to q (touched offset (length bytes)) fresh))
      → ShortList board block offset bytes
  unfolding plan store_plan store_by spot_of
  short slot q state run found e r s l = record {
    place = q;
    shown = ap (spot_of (sizes board) block) found ∙ s;
    window = touched offset (length bytes);
    some_word = touched_some offset (length bytes) r.some;
    at_most_eight = touched_few offset (length bytes) r.fits;
    touched = λ k. touched_exactly offset (length bytes) k r.some;
    list = λ p.
        ap (stored p)
        (past_guard (store_number board block offset bytes) (carried (window_for (is_short (phase_of board) (lookup block table)) offset (length bytes)) (phase_of board) (lookup block table)) e
        ∙ ap (λ (z : Phase). carried (window_for (is_short z (lookup block table)) offset (length bytes)) z (lookup block table)) run
        ∙ ap (λ (z : Option Entry). carried (window_for (is_short Running z) offset (length bytes)) Running z) found)
        ∙ l p;
  }

  pub short_list : (slot : ℕ) (state : State) → phase_of board ≡ Running → lookup block table ≡ entry_at slot state → DirtyOrHidden state
      → number_of (store_number board block offset bytes) ≡ 0 → ShortList board block offset bytes
  unfolding window_for is_short dirty_or_hidden moved_to moved lay_at slot_for move_in stores spot_in stored
  short_list slot Dirty run f is_dirty e =
      short slot (checkpoint_block (sizes board) slot) Dirty run f e (store_checked board block offset bytes e).2 refl (λ p. refl)
  short_list slot Hidden run f is_hidden e =
      short slot (home_block (sizes board) block) Hidden run f e (store_checked board block offset bytes e).2 refl (λ p. refl)
  short_list slot Clean run f x4 e = elim x4 [ ]
  short_list slot PreHidden run f x5 e = elim x5 [ ]
  short_list slot PreDirty run f x6 e = elim x6 [ ]

  -- every other row of the column Running has 8 words, where there is room
  eight : (p : ℕ) {r : Option Entry} → Case r → ((slot : ℕ) (state : State) → DirtyOrHidden state → r ≢ entry_at slot state) → (z : Option ℕ) → full (slot_for r z) ≡ false
      → length (stored p (moved_to board block (slot_for r z) fresh (window_for (is_short Running r) offset (length bytes)) (move_in Running (stores r)))) ≡ min p 8
  unfolding window_for is_short dirty_or_hidden moved_to moved lay_at window_to bytes_to slot_for move_in stores spot_in full stored
  eight p nothing ne None room = absurd (false_true (sym room))
  eight p nothing ne (Some slot) room = length-take p _
  eight p (in_slot slot Clean) ne z room = length-take p _
  eight p (in_slot slot Dirty) ne z room = absurd (ne slot Dirty is_dirty refl)
  eight p (in_slot slot Hidden) ne z room = absurd (ne slot Hidden is_hidden refl)
  eight p (in_slot slot PreHidden) ne z room = length-take p _
  eight p (in_slot slot PreDirty) ne z room = length-take p _

  pub eight_list : (p : ℕ) → phase_of board ≡ Running → ((slot : ℕ) (state : State) → DirtyOrHidden state → lookup block table ≢ entry_at slot state)
      → number_of (store_number board block offset bytes) ≡ 0 → length (stored p (plan board (store block offset bytes))) ≡ min p 8
  unfolding plan store_plan store_by
  eight_list p run ne e =
      ap (λ (z : Plan). length (stored p z))
      (past_guard (store_number board block offset bytes) (carried (window_for (is_short (phase_of board) (lookup block table)) offset (length bytes)) (phase_of board) (lookup block table)) e
      ∙ ap (λ (z : Phase). carried (window_for (is_short z (lookup block table)) offset (length bytes)) z (lookup block table)) run)
      ∙ eight p (case_of (lookup block table)) ne (lowest_free table) (store_checked board block offset bytes e).3

  -- all 8 words are laid under an allowance of 8
  eight_accepted : (slot : ℕ) (place : Place) (state : State) → number_of (settle 8 board (moved board block slot fresh all (to place state))).number ≡ 0
  unfolding moved lay_at window_to bytes_to settle number_of
  eight_accepted slot place state = go (spot_in (sizes board) block slot place)
    where
      go : (s : Spot) → number_of (settle 8 board (lay_at board (set table slot (word_of block state)) fresh all s)).number ≡ 0
      go (in_memory q) = refl
      go (in_cache q) = refl

  pub same_bytes_at : (p : ℕ) → number_of (call p board (store block offset bytes)).number ≡ 0
      → (call p board (store block offset bytes)).board ≡ (settle 8 board (store_by all board block offset bytes)).board
  unfolding store_by moved_to
  same_bytes_at p e =
      let s = store_stored board block offset bytes p e in
      let spot = spot_in (sizes board) block s.slot s.place in
      let whole = all_whole board.memory fresh spot in
      s.leaves
      ∙ sym
      (ap (λ (z : Plan). (settle 8 board z).board)
      (past_guard (store_number board block offset bytes) (carried all (phase_of board) (lookup block table)) s.checked
      ∙ ap (λ (z : Option ℕ). moved_to board block z fresh all (move_in (phase_of board) (stores (lookup block table)))) s.takes
      ∙ ap (λ (z : Move). moved board block s.slot fresh all z) s.moves)
      ∙ laid_board board block offset bytes 8 s.slot s.place s.state all whole (eight_accepted s.slot s.place s.state))

-- what decides on a short list is the phase and the entry found
not_short : (phase : Phase) (found : Option Entry) → ((slot : ℕ) (state : State) → phase ≡ Running → DirtyOrHidden state → found ≢ entry_at slot state)
    → is_short phase found ≡ false
unfolding is_short dirty_or_hidden
not_short phase found = go phase (case_of found)
  where
    go : (phase : Phase) {found : Option Entry} → Case found → ((slot : ℕ) (state : State) → phase ≡ Running → DirtyOrHidden state → found ≢ entry_at slot state)
        → is_short phase found ≡ false
    go Running nothing ne = refl
    go Running (in_slot slot Clean) ne = refl
    go Running (in_slot slot Dirty) ne = absurd (ne slot Dirty refl is_dirty refl)
    go Running (in_slot slot Hidden) ne = absurd (ne slot Hidden refl is_hidden refl)
    go Running (in_slot slot PreHidden) ne = refl
    go Running (in_slot slot PreDirty) ne = refl
    go (Writing count) c ne = refl
    go Off c ne = refl

pub plan_elsewhere : PlanElsewhere
unfolding PlanElsewhere plan store_plan window_for
plan_elsewhere board block offset bytes ne =
    ap (λ (short : Bool). store_by (window_for short offset (length bytes)) board block offset bytes) (not_short (phase_of board) (lookup block (table_of board)) ne)

pub short_stores : ShortStores
unfolding ShortStores
short_stores = short_list

pub eight_elsewhere : EightElsewhere
unfolding EightElsewhere
eight_elsewhere p board block offset bytes = eight_list board block offset bytes p

pub same_bytes : SameBytes
unfolding SameBytes
same_bytes p board block offset bytes e = same_bytes_at board block offset bytes p e
