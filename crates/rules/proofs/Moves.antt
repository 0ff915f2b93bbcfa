-- Demand 2's other sentences: FULL exactly for lack of room, states move by the tables, and what a cut format leaves.
use mathlib.Core.Path.{◌≡◌, refl, sym, ap, ◌∙◌, subst}
use mathlib.Core.Logic.{◌≢◌, ◌↔◌}
use mathlib.Core.Bool.{Bool, true, false, cond}
use mathlib.Core.List.{List, [], ◌∷◌}
use Prim.Native.Nat.{ℕ, zero, suc, ◌<◌}
use native.Mathlib.Omega.{arith}
use native.Mathlib.Nat.{suc-ne-zero}
use lib.Dec.{eqb, leb}
use lib.ListN.{length, get_or, set, take}
use borrow.Author.Tests.{eqb-true, leb-false}
use Rattle.std.specs.Prelude.{Option, Some, None}
use Rattle.words.specs.Words.{word, Store, lay, number}
use Rattle.words.proofs.All.{All}
use Rattle.rules.specs.declared.Geometry.{Geometry}
use Rattle.rules.specs.declared.Backup.{Backup}
use Rattle.rules.specs.declared.State.{State}
use Rattle.rules.specs.declared.Entry.{Entry}
use Rattle.rules.specs.declared.Place.{Place}
use Rattle.rules.specs.declared.Place.TheVariants.{Home, Checkpoint, Cache}
use Rattle.rules.specs.declared.Window.{Window}
use Rattle.rules.specs.declared.Number.{Number}
use Rattle.rules.specs.declared.Number.TheVariants as No
use Rattle.rules.specs.Geometry.{mark_start}
use Rattle.rules.specs.TableWords.{word_of, free, says, lookup, lowest_free}
use Rattle.rules.specs.Board.{Board, Volatile, sizes, phase_of, cache_of, table_of}
use Rattle.rules.specs.Numbers.{number_of, Check, ◌⇒◌, first_of, outside, inexact, common_checks, out_of_range}
use Rattle.rules.specs.Power.{Plan, refuse, carry, guard, Outcome, whole, cut, settle}
use Rattle.rules.specs.Loads.{Spot, spot_in, block_in, visible, seen, load_number, load_plan, peek_number, peek_plan}
use Rattle.rules.specs.Stores.{replaced, Move, to, not_well_formed, stores, move_in, slot_for, full, store_number, is_short, window_for, lay_at, moved, moved_to, store_by, store_plan}
use Rattle.rules.specs.Checkpoints.{begin_number, begin_plan, step_number, step_plan}
use Rattle.rules.specs.Sweeps.{sweep_number, sweep_plan}
use Rattle.rules.specs.Starts.{format_list, format_number, format_plan, finished_in, recover_number, recover_from, recover_plan}
use Rattle.rules.specs.Calls.{Call, load, peek, store, begin, step, format, recover, sweep, plan, call}
use Rattle.rules.specs.Promises.{NoEntry, NoneFree, FullExactly, StoreLeaves, RecoveryLeaves, Leaves, StatesMove, CutFormat}
use Rattle.rules.proofs.Clashes.{none_slot, or_false}
use Rattle.rules.proofs.TableWordLaws.{says_word, says_zero, names_word, free_word}
use Rattle.rules.proofs.Finding.{Finds, finds, found_at, found_lt, not_found}
use Rattle.rules.proofs.Changing.{all_get}
use Rattle.rules.proofs.FreeSlot.{VacantAt, vacant, vacant_at, vacant_lt}
use Rattle.rules.proofs.Checked.{passed, sizes_passed, Common, common_passed, Lent, exact_lent, InRange, in_range}
use Rattle.rules.proofs.LaidAt.{found_taken, memory_with, cache_with, stores_at, laid_at, Whole, Room, spot_laid, row_whole}
use Rattle.rules.proofs.KeepsStore.{replaced-length, seen-length}
use Rattle.rules.proofs.KeepsRest.{cut_mark}
use Rattle.rules.proofs.Answers.{guard_accepted, carry_accepted, carry_nothing}

-- ---- FULL

-- the checks 1 to 6 passed, the number of a store is that of the check for room
pub store_room : (board : Board) (block offset : ℕ) (bytes : List ℕ) → number_of (load_number board block offset (length bytes)) ≡ 0
    → store_number board block offset bytes ≡ cond (full (slot_for (lookup block (table_of board)) (lowest_free (table_of board)))) No.Full No.Done
unfolding load_number store_number common_checks first_of number_of
store_room board block offset bytes e =
    let a = common_passed board false ((out_of_range board block offset (length bytes) ⇒ No.Range) ∷ []) e in
    let f = a.0 in
    let r = (passed (out_of_range board block offset (length bytes)) No.Range [] (suc-ne-zero 5) a.1).0 in
    rw (f.fine, f.exact, f.count, f.awake, f.formed, r)

carried_not_full : (p : ℕ) (board : Board) (ws : List Store) (after : Volatile) (gives : List ℕ) → number_of (settle p board (carry ws after gives)).number ≢ 7
unfolding settle number_of
carried_not_full p board ws after gives = go (leb (length ws) p)
  where
    go : (t : Bool) → number_of (cond t (whole board ws after gives) (cut p board ws after)).number ≢ 7
    go true e = omega arith
    go false e = omega arith

laid_not_full : (p : ℕ) (board : Board) (table fresh : List ℕ) (window : Window) (s : Spot) → number_of (settle p board (lay_at board table fresh window s)).number ≢ 7
laid_not_full p board table fresh window s e =
    carried_not_full p board _ _ [] (ap (λ (q : Plan). number_of (settle p board q).number) (sym (laid_at board table fresh window s)) ∙ e)

moved_not_full : (p : ℕ) (board : Board) (block slot : ℕ) (fresh : List ℕ) (window : Window) (move : Move)
    → number_of (settle p board (moved board block slot fresh window move)).number ≢ 7
unfolding moved settle number_of
moved_not_full p board block slot fresh window not_well_formed e = let h : ◌≡◌ {A = ℕ} 5 7 = e in omega arith
moved_not_full p board block slot fresh window (to place state) e =
    laid_not_full p board (set (table_of board) slot (word_of block state)) fresh window (spot_in (sizes board) block slot place) e

pub full_exactly : FullExactly
unfolding FullExactly NoEntry NoneFree call plan store_plan store_by guard moved_to slot_for full settle number_of
full_exactly p board block offset bytes e =
    rw (store_room board block offset bytes e) (go (lookup block table) (finds block table) (lowest_free table) (vacant table))
  where
    table : List ℕ
    table = table_of board

    fresh : List ℕ
    fresh = replaced (seen board block) offset bytes

    move : Move
    move = move_in (phase_of board) (stores (lookup block table))

    window : Window
    window = window_for (is_short (phase_of board) (lookup block table)) offset (length bytes)

    answer : Option Entry → Option ℕ → ℕ
    answer r z = number_of (settle p board (guard (cond (full (slot_for r z)) No.Full No.Done) (moved_to board block (slot_for r z) fresh window move))).number

    no_entry : Finds block table None → NoEntry block table
    no_entry f slot state lt q = (not_found slot f).never state (ap says q ∙ says_word block state)

    none_free : All (λ w. says w ≢ free) table → NoneFree table
    none_free a slot lt q = all_get slot a lt (ap says q ∙ says_zero)

    go : (r : Option Entry) → Finds block table r → (z : Option ℕ) → VacantAt table z → (answer r z ≡ 7) ↔ (NoEntry block table × NoneFree table)
    go None f None v = (λ h. (no_entry f, none_free v), λ h. refl)
    go None f (Some slot) v =
        (λ h. absurd (moved_not_full p board block slot fresh window move h), λ h. absurd (h.1 slot (vacant_lt v) (free_word (get_or table slot 0) (vacant_at v))))
    go (Some entry) f z v =
        (λ h. absurd (moved_not_full p board block entry.slot fresh window move h), λ h. absurd (h.0 entry.slot entry.state (found_lt f) (names_word (get_or table entry.slot 0) block entry.state (found_at f))))

-- ---- states move by the tables

-- a call that isn't accepted leaves the table as at entry
unaccepted : (p : ℕ) (board : Board) (q : Plan) → number_of (settle p board q).number ≢ 0 → table_of (settle p board q).board ≡ table_of board
unfolding settle number_of
unaccepted p board (refuse n) ne = refl
unaccepted p board (carry ws after gives) ne = go (leb (length ws) p) ne
  where
    out : Bool → Outcome
    out t = cond t (whole board ws after gives) (cut p board ws after)

    go : (t : Bool) → number_of (out t).number ≢ 0 → table_of (out t).board ≡ table_of board
    go true ne = absurd (ne refl)
    go false ne = refl

-- an accepted plan behind its checks, as its whole outcome
pub accepted_whole : (p : ℕ) (board : Board) (n : Number) (ws : List Store) (after : Volatile) (gives : List ℕ)
    → number_of (settle p board (guard n (carry ws after gives))).number ≡ 0
    → (number_of n ≡ 0) × (settle p board (guard n (carry ws after gives)) ≡ whole board ws after gives)
accepted_whole p board n ws after gives e =
    let a = guard_accepted p board n (carry ws after gives) e in
    (a.0, a.1 ∙ carry_accepted p board ws after gives (ap (λ (z : Outcome). number_of z.number) (sym a.1) ∙ e))

module _ (board : Board) (block offset : ℕ) (bytes : List ℕ) where
  abbrev fresh : List ℕ
  fresh = replaced (seen board block) offset bytes

  abbrev window : Window
  window = window_for (is_short (phase_of board) (lookup block (table_of board))) offset (length bytes)

  abbrev taken : Option ℕ
  taken = slot_for (lookup block (table_of board)) (lowest_free (table_of board))

  abbrev row : Move
  row = move_in (phase_of board) (stores (lookup block (table_of board)))

  abbrev spot : ℕ → Place → Spot
  spot slot place = spot_in (sizes board) block slot place

  -- the board with the new block at its place and the entry after it
  abbrev pub stored_at : ℕ → Place → State → Board
  stored_at slot place state = record {
    memory = memory_with board.memory fresh (spot slot place);
    volatile = record {
      cache = cache_with (cache_of board) fresh (spot slot place);
      table = set (table_of board) slot (word_of block state);
      controller = board.volatile.controller;
    };
  }

  -- what an accepted store leaves
  pub record Stored (after : Board) : Type 0 where
    pub slot : ℕ
    pub place : Place
    pub state : State
    pub moves : row ≡ to place state
    pub takes : taken ≡ Some slot
    pub eight : length fresh ≡ 64
    pub room : Room board.memory (cache_of board) (spot slot place)
    pub checked : number_of (store_number board block offset bytes) ≡ 0
    pub leaves : after ≡ stored_at slot place state

  -- a block laid by words that leave it whole
  pub laid_board : (p slot : ℕ) (place : Place) (state : State) (w : Window) → Whole board.memory fresh w (spot slot place)
      → number_of (settle p board (moved board block slot fresh w (to place state))).number ≡ 0
      → (settle p board (moved board block slot fresh w (to place state))).board ≡ stored_at slot place state
  unfolding moved Whole
  laid_board p slot place state w whole h =
      let s : Spot = spot slot place in
      let table : List ℕ = set (table_of board) slot (word_of block state) in
      let after : Volatile = record { cache = cache_with (cache_of board) fresh s; table = table; controller = board.volatile.controller } in
      let q = laid_at board table fresh w s in
      let o = ap (settle p board) q ∙ carry_accepted p board (stores_at fresh w s) after [] (ap (λ (z : Plan). number_of (settle p board z).number) (sym q) ∙ h) in
      ap (λ (z : Outcome). z.board) o ∙ ap (λ (m : List ℕ). record { memory = m; volatile = after }) whole

  store_room_at : Lent (sizes board) board → block < (sizes board).blocks → (slot : ℕ) → slot < (sizes board).slots → (place : Place)
      → Room board.memory (cache_of board) (spot slot place)
  unfolding spot_in Room
  store_room_at l lt slot ls Home = omega (arith, l.memory)
  store_room_at l lt slot ls Checkpoint = omega (arith, l.memory)
  store_room_at l lt slot ls Cache = omega (arith, l.cache)

  slot_lt : (table : List ℕ) (r : Option Entry) → Finds block table r → (z : Option ℕ) → VacantAt table z → (slot : ℕ) → slot_for r z ≡ Some slot → slot < length table
  unfolding slot_for
  slot_lt table (Some entry) f z v slot e = let q : entry.slot ≡ slot = cc in subst (λ (n : ℕ). n < length table) q (found_lt f)
  slot_lt table None f None v slot e = absurd (none_slot slot e)
  slot_lt table None f (Some i) v slot e = let q : i ≡ slot = cc in subst (λ (n : ℕ). n < length table) q (vacant_lt v)

  moved_stored : (p : ℕ) → number_of (store_number board block offset bytes) ≡ 0 → Lent (sizes board) board → InRange board block offset (length bytes)
      → (z : Option ℕ) → taken ≡ z → (move : Move) → row ≡ move
      → number_of (settle p board (moved_to board block z fresh window move)).number ≡ 0
      → Stored (settle p board (moved_to board block z fresh window move)).board
  unfolding moved_to moved settle number_of seen visible
  moved_stored p n l r None q move m h = absurd (suc-ne-zero 6 h)
  moved_stored p n l r (Some slot) q not_well_formed m h = absurd (suc-ne-zero 4 h)
  moved_stored p n l r (Some slot) q (to place state) m h =
      let table : List ℕ = table_of board in
      let found : Option Entry = lookup block table in
      let ls : slot < (sizes board).slots =
      subst (λ (k : ℕ). slot < k) l.table (slot_lt table found (finds block table) (lowest_free table) (vacant table) slot q)
      in
      let room = store_room_at l r.below slot ls place in
      let whole =
      row_whole (sizes board) board.memory (cache_of board) block offset bytes (phase_of board) found slot place state m
      (found_taken found (lowest_free table) slot q) room r.fits
      in
      record {
        slot = slot;
        place = place;
        state = state;
        moves = m;
        takes = q;
        eight = replaced-length (seen board block) offset bytes (seen-length board l block r.below) r.fits;
        room = room;
        checked = n;
        leaves = laid_board p slot place state window whole h;
      }

  -- the checks that an accepted store has passed; the last says that there is room
  pub store_checked : number_of (store_number board block offset bytes) ≡ 0
      → Common board false × Lent (sizes board) board × InRange board block offset (length bytes) × (full taken ≡ false)
  unfolding store_number number_of
  store_checked e =
      let last : List Check = (full taken ⇒ No.Full) ∷ [] in
      let c = common_passed board false ((out_of_range board block offset (length bytes) ⇒ No.Range) ∷ last) e in
      let r = passed (out_of_range board block offset (length bytes)) No.Range last (suc-ne-zero 5) c.1 in (
        c.0,
        exact_lent (sizes board) board (or_false (inexact (sizes board) board) false c.0.exact).0,
        in_range board block offset (length bytes) r.0,
        (passed (full taken) No.Full [] (suc-ne-zero 6) r.1).0,
      )

  pub store_stored : (p : ℕ) → number_of (call p board (store block offset bytes)).number ≡ 0 → Stored (call p board (store block offset bytes)).board
  unfolding call plan store_plan store_by
  store_stored p e =
      let a = guard_accepted p board (store_number board block offset bytes) (moved_to board block taken fresh window row) e in
      let c = store_checked a.0 in
      subst (λ (o : Outcome). Stored o.board) (sym a.1)
      (moved_stored p a.0 c.1 c.2 taken refl row refl (ap (λ (o : Outcome). number_of o.number) (sym a.1) ∙ e))

  store_leaves : (p : ℕ) → number_of (call p board (store block offset bytes)).number ≡ 0
      → StoreLeaves board block offset bytes (call p board (store block offset bytes)).board
  store_leaves p e =
      let s = store_stored p e in
      record {
        slot = s.slot;
        place = s.place;
        state = s.state;
        row = s.moves;
        taken = s.takes;
        table = ap table_of s.leaves;
        new = ap (λ (z : Board). block_in z.memory (cache_of z) (spot s.slot s.place)) s.leaves
            ∙ spot_laid board.memory (cache_of board) fresh (spot s.slot s.place) s.eight s.room;
      }

recovery_leaves : (p : ℕ) (board : Board) (g : Geometry) → number_of (call p board (recover g)).number ≡ 0 → RecoveryLeaves board g (call p board (recover g)).board
unfolding call plan recover_plan
recovery_leaves p board g e =
    let finished = finished_in g board.memory in
    let a = guard_accepted p board (recover_number board g finished) (recover_from board g finished) e in
    subst (λ (o : Outcome). RecoveryLeaves board g o.board) (sym a.1) (go finished refl (ap (λ (o : Outcome). number_of o.number) (sym a.1) ∙ e))
  where
    go : (o : Option Backup) → finished_in g board.memory ≡ o → number_of (settle p board (recover_from board g o)).number ≡ 0
        → RecoveryLeaves board g (settle p board (recover_from board g o)).board
    go None q h = absurd (suc-ne-zero 9 h)
    go (Some backup) q h =
        subst (λ (o : Outcome). RecoveryLeaves board g o.board) (sym (carry_nothing p board _ _))
        (record { backup = backup; named = q; table = refl; registers = refl; memory = refl })

pub states_move : StatesMove
unfolding StatesMove Leaves call plan load_plan peek_plan begin_plan step_plan format_plan sweep_plan
states_move p board c = (accepted c, λ ne. refused_table c ne)
  where
    refused_table : (c : Call) → number_of (call p board c).number ≢ 0 → table_of (call p board c).board ≡ table_of board
    refused_table c ne = unaccepted p board (plan board c) ne

    whole_table : (n : Number) (ws : List Store) (after : Volatile) (gives : List ℕ) → number_of (settle p board (guard n (carry ws after gives))).number ≡ 0
        → table_of (settle p board (guard n (carry ws after gives))).board ≡ after.table
    whole_table n ws after gives e = ap (λ (o : Outcome). table_of o.board) (accepted_whole p board n ws after gives e).1

    accepted : (c : Call) → number_of (call p board c).number ≡ 0 → Leaves board c (call p board c).board
    accepted (load block offset len) e = whole_table (load_number board block offset len) _ _ _ e
    accepted (peek block) e = whole_table (peek_number board block) _ _ _ e
    accepted (store block offset bytes) e = store_leaves board block offset bytes p e
    accepted (begin registers) e = whole_table (begin_number board registers) _ _ _ e
    accepted (step n) e = whole_table (step_number board) _ _ _ e
    accepted (format g fill) e = whole_table (format_number board g) _ _ _ e
    accepted (recover g) e = recovery_leaves p board g e
    accepted (sweep limit) e = whole_table (sweep_number board) _ _ _ e

-- ---- a format that is cut

format_refusal : (board : Board) (g : Geometry) → number_of (format_number board g) ≢ 20
unfolding format_number first_of number_of
format_refusal board g = go (outside g) (inexact g board)
  where
    go : (a b : Bool) → number_of (first_of ((a ⇒ No.Geometry) ∷ (b ⇒ No.Buffer) ∷ [])) ≢ 20
    go true b e = let h : ◌≡◌ {A = ℕ} 1 20 = e in omega arith
    go false true e = let h : ◌≡◌ {A = ℕ} 2 20 = e in omega arith
    go false false e = let h : ◌≡◌ {A = ℕ} 0 20 = e in omega arith

-- a cut plan passed its checks, and stored fewer words than its list has
cut_passed : (p : ℕ) (board : Board) (n : Number) (ws : List Store) (after : Volatile) (gives : List ℕ) → number_of n ≢ 20
    → number_of (settle p board (guard n (carry ws after gives))).number ≡ 20
    → (number_of n ≡ 0) × (p < length ws) × ((settle p board (guard n (carry ws after gives))).board.memory ≡ lay (take p ws) board.memory)
unfolding settle guard number_of
cut_passed p board n ws after gives ne = go (eqb (number_of n) 0) refl
  where
    out : Bool → Outcome
    out t = cond t (whole board ws after gives) (cut p board ws after)

    carried : number_of n ≡ 0 → (t : Bool) → leb (length ws) p ≡ t → number_of (out t).number ≡ 20
        → (number_of n ≡ 0) × (p < length ws) × ((out t).board.memory ≡ lay (take p ws) board.memory)
    carried z true q e = let h : ◌≡◌ {A = ℕ} 0 20 = e in absurd (omega arith)
    carried z false q e = (z, leb-false (length ws) p q, refl)

    go : (t : Bool) → eqb (number_of n) 0 ≡ t → number_of (settle p board (cond t (carry ws after gives) (refuse n))).number ≡ 20
        → (number_of n ≡ 0) × (p < length ws) × ((settle p board (cond t (carry ws after gives) (refuse n))).board.memory ≡ lay (take p ws) board.memory)
    go true q e = carried (eqb-true (number_of n) 0 q) (leb (length ws) p) refl e
    go false q e = absurd (ne e)

pub cut_format : CutFormat
unfolding CutFormat call plan format_plan format_number
cut_format p board g fill e =
    let c = cut_passed p board (format_number board g) (format_list g fill) _ [] (format_refusal board g) e in
    let l = (sizes_passed board g [] c.0).1 in
    (λ z. c.2 ∙ ap (λ (n : ℕ). lay (take n (format_list g fill)) board.memory) z, λ ne. rw c.2 (later p ne c.1 l))
  where
    later : (p : ℕ) → p ≢ 0 → p < length (format_list g fill) → Lent g board → number (word (lay (take p (format_list g fill)) board.memory) (mark_start g)) ≡ 0
    later zero ne h l = absurd (ne refl)
    later (suc p) ne h l = cut_mark g fill board.memory l.memory p h
