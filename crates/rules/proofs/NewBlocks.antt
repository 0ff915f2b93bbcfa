-- After sweep, begin and finish a board takes a new block.
use mathlib.Core.Path.{◌≡◌, refl, sym, ap, ◌∙◌, subst}
use mathlib.Core.Logic.{◌≢◌}
use mathlib.Core.Bool.{Bool, true, false, cond}
use mathlib.Core.List.{List, [], ◌∷◌}
use Rattle.std.specs.Prelude.{None}
use Prim.Native.Nat.{ℕ, suc, ◌+◌, ◌≤◌, ◌<◌}
use native.Mathlib.Omega.{arith}
use native.Mathlib.Nat.{not-suc-le-zero}
use lib.Dec.{eqb}
use lib.ListN.{length, get_or, take}
use Rattle.words.specs.Words.{Store}
use Rattle.rules.specs.declared.Phase.TheVariants.{Running, Writing}
use Rattle.rules.specs.declared.State.TheVariants.{Clean, Hidden}
use Rattle.rules.specs.declared.Number.{Number}
use Rattle.rules.specs.TableWords.{word_of, Says, says}
use Rattle.rules.specs.Board.{Board, Volatile, sizes, phase_of, table_of}
use Rattle.rules.specs.Numbers.{number_of, is_off}
use Rattle.rules.specs.Power.{carry, guard, Outcome, settle}
use Rattle.rules.specs.Loads.{load_number, load_plan, peek_number, peek_plan}
use Rattle.rules.specs.Checkpoints.{count_of, step_number, next_words, step_plan}
use Rattle.rules.specs.Sweeps.{sweep_number, sweep_plan}
use Rattle.rules.specs.Calls.{Call, load, peek, store, begin, step, sweep, plan, call}
use Rattle.rules.specs.PlainMachine.{Plain}
use Rattle.rules.specs.Runs.{runs, NoFormat, a_begin}
use Rattle.rules.specs.Runs as R
use Rattle.rules.specs.Promises.{Leaves, StatesMove}
use Rattle.rules.specs.SweepPromises.{one_if_clean, clean_in, SweptSlots, Asked, AllDone, no_more, and_call, Between, a_load, a_peek, a_step, a_sweep, AllBetween, and_then, TakenAgain, RoomAgain, asks}
use Rattle.rules.proofs.TableWordLaws.{names_word, word_nonzero}
use Rattle.rules.proofs.Invariant.{Inv, settled}
use Rattle.rules.proofs.LiveShown.{in_range_false, load_done}
use Rattle.rules.proofs.Demand3.{call_keeps}
use Rattle.rules.proofs.Demand2.{run_inv}
use Rattle.rules.proofs.Moves.{accepted_whole, states_move}
use Rattle.rules.proofs.RoomForStore.{store_accepted}
use Rattle.rules.proofs.SweepMoves.{CleanOrNot, is_clean_entry, is_not, clean_or_not, swept_slots}
use Rattle.rules.proofs.RoomAgain.{swept_count, begin_count, begin_writing, taken_again}

-- ---- the lowest clean entry, which every sweep with a limit reaches

record Lowest (table : List ℕ) : Type 0 where
  slot : ℕ
  block : ℕ
  inside : slot < length table
  clean : get_or table slot 0 ≡ word_of block Clean
  first : clean_in (take slot table) ≡ 0

lowest : (table : List ℕ) → 1 ≤ clean_in table → Lowest table
unfolding clean_in one_if_clean
lowest [] h = absurd (not-suc-le-zero h)
lowest (word ∷ table) h = go (says word) refl (clean_or_not (says word)) (lowest table)
  where
    go : (x : Says) → says word ≡ x → CleanOrNot x → (1 ≤ clean_in table → Lowest table) → Lowest (word ∷ table)
    go x q (is_clean_entry block) above = record { slot = 0; block = block; inside = omega arith; clean = names_word word block Clean q; first = refl }
    go x q (is_not over) above =
        let uncounted : one_if_clean (says word) ≡ 0 = ap one_if_clean q ∙ over.uncounted in
        let l = above (omega (arith, uncounted, h)) in
        record { slot = suc l.slot; block = l.block; inside = omega (arith, l.inside); clean = l.clean; first = omega (arith, uncounted, l.first) }

-- ---- boards with room

-- a slot of the table is free
record Free (slot : ℕ) (table : List ℕ) : Type 0 where
  inside : slot < length table
  free : get_or table slot 0 ≡ 0

-- the board looks like some plain machine and isn't Off, so that it accepts every load in range, and a slot is free
record Ready (slot : ℕ) (board : Board) : Type 0 where
  plain : Plain
  inv : Inv board plain
  awake : is_off (phase_of board) ≡ false
  room : Free slot (table_of board)

-- every call but a format leaves a board that looks like some plain machine
call_inv : (p : ℕ) (board : Board) (plain : Plain) → Inv board plain → (c : Call) → NoFormat c → (later : Plain) × Inv (call p board c).board later
unfolding call
call_inv p board plain v c nf = (_, settled board plain c p (plan board c) (call_keeps board plain v c nf) v)

-- ---- the calls that finish keep the room

no_format : {c : Call} → Between c → NoFormat c
no_format a_load = R.a_load
no_format a_peek = R.a_peek
no_format a_step = R.a_step
no_format a_sweep = R.a_sweep

-- a sweep passes over a free slot, and the other calls leave the table
stays_free : (p slot : ℕ) (board : Board) (c : Call) → Between c → number_of (call p board c).number ≡ 0 → Free slot (table_of board) → Free slot (table_of (call p board c).board)
unfolding StatesMove Leaves SweptSlots
stays_free p slot board (load block offset len) a_load e f = subst (Free slot) (sym ((states_move p board (load block offset len)).0 e)) f
stays_free p slot board (peek block) a_peek e f = subst (Free slot) (sym ((states_move p board (peek block)).0 e)) f
stays_free p slot board (step n) a_step e f = subst (Free slot) (sym ((states_move p board (step n)).0 e)) f
stays_free p slot board (sweep limit) a_sweep e f = record {
  inside = subst (λ (n : ℕ). slot < n) (sym (swept_count p limit board e)) f.inside;
  free = (swept_slots p limit board slot e).other (λ block q. word_nonzero block Clean (sym q ∙ f.free)) ∙ f.free;
}
stays_free p slot board (store _ _ _) x6 e f = elim x6 [ ]
stays_free p slot board (begin _) x5 e f = elim x5 [ ]
stays_free p slot board (Rattle.rules.specs.Calls.format _ _) x7 e f = elim x7 [ ]
stays_free p slot board (Rattle.rules.specs.Calls.recover _) x7 e f = elim x7 [ ]

awake_after : (p : ℕ) (board : Board) (n : Number) (ws : List Store) (after : Volatile) (gives : List ℕ)
    → number_of (settle p board (guard n (carry ws after gives))).number ≡ 0
    → is_off after.controller.phase ≡ false
    → is_off (phase_of (settle p board (guard n (carry ws after gives))).board) ≡ false
awake_after p board n ws after gives e awake = ap (λ (o : Outcome). is_off (phase_of o.board)) (accepted_whole p board n ws after gives e).1 ∙ awake

-- a step ends in Writing or in Running, the other calls leave the phase
stays_awake : (p : ℕ) (board : Board) (c : Call) → Between c → number_of (call p board c).number ≡ 0 → is_off (phase_of board) ≡ false
    → is_off (phase_of (call p board c).board) ≡ false
unfolding call plan load_plan peek_plan step_plan sweep_plan
stays_awake p board (store _ _ _) x6 e awake = elim x6 [ ]
stays_awake p board (begin _) x5 e awake = elim x5 [ ]
stays_awake p board (Rattle.rules.specs.Calls.format _ _) x7 e awake = elim x7 [ ]
stays_awake p board (Rattle.rules.specs.Calls.recover _) x7 e awake = elim x7 [ ]
stays_awake p board (load block offset len) a_load e awake = awake_after p board (load_number board block offset len) _ _ _ e awake
stays_awake p board (peek block) a_peek e awake = awake_after p board (peek_number board block) _ _ _ e awake
stays_awake p board (sweep limit) a_sweep e awake = awake_after p board (sweep_number board) _ _ _ e awake
stays_awake p board (step n) a_step e awake = awake_after p board (step_number board) _ _ _ e (either (eqb count ((sizes board).slots + 9)))
  where
    count : ℕ
    count = count_of (phase_of board) + length (next_words board n)

    either : (marked : Bool) → is_off (cond marked Running (Writing count)) ≡ false
    either true = refl
    either false = refl

all_ready : (slot : ℕ) {board after : Board} (asked : List Asked) → AllBetween asked → AllDone board asked after → Ready slot board → Ready slot after
all_ready slot [] no_more no_more r = r
all_ready slot {board} (a ∷ asked) (and_then b bs) (and_call e d) r =
    let later = call_inv a.p board r.plain r.inv a.c (no_format b) in
    all_ready slot {board = (call a.p board a.c).board} asked bs d
    (record { plain = later.0; inv = later.1; awake = stays_awake a.p board a.c b e r.awake; room = stays_free a.p slot board a.c b e r.room })

-- ---- sweep and begin make the room

begun_ready : (board : Board) (plain : Plain) (p₁ p₂ limit : ℕ) (registers : List ℕ) → Inv board plain → 1 ≤ limit → (l : Lowest (table_of board))
    → number_of (call p₁ board (sweep limit)).number ≡ 0
    → let swept = (call p₁ board (sweep limit)).board in
    number_of (call p₂ swept (begin registers)).number ≡ 0
    → Ready l.slot (call p₂ swept (begin registers)).board
unfolding SweptSlots TakenAgain
begun_ready board plain p₁ p₂ limit registers v some_limit l e₁ e₂ =
    let swept = (call p₁ board (sweep limit)).board in
    let after-sweep = call_inv p₁ board plain v (sweep limit) R.a_sweep in
    let after-begin = call_inv p₂ swept after-sweep.0 after-sweep.1 (begin registers) a_begin in
    let hidden : get_or (table_of swept) l.slot 0 ≡ word_of l.block Hidden = (swept_slots p₁ limit board l.slot e₁).swept l.block l.clean (omega (arith, l.first)) in
    let inside : l.slot < length (table_of swept) = subst (λ (n : ℕ). l.slot < n) (sym (swept_count p₁ limit board e₁)) l.inside in
    record {
      plain = after-begin.0;
      inv = after-begin.1;
      awake = ap is_off (begin_writing p₂ swept registers e₂);
      room = record { inside = subst (λ (n : ℕ). l.slot < n) (sym (begin_count p₂ swept registers e₂)) inside; free = (taken_again p₂ 0 swept registers l.slot l.block inside hidden e₂).0 };
    }

-- ---- a board with room takes any block

ready_stores : (slot : ℕ) (board : Board) → Ready slot board → (q block offset : ℕ) (bytes : List ℕ) → block < (sizes board).blocks → offset ≤ 63 → length bytes ≢ 0
    → offset + length bytes ≤ 64 → 8 ≤ q → number_of (call q board (store block offset bytes)).number ≡ 0
unfolding number_of
ready_stores slot board r q block offset bytes below early some_bytes fits supply =
    let loads = load_done board r.plain r.inv r.awake block offset (length bytes) (in_range_false board block offset (length bytes) below early some_bytes fits) in
    store_accepted board slot r.room.inside r.room.free block offset bytes (ap number_of loads) q (λ idle. supply)

pub room_again : RoomAgain
unfolding RoomAgain
room_again after r = go r.done
  where
    start : Board
    start = (runs r.events (record { board = r.board; promise = None })).board

    l : Lowest (table_of start)
    l = lowest (table_of start) r.some_clean

    Stores : Type 0
    Stores = (q block offset : ℕ) (bytes : List ℕ) → block < (sizes after).blocks → offset ≤ 63 → length bytes ≢ 0 → offset + length bytes ≤ 64 → 8 ≤ q
        → number_of (call q after (store block offset bytes)).number ≡ 0

    go : AllDone start (asks r.p₁ (sweep r.limit) ∷ asks r.p₂ (begin r.registers) ∷ r.finish) after → Stores
    go (and_call e₁ (and_call e₂ run)) =
        ready_stores l.slot after
        (all_ready l.slot r.finish r.between run
        (begun_ready start r.plain r.p₁ r.p₂ r.limit r.registers (run_inv r.board r.events r.plain r.stands) r.some_limit l e₁ e₂))
