-- No load changes by a sweep: entry by entry it is a store of unchanged bytes, after which every block shows what it showed.
use mathlib.Core.Path.{◌≡◌, refl, sym, ap, ◌∙◌, subst}
use mathlib.Core.Bool.{Bool, true, false, cond, not}
use mathlib.Core.List.{List, [], ◌∷◌, ◌++◌}
use Prim.Native.Nat.{ℕ, ◌*◌, ◌<◌}
use native.Mathlib.Omega.{arith}
use native.Mathlib.Nat.{suc-ne-zero}
use native.Mathlib.Decide.{ℕ_discrete}
use lib.Dec.{eqb}
use lib.ListN.{take, drop, length-set}
use borrow.Author.Tests.{eqb-true, leb-false}
use Rattle.words.specs.Words.{block_at, Store, lay, bytes_to}
use Rattle.words.proofs.Lists.{lay-length}
use Rattle.rules.specs.declared.Geometry.{Geometry}
use Rattle.rules.specs.declared.Phase.{Phase}
use Rattle.rules.specs.declared.Phase.TheVariants.{Running}
use Rattle.rules.specs.declared.State.TheVariants.{Clean, Hidden}
use Rattle.rules.specs.declared.Number.{Number}
use Rattle.rules.specs.declared.Number.TheVariants as No
use Rattle.rules.specs.Geometry.{home_block, checkpoint_block}
use Rattle.rules.specs.TableWords.{entry_at, word_of, distinct, every}
use Rattle.rules.specs.Board.{Board, sizes, cache_of, table_of}
use Rattle.rules.specs.Numbers.{number_of, Check, ◌⇒◌, first_of, allows, well_formed, malformed, common_checks, no_block, out_of_range}
use Rattle.rules.specs.Power.{Plan, refuse, carry, guard, Outcome, whole, settle, stored}
use Rattle.rules.specs.Loads.{spot_in, seen, load_number, load_plan, peek_number, peek_plan}
use Rattle.rules.specs.Sweeps.{CleanEntry, lowest_clean, home_copies, hidden, sweep_number, sweep_plan}
use Rattle.rules.specs.Calls.{load, peek, store, sweep, plan, call}
use Rattle.rules.specs.PlainMachine.{update}
use Rattle.rules.specs.SweepPromises.{SameAnswer, SameLoads, NoLoadChanges, StoredAgain, no_more, and_store, AsStores}
use Rattle.rules.proofs.Finding.{Finds}
use Rattle.rules.proofs.Apart.{Apart, apart_finds, distinct_apart}
use Rattle.rules.proofs.Changing.{all_every}
use Rattle.rules.proofs.Checked.{passed, common_passed, past_common, Lent, lent_exact, in_range}
use Rattle.rules.proofs.LaidAt.{memory_with, cache_with, Room}
use Rattle.rules.proofs.Invariant.{Live}
use Rattle.rules.proofs.KeepsStore.{old, live_stored}
use Rattle.rules.proofs.Sweeping.{Waiting, and_above, waiting_set, lowest_waiting, Open, sweep_open, open_lent, open_formed, swept_block, swept_once, swept_all, update_itself, shown, copy_whole, home_room, copy_laid, as_store, reads_on, first_then}
use Rattle.rules.proofs.Answers.{stored_accepted, carry_nothing, refused}
use Rattle.rules.proofs.Moves.{accepted_whole}

-- ---- one entry

module _ (board : Board) (o : Open board) (apart : Apart (table_of board)) (slot block : ℕ)
    (found : Finds block (table_of board) (entry_at slot Clean)) (below : block < (sizes board).blocks) where
  abbrev g : Geometry
  g = sizes board

  abbrev next : Board
  next = swept_once board slot block

  abbrev copy : List ℕ
  copy = block_at board.memory (checkpoint_block g slot)

  -- what is known of stores, with the blocks that show for the live ones
  after_store : Live g (allows Running) next.memory (cache_of next) (table_of next) (update (seen board) block copy)
  unfolding seen allows memory_with cache_with spot_in Room
  after_store =
      live_stored g (allows Running) board.memory (cache_of board) (table_of board) (seen board) block slot Hidden copy
      (record { formed = open_formed o; apart = apart; shows = λ k h. refl }) (old found) below refl (copy_whole board o slot block found below) (home_room board o slot block found below)

  still_shown : (k : ℕ) → k < g.blocks → seen next k ≡ seen board k
  unfolding seen
  still_shown k h = after_store.shows k h ∙ update_itself (seen board) block copy (sym (shown board o slot block found below)) k

  still_lent : Lent g next
  still_lent = record {
    memory = lay-length _ board.memory (copy_laid board o slot block found below).fits ∙ (open_lent o).memory;
    cache = (open_lent o).cache;
    table = length-set (table_of board) slot (word_of block Hidden) ∙ (open_lent o).table;
  }

  still_open : Open next
  unfolding malformed
  still_open = record {
    common = record {
      fine = o.common.fine;
      exact = rw (lent_exact g next still_lent);
      count = o.common.count;
      awake = o.common.awake;
      formed = subst (λ (phase : Phase). not (every (well_formed (allows phase) g) (table_of next)) ≡ false) (sym o.running)
          (ap not (all_every (well_formed (allows Running) g) (table_of next) after_store.formed));
    };
    running = o.running;
  }

  -- the store of its own bytes is accepted, with 8 words
  stored_again_lem : call 8 board (store block 0 (seen board block)) ≡ whole board (bytes_to (8 * home_block g block) 8 copy) next.volatile []
  unfolding call plan settle bytes_to
  stored_again_lem = ap (settle 8 board) (as_store board o slot block found below)

-- ---- the entries one after the other

record Unchanged (board : Board) (entries : List CleanEntry) (after : Board) : Type 0 where
  pub opened : Open after
  pub same : (k : ℕ) → k < (sizes board).blocks → seen after k ≡ seen board k
  pub again : StoredAgain board entries (home_copies (sizes board) board.memory entries) after

unchanged : (entries : List CleanEntry) (board : Board) → Open board → Apart (table_of board) → {low : ℕ} → Waiting (table_of board) low entries
    → Unchanged board entries (swept_all board entries)
unfolding home_copies hidden lay number_of stored plan bytes_to
unchanged [] board o apart w = record { opened = o; same = λ k h. refl; again = no_more }
unchanged (entry ∷ entries) board o apart (and_above a b c w) =
    let slot = entry.slot in
    let block = entry.block in
    let below = swept_block o slot block b c in
    let found = apart_finds block slot Clean apart b c in
    let next = swept_once board slot block in
    let stored-once = stored_again_lem board o apart slot block found below in
    let later =
    unchanged entries next (still_open board o apart slot block found below) (after_store board o apart slot block found below).apart
    (waiting_set slot (word_of block Hidden) (omega arith) w)
    in
    subst (Unchanged board (entry ∷ entries)) (first_then board o slot block found below entries) (record {
      opened = later.opened;
      same = λ k h. later.same k h ∙ still_shown board o apart slot block found below k h;
      again =
          subst (λ (words : List Store). StoredAgain board (entry ∷ entries) words (swept_all next entries))
          (ap (λ (q : Plan). stored 8 q ++ home_copies (sizes board) next.memory entries) (as_store board o slot block found below)
          ∙ ap (λ (words : List Store). bytes_to (8 * home_block (sizes board) block) 8 (block_at board.memory (checkpoint_block (sizes board) slot)) ++ words) (reads_on board o slot block found below entries))
          (and_store (ap (λ (out : Outcome). number_of out.number) stored-once) (ap (λ (out : Outcome). out.words) stored-once)
          (subst (λ (then : Board). StoredAgain then entries (home_copies (sizes board) next.memory entries) (swept_all next entries)) (sym (ap (λ (out : Outcome). out.board) stored-once)) later.again));
    })

-- ---- boards that show the same blocks

-- what is handed out behind the same number is the same
same_given : (p : ℕ) (board after : Board) (n : Number) (bytes bytes' : List ℕ) → (number_of n ≡ 0 → bytes' ≡ bytes)
    → SameAnswer (settle p after (guard n (carry [] after.volatile bytes'))) (settle p board (guard n (carry [] board.volatile bytes)))
unfolding guard settle
same_given p board after n bytes bytes' same = go (eqb (number_of n) 0) refl
  where
    go : (t : Bool) → eqb (number_of n) 0 ≡ t
        → SameAnswer (settle p after (cond t (carry [] after.volatile bytes') (refuse n))) (settle p board (cond t (carry [] board.volatile bytes) (refuse n)))
    go true e = rw (carry_nothing p after after.volatile bytes', carry_nothing p board board.volatile bytes) (record { number = refl; words = refl; gives = same (eqb-true (number_of n) 0 e) })
    go false e = record { number = refl; words = refl; gives = refl }

module _ (board : Board) (entries : List CleanEntry) (o : Open board) (u : Unchanged board entries (swept_all board entries)) where
  abbrev after : Board
  after = swept_all board entries

  same_number : (checks : List Check) → first_of (common_checks after false ++ checks) ≡ first_of (common_checks board false ++ checks)
  same_number checks = past_common u.opened.common checks ∙ sym (past_common o.common checks)

  same_loads : SameLoads board after
  unfolding call plan load_plan load_number peek_plan peek_number out_of_range no_block number_of
  same_loads = record { loads = loads; peeks = peeks }
    where
      loads : (p block offset len : ℕ) → SameAnswer (call p after (load block offset len)) (call p board (load block offset len))
      loads p block offset len =
          let range : List Check = (out_of_range board block offset len ⇒ No.Range) ∷ [] in
          rw (same_number range)
          (same_given p board after (load_number board block offset len) (take len (drop offset (seen board block))) (take len (drop offset (seen after block)))
          (λ e. let r = (passed (out_of_range board block offset len) No.Range [] (suc-ne-zero 5) (common_passed board false range e).1).0 in
          ap (λ (z : List ℕ). take len (drop offset z)) (u.same block (in_range board block offset len r).below)))

      peeks : (p block : ℕ) → SameAnswer (call p after (peek block)) (call p board (peek block))
      peeks p block =
          let range : List Check = (no_block board block ⇒ No.Range) ∷ [] in
          rw (same_number range)
          (same_given p board after (peek_number board block) (seen board block) (seen after block)
          (λ e. u.same block (leb-false (sizes board).blocks block (passed (no_block board block) No.Range [] (suc-ne-zero 5) (common_passed board false range e).1).0)))

-- ---- the call

-- an accepted sweep
record SweptBoard (p limit : ℕ) (board : Board) : Type 0 where
  pub opened : Open board
  pub leaves : (call p board (sweep limit)).board ≡ swept_all board (lowest_clean limit (table_of board))
  pub list : stored p (plan board (sweep limit)) ≡ home_copies (sizes board) board.memory (lowest_clean limit (table_of board))
  pub unchanged : Unchanged board (lowest_clean limit (table_of board)) (swept_all board (lowest_clean limit (table_of board)))

accepted : (p limit : ℕ) (board : Board) → distinct (table_of board) ≡ true → number_of (call p board (sweep limit)).number ≡ 0 → SweptBoard p limit board
unfolding call plan sweep_plan
accepted p limit board d e =
    let entries = lowest_clean limit (table_of board) in
    let a = accepted_whole p board (sweep_number board) (home_copies (sizes board) board.memory entries) (swept_all board entries).volatile [] e in
    let o = sweep_open board a.0 in
    record { opened = o; leaves = ap (λ (out : Outcome). out.board) a.1; list = stored_accepted p board (sweep_number board) _ _ [] e; unchanged = unchanged entries board o (distinct_apart (table_of board) d) (lowest_waiting limit (table_of board)) }

pub no_load_changes : NoLoadChanges
unfolding NoLoadChanges
no_load_changes p limit board d ne = go (ℕ_discrete (number_of (call p board (sweep limit)).number) 0)
  where
    itself : SameLoads board board
    itself = record {
      loads = λ p block offset len. record { number = refl; words = refl; gives = refl };
      peeks = λ p block. record { number = refl; words = refl; gives = refl };
    }

    go : Dec (number_of (call p board (sweep limit)).number ≡ 0) → SameLoads board (call p board (sweep limit)).board
    go (yes e) =
        let s = accepted p limit board d e in subst (SameLoads board) (sym s.leaves) (same_loads board (lowest_clean limit (table_of board)) s.opened s.unchanged)
    go (no nz) = subst (SameLoads board) (sym (refused p board (sweep limit) nz ne).same) itself

pub as_stores : AsStores
unfolding AsStores
as_stores p limit board d e =
    let entries = lowest_clean limit (table_of board) in
    let s = accepted p limit board d e in
    subst (λ (words : List Store). StoredAgain board entries words (call p board (sweep limit)).board) (sym s.list)
    (subst (StoredAgain board entries (home_copies (sizes board) board.memory entries)) (sym s.leaves) s.unchanged.again)
