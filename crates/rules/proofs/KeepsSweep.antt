-- A sweep keeps the invariant: entry by entry it is a store of unchanged bytes.
use mathlib.Core.Path.{◌≡◌, refl, sym, ap, ◌∙◌, subst}
use mathlib.Core.Bool.{Bool, true, false}
use mathlib.Core.List.{List, [], ◌∷◌, ◌++◌, append-nil}
use Prim.Native.Nat.{ℕ, ◌*◌, ◌-◌, ◌≤◌, ◌<◌}
use native.Mathlib.Omega.{arith}
use native.Mathlib.Nat.{suc-ne-zero}
use lib.Dec.{leb}
use lib.ListN.{length, take, set, length-set}
use lib.Seq.{take_all}
use borrow.Author.Tests.{leb-true, leb-false}
use Rattle.words.specs.Words.{block_at, Store, lay, bytes_to}
use Rattle.words.proofs.All.{All, done, all_map, all_take, all_append}
use Rattle.words.proofs.Lists.{lay-append}
use Rattle.words.proofs.Laying.{take_both}
use Rattle.words.proofs.Rising.{Below}
use Rattle.words.proofs.Makers.{Laid}
use Rattle.rules.specs.declared.Geometry.{Geometry}
use Rattle.rules.specs.declared.Phase.{Phase}
use Rattle.rules.specs.declared.Phase.TheVariants.{Running}
use Rattle.rules.specs.declared.State.TheVariants.{Clean, Hidden}
use Rattle.rules.specs.Geometry.{home_block, checkpoint_block, mark_start}
use Rattle.rules.specs.TableWords.{entry_at, word_of}
use Rattle.rules.specs.Board.{Board, sizes, phase_of, cache_of, table_of}
use Rattle.rules.specs.Numbers.{is_off}
use Rattle.rules.specs.Power.{carry, switched_off}
use Rattle.rules.specs.Loads.{seen}
use Rattle.rules.specs.Sweeps.{CleanEntry, lowest_clean, home_copies, hidden, sweep_number, sweep_plan}
use Rattle.rules.specs.Calls.{store, sweep}
use Rattle.rules.specs.PlainMachine.{Plain, laid_over, overlaid, update, did, has_mark}
use Rattle.rules.proofs.Finding.{Finds}
use Rattle.rules.proofs.Apart.{apart_finds}
use Rattle.rules.proofs.Checked.{lent_exact}
use Rattle.rules.proofs.Invariant.{Mode, mode_running, mode_writing, mode_off, Inv, Keeps, k_carry, did_not, no_mark, note_unmarked, guarded, stopped}
use Rattle.rules.proofs.KeepsStore.{store_keeps}
use Rattle.rules.proofs.LiveShown.{live_shown, inv_apart, awake_passed}
use Rattle.rules.proofs.Sweeping.{Waiting, and_above, waiting_set, lowest_waiting, Open, sweep_open, swept_block, swept_once, swept_all, update_itself, copy_laid, as_store, reads_on, first_then}

-- ---- the plain machine: a store of unchanged bytes changes no block

-- the live blocks of a plain machine may be given in other words
lives_as : {board : Board} {plain : Plain} (live : ℕ → List ℕ) → ((block : ℕ) → block < (sizes board).blocks → plain.live block ≡ live block)
    → Inv board plain → Inv board (record { live = live; kept = plain.kept; on_its_way = plain.on_its_way })
lives_as {board} {plain} live same v = record {
  fine = v.fine;
  lent = v.lent;
  registers = v.registers;
  keeps = v.keeps;
  kept = v.kept;
  mode = relive v.mode;
}
  where
    other : Plain
    other = record { live = live; kept = plain.kept; on_its_way = plain.on_its_way }

    relive : {phase : Phase} → Mode board plain v.keeps phase → Mode board other v.keeps phase
    relive (mode_running be sh) = mode_running be (record { formed = sh.formed; apart = sh.apart; shows = λ block h. sh.shows block h ∙ same block h })
    relive (mode_writing sh dr) = mode_writing (record { formed = sh.formed; apart = sh.apart; shows = λ block h. sh.shows block h ∙ same block h }) dr
    relive mode_off = mode_off

over_itself : (block : List ℕ) → laid_over block block ≡ block
unfolding laid_over
over_itself [] = refl
over_itself (b ∷ block) = ap (λ (z : List ℕ). b ∷ z) (over_itself block)

-- ---- the entries one after the other

-- what a sweep of these entries must keep, whole and stopped after any of its words
pub record Swept (board : Board) (plain : Plain) (entries : List CleanEntry) : Type 0 where
  pub whole : Inv (swept_all board entries) plain
  pub halt : (p : ℕ) → Inv (record { memory = lay (take p (home_copies (sizes board) board.memory entries)) board.memory; volatile = switched_off board board.volatile }) plain
  pub unmarked : All (Below (mark_start (sizes board))) (home_copies (sizes board) board.memory entries)

-- a board that is Off keeps what it keeps, whatever its table of the same length holds
off_again : (board : Board) {plain : Plain} (table memory : List ℕ) → length (table_of board) ≡ length table
    → Inv (record { memory = memory; volatile = switched_off (record { memory = board.memory; volatile = record { cache = cache_of board; table = table; controller = board.volatile.controller } }) board.volatile }) plain
    → Inv (record { memory = memory; volatile = switched_off board board.volatile }) plain
off_again board table memory same v = record {
  fine = v.fine;
  lent = record { memory = v.lent.memory; cache = v.lent.cache; table = same ∙ v.lent.table };
  registers = v.registers;
  keeps = v.keeps;
  kept = v.kept;
  mode = mode_off;
}

-- the invariant of a board that is Running opens it for a sweep
running_open : (board : Board) (plain : Plain) → Inv board plain → phase_of board ≡ Running → Open board
running_open board plain v ph =
    let awake : is_off (phase_of board) ≡ false = ap is_off ph in
    let a = awake_passed board plain v awake in
    record {
      common = record { fine = v.fine; exact = rw (lent_exact (sizes board) board v.lent); count = a.0; awake = awake; formed = a.1 };
      running = ph;
    }

module _ (board : Board) (plain : Plain) (v : Inv board plain) (ph : phase_of board ≡ Running) (slot block : ℕ)
    (found : Finds block (table_of board) (entry_at slot Clean)) (below : block < (sizes board).blocks) where
  abbrev g : Geometry
  g = sizes board

  abbrev o : Open board
  o = running_open board plain v ph

  abbrev bytes : List ℕ
  bytes = seen board block

  abbrev copy : List Store
  copy = bytes_to (8 * home_block g block) 8 (block_at board.memory (checkpoint_block g slot))

  laid : Laid (8 * home_block g block) 8 (length board.memory) copy
  laid = copy_laid board o slot block found below

  copy_below : All (Below (mark_start g)) copy
  copy_below = all_map (λ s h. record { under = omega (arith, h.high, below) }) laid.inside

  -- one entry, by what is known of stores
  record Once : Type 0 where
    pub whole : Inv (swept_once board slot block) plain
    pub halt : (p : ℕ) → p < 8 → Inv (record { memory = lay (take p copy) board.memory; volatile = switched_off board board.volatile }) plain

  unchanged : (k : ℕ) → k < g.blocks → update plain.live block (overlaid (plain.live block) 0 bytes) k ≡ plain.live k
  unfolding overlaid
  unchanged k h =
      update_itself plain.live block (overlaid (plain.live block) 0 bytes)
      (ap (laid_over (plain.live block)) (live_shown board plain v block below o.common.awake) ∙ over_itself (plain.live block)) k

  once : Once
  unfolding did
  once = go (subst (Keeps board plain (store block 0 bytes)) (as_store board o slot block found below) (store_keeps board plain v block 0 bytes))
    where
      unmarked : (p : ℕ) → has_mark g (take p copy) ≡ false
      unmarked p = no_mark g (all_take p copy_below)

      go : Keeps board plain (store block 0 bytes) (carry copy (swept_once board slot block).volatile []) → Once
      go (k_carry ge all halt) = record {
        whole = lives_as plain.live unchanged (subst (Inv (swept_once board slot block)) (note_unmarked g plain (store block 0 bytes) 0 copy (no_mark g copy_below)) all);
        halt = λ p h.
            subst (Inv (record { memory = lay (take p copy) board.memory; volatile = switched_off board board.volatile }))
            (note_unmarked g plain (store block 0 bytes) 20 (take p copy) (unmarked p) ∙ did_not plain (store block 0 bytes) 20 (suc-ne-zero 19))
            (halt p (omega (arith, h, laid.count)));
      }

  -- and the entries after it
  one_more : (entries : List CleanEntry) → Swept (swept_once board slot block) plain entries → Swept board plain (record { slot = slot; block = block } ∷ entries)
  unfolding home_copies hidden lay
  one_more entries later = record {
    whole = subst (λ (after : Board). Inv after plain) (first_then board o slot block found below entries) later.whole;
    halt = λ p. split p (leb 8 p) refl;
    unmarked = all_append copy_below (subst (All (Below (mark_start g))) same later.unmarked);
  }
    where
      next : Board
      next = swept_once board slot block

      rest : List Store
      rest = home_copies g board.memory entries

      same : home_copies g next.memory entries ≡ rest
      same = reads_on board o slot block found below entries

      cut_after : List Store → Type 0
      cut_after ws = Inv (record { memory = lay ws board.memory; volatile = switched_off board board.volatile }) plain

      both : (p : ℕ) → take p (copy ++ rest) ≡ take p copy ++ take (p - 8) rest
      both p = take_both p copy rest ∙ ap (λ (n : ℕ). take p copy ++ take (p - n) rest) laid.count

      inside : (p : ℕ) → p < 8 → cut_after (take p (copy ++ rest))
      inside p h =
          let none : p - 8 ≡ 0 = omega arith in
          subst cut_after (sym (both p ∙ ap (λ (n : ℕ). take p copy ++ take n rest) none ∙ append-nil (take p copy))) (once.halt p h)

      behind : (p : ℕ) → 8 ≤ p → cut_after (take p (copy ++ rest))
      behind p h =
          let ws = take (p - 8) rest in
          subst cut_after (sym (both p ∙ ap (λ (z : List Store). z ++ ws) (take_all p copy (omega (arith, laid.count)))))
          (subst (λ (m : List ℕ). Inv (record { memory = m; volatile = switched_off board board.volatile }) plain) (sym (lay-append copy ws board.memory))
          (off_again board (set (table_of board) slot (word_of block Hidden)) (lay ws next.memory) (sym (length-set (table_of board) slot (word_of block Hidden)))
          (subst (λ (z : List Store). Inv (record { memory = lay (take (p - 8) z) next.memory; volatile = switched_off next next.volatile }) plain) same (later.halt (p - 8)))))

      split : (p : ℕ) (t : Bool) → leb 8 p ≡ t → cut_after (take p (copy ++ rest))
      split p true e = behind p (leb-true 8 p e)
      split p false e = inside p (leb-false 8 p e)

pub swept : (entries : List CleanEntry) (board : Board) (plain : Plain) → Inv board plain → phase_of board ≡ Running → {low : ℕ} → Waiting (table_of board) low entries
    → Swept board plain entries
unfolding home_copies hidden lay
swept [] board plain v ph w = record { whole = v; halt = λ p. stopped v [] done done p; unmarked = done }
swept (entry ∷ entries) board plain v ph (and_above a b c w) =
    let below = swept_block (running_open board plain v ph) entry.slot entry.block b c in
    let found = apart_finds entry.block entry.slot Clean (inv_apart board plain v (ap is_off ph)) b c in
    let next = (once board plain v ph entry.slot entry.block found below).whole in
    one_more board plain v ph entry.slot entry.block found below entries
    (swept entries (swept_once board entry.slot entry.block) plain next ph (waiting_set entry.slot (word_of entry.block Hidden) (omega arith) w))

-- ---- the call

pub sweep_keeps : (board : Board) (plain : Plain) → Inv board plain → (limit : ℕ) → Keeps board plain (sweep limit) (sweep_plan board limit)
unfolding sweep_plan sweep_number did
sweep_keeps board plain v limit = guarded (sweep_number board) (λ e. go (sweep_open board e).running)
  where
    entries : List CleanEntry
    entries = lowest_clean limit (table_of board)

    go : phase_of board ≡ Running
        → Keeps board plain (sweep limit) (carry (home_copies (sizes board) board.memory entries) (swept_all board entries).volatile [])
    go ph =
        let s = swept entries board plain v ph (lowest_waiting limit (table_of board)) in
        k_carry refl (subst (Inv _) (sym (note_unmarked (sizes board) plain (sweep limit) 0 _ (no_mark (sizes board) s.unmarked))) s.whole)
        (λ p h. subst (Inv _) (sym (note_unmarked (sizes board) plain (sweep limit) 20 _ (no_mark (sizes board) (all_take p s.unmarked)))) (s.halt p))
