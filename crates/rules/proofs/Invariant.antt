-- The invariant between the board and the plain machine, and what a plan must do to keep it.
use mathlib.Core.Path.{◌≡◌, refl, ◌∙◌}
use mathlib.Core.Logic.{◌≢◌}
use mathlib.Core.Bool.{Bool, true, false, cond}
use mathlib.Core.List.{List, [], map}
use Rattle.std.specs.Prelude.{Option, None, Some}
use Prim.Native.Nat.{ℕ, zero, suc, ◌+◌, ◌≤◌, ◌<◌}
use native.Mathlib.Omega.{arith}
use lib.Dec.{eqb, leb, ltb}
use lib.ListN.{length, take}
use lib.Seq.{take_all}
use borrow.Author.Tests.{eqb-true, eqb-false, ne_eqb, leb-true, leb-false}
use Rattle.words.specs.Words.{block_at, Store, lay}
use Rattle.words.proofs.All.{All, done, also, all_take, all_map}
use Rattle.words.proofs.Lists.{Fit, lay-length}
use Rattle.words.proofs.Rising.{Held, Below}
use Rattle.rules.specs.declared.Geometry.{Geometry}
use Rattle.rules.specs.declared.Backup.{Backup}
use Rattle.rules.specs.declared.Phase.{Phase}
use Rattle.rules.specs.declared.Phase.TheVariants.{Running, Writing, Off}
use Rattle.rules.specs.declared.State.{State}
use Rattle.rules.specs.declared.State.TheVariants.{Clean, Dirty, Hidden, PreHidden, PreDirty}
use Rattle.rules.specs.declared.Number.{Number}
use Rattle.rules.specs.Geometry.{mark_start}
use Rattle.rules.specs.TableWords.{Says, free, names, neither, says, changed}
use Rattle.rules.specs.Board.{Board, Volatile, sizes, phase_of, cache_of, table_of}
use Rattle.rules.specs.Numbers.{number_of, outside, while_writing, allows, well_said, well_formed}
use Rattle.rules.specs.Power.{Plan, refuse, carry, guard, Outcome, whole, switched_off, cut, settle, stored}
use Rattle.rules.specs.Loads.{visible}
use Rattle.rules.specs.Stores.{stores}
use Rattle.rules.specs.Checkpoints.{saved, other, checkpoint_list}
use Rattle.rules.specs.Starts.{saved_block}
use Rattle.rules.specs.Calls.{Call, load, peek, store, begin, step, format, recover, sweep}
use Rattle.rules.specs.PlainMachine.{Picture, Plain, did, has_mark, note}
use Rattle.rules.proofs.Clashes.{and_left}
use Rattle.rules.proofs.Apart.{Apart}
use Rattle.rules.proofs.Saving.{Kept, Loose, loose_below, kept_stays}
use Rattle.rules.proofs.Checked.{Lent}

-- what the finished backup holds in a slot, by the state that a running table has there.
-- Guards against removing a hidden entry early, and against saving a pre-hidden one as free: their slots hold the finished copy.
unfoldable pub standing : State → Option State
standing Clean = Some Clean
standing Dirty = None
standing Hidden = Some Clean
standing PreHidden = Some Clean
standing PreDirty = None

-- what is well formed in a column is well formed while Running, which allows every state
pub formed_running : (allowed : State → Bool) (g : Geometry) (w : ℕ) → well_formed allowed g w ≡ true → well_formed (allows Running) g w ≡ true
unfolding well_formed well_said allows
formed_running allowed g w e = go (says w) e
  where
    go : (x : Says) → well_said allowed g x ≡ true → well_said (allows Running) g x ≡ true
    go free q = refl
    go neither q = q
    go (names block state) q = rw (and_left (ltb block g.blocks) (allowed state) q)

-- the table shows the live blocks
pub record Live (g : Geometry) (allowed : State → Bool) (memory cache table : List ℕ) (live : ℕ → List ℕ) : Type 0 where
  -- no call is ever refused with TABLE
  pub formed : All (λ w. well_formed allowed g w ≡ true) table
  -- no block stands in it twice: exchanging or doubling entries would leave one of them stale
  pub apart : Apart table
  -- every block shows what was last stored: guards against a short store that leaves zeros in a new place
  pub shows : (block : ℕ) → block < g.blocks → visible g memory cache table block ≡ live block

-- a checkpoint on its way, of which so many words are stored
pub record Drafted (g : Geometry) (memory table registers : List ℕ) (finished : Backup) (count : ℕ) (on_its_way : Option Picture) : Type 0 where
  pub picture : Picture
  pub begun : on_its_way ≡ Some picture
  -- no step is ever refused with RECORD
  pub few : count ≤ g.slots + 8
  pub eight : length registers ≡ 64
  pub given : Some registers ≡ picture.registers
  -- the words that are about to be saved give the picture: guards against writing fresh blocks to CHECKPOINT while Writing
  pub blocks : (block : ℕ) → block < g.blocks → block_at memory (saved_block g (map (changed saved) table) block) ≡ picture.blocks block
  -- what was stored of the list stands: guards against a mark that comes before the last table word
  pub written : All (Held memory) (take count (checkpoint_list g (other finished) registers (map (changed saved) table)))

pub data Mode (board : Board) (plain : Plain) (keeps : List ℕ) : Phase → Type 0 where
  -- slot by slot the finished backup holds what stands behind the running table
  mode_running :
      keeps ≡ map (changed standing) (table_of board)
      → Live (sizes board) (allows Running) board.memory (cache_of board) (table_of board) plain.live
      → Mode board plain keeps Running
  mode_writing :
      {count : ℕ}
      → Live (sizes board) while_writing board.memory (cache_of board) (table_of board) plain.live
      → Drafted (sizes board) board.memory (table_of board) board.volatile.controller.registers board.volatile.controller.finished count plain.on_its_way
      → Mode board plain keeps (Writing count)
  -- nothing is asked of the volatile side of a board that lost its supply
  mode_off : Mode board plain keeps Off

pub record Inv (board : Board) (plain : Plain) : Type 0 where
  pub fine : outside (sizes board) ≡ false
  pub lent : Lent (sizes board) board
  -- the registers, or their absence, and the table of the finished backup
  pub registers : Option (List ℕ)
  pub keeps : List ℕ
  -- the mark names the record's finished backup, it passes recovery's checks and gives what is kept, in every phase, Off too
  pub kept : Kept (sizes board) board.memory board.volatile.controller.finished registers keeps plain.kept
  pub mode : Mode board plain keeps (phase_of board)

-- ---- a plan that keeps it: whole, and stopped after any of its words

pub data Keeps (board : Board) (plain : Plain) (c : Call) : Plan → Type 0 where
  k_refuse : {n : Number} → number_of n ≢ 0 → Keeps board plain c (refuse n)
  k_carry :
      {stores : List Store} {after : Volatile} {gives : List ℕ}
      → after.controller.geometry ≡ sizes board
      → Inv (record { memory = lay stores board.memory; volatile = after }) (note (sizes board) plain c 0 stores)
      → ((p : ℕ) → p < length stores
      → Inv (record { memory = lay (take p stores) board.memory; volatile = switched_off board after }) (note (sizes board) plain c 20 (take p stores)))
      → Keeps board plain c (carry stores after gives)

-- a refused call and a cut one do nothing to the plain machine but what the mark does
pub did_not : (plain : Plain) (c : Call) (n : ℕ) → n ≢ 0 → did plain c n ≡ plain
unfolding did
did_not plain c zero ne = absurd (ne refl)
did_not plain (load block offset len) (suc n) ne = refl
did_not plain (peek block) (suc n) ne = refl
did_not plain (store block offset bytes) (suc n) ne = refl
did_not plain (begin registers) (suc n) ne = refl
did_not plain (step count) (suc n) ne = refl
did_not plain (format g fill) (suc n) ne = refl
did_not plain (recover g) (suc n) ne = refl
did_not plain (sweep limit) (suc n) ne = refl

-- words without the mark finish nothing
pub no_mark : (g : Geometry) {stores : List Store} → All (Below (mark_start g)) stores → has_mark g stores ≡ false
unfolding has_mark
no_mark g done = refl
no_mark g (also {x = s} a az) = rw (ne_eqb s.place (mark_start g) (omega (arith, a.under)), no_mark g az)

pub note_unmarked : (g : Geometry) (plain : Plain) (c : Call) (n : ℕ) (stores : List Store) → has_mark g stores ≡ false → note g plain c n stores ≡ did plain c n
unfolding note
note_unmarked g plain c n stores e = rw e

pub note_loose : (g : Geometry) (plain : Plain) (c : Call) (n : ℕ) (x : Backup) (table : List ℕ) {stores : List Store} → All (Loose g x table) stores
    → note g plain c n stores ≡ did plain c n
note_loose g plain c n x table {stores} l = note_unmarked g plain c n stores (no_mark g (all_map (loose_below g x table) l))

note_refused : (g : Geometry) (plain : Plain) (c : Call) (n : ℕ) → n ≢ 0 → note g plain c n [] ≡ plain
note_refused g plain c n ne = note_unmarked g plain c n [] (no_mark g done) ∙ did_not plain c n ne

pub settled : (board : Board) (plain : Plain) (c : Call) (p : ℕ) (q : Plan) → Keeps board plain c q → Inv board plain
    → Inv (settle p board q).board (note (sizes board) plain c (number_of (settle p board q).number) (stored p q))
unfolding settle stored number_of
settled board plain c p (refuse n) (k_refuse ne) i = rw (note_refused (sizes board) plain c (number_of n) ne) i
settled board plain c p (carry ws after gives) (k_carry ge all halt) i = go (leb (length ws) p) refl
  where
    out : Bool → Outcome
    out t = cond t (whole board ws after gives) (cut p board ws after)

    go : (t : Bool) → leb (length ws) p ≡ t → Inv (out t).board (note (sizes board) plain c (number_of (out t).number) (take p ws))
    go true e = rw (take_all p ws (leb-true (length ws) p e)) all
    go false e = halt p (leb-false (length ws) p e)

-- the sizes stay
pub settled_sizes : (board : Board) (plain : Plain) (c : Call) (p : ℕ) (q : Plan) → Keeps board plain c q → sizes (settle p board q).board ≡ sizes board
unfolding settle
settled_sizes board plain c p (refuse n) (k_refuse ne) = refl
settled_sizes board plain c p (carry ws after gives) (k_carry ge all halt) = go (leb (length ws) p)
  where
    go : (t : Bool) → sizes (cond t (whole board ws after gives) (cut p board ws after)).board ≡ sizes board
    go true = ge
    go false = ge

-- a plan behind its checks
pub guarded : {board : Board} {plain : Plain} {c : Call} {q : Plan} (n : Number) → (number_of n ≡ 0 → Keeps board plain c q) → Keeps board plain c (guard n q)
unfolding guard
guarded {board} {plain} {c} {q} n h = go (eqb (number_of n) 0) refl
  where
    go : (t : Bool) → eqb (number_of n) 0 ≡ t → Keeps board plain c (cond t q (refuse n))
    go true e = h (eqb-true (number_of n) 0 e)
    go false e = k_refuse (eqb-false (number_of n) 0 e)

-- ---- a stop: a list that the finished backup has no use for, stopped after any of its words, leaves the board Off and what is kept as it was

pub stopped : {board : Board} {plain : Plain} (v : Inv board plain) (ws : List Store) → All (Fit (length board.memory)) ws
    → All (Loose (sizes board) board.volatile.controller.finished v.keeps) ws → (p : ℕ)
    → Inv (record { memory = lay (take p ws) board.memory; volatile = switched_off board board.volatile }) plain
stopped {board} v ws fits loose p = record {
  fine = v.fine;
  lent = record {
    memory = lay-length (take p ws) board.memory (all_take p fits) ∙ v.lent.memory;
    cache = v.lent.cache;
    table = v.lent.table;
  };
  registers = v.registers;
  keeps = v.keeps;
  kept = kept_stays v.kept ws p fits loose;
  mode = mode_off;
}
