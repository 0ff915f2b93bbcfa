-- Demands 2 and 3 as statements, and what the later requests ask of them: what the assessor stamps.
-- Their proofs are in proofs/Demand2.antt, Demand3.antt, Moves.antt, NoneFinished.antt and ShortStores.antt.
use Rattle.std.specs.Prelude.{◌≡◌, ◌≢◌, ◌↔◌, List, map, ℕ, ◌+◌, ◌*◌, ◌≤◌, ◌<◌, min, length, get_or, set, take, drop, replicate, Some, None}
use Rattle.words.specs.Words.{word, lay, number}
use Rattle.rules.specs.declared.Geometry.{Geometry}
use Rattle.rules.specs.declared.Backup.{Backup}
use Rattle.rules.specs.declared.Backup.TheVariants.{B}
use Rattle.rules.specs.declared.State.{State}
use Rattle.rules.specs.declared.State.TheVariants.{Dirty, Hidden}
use Rattle.rules.specs.declared.Phase.TheVariants.{Running}
use Rattle.rules.specs.declared.Place.{Place}
use Rattle.rules.specs.declared.Window.{Window}
use Rattle.rules.specs.Geometry.{mark_start}
use Rattle.rules.specs.TableWords.{entry_at, word_of, lookup, lowest_free, changed}
use Rattle.rules.specs.Board.{Board, Volatile, sizes, phase_of, cache_of, table_of}
use Rattle.rules.specs.Numbers.{number_of}
use Rattle.rules.specs.Power.{Outcome, settle, stored}
use Rattle.rules.specs.Loads.{in_memory, spot_in, spot_of, block_in, seen, load_number}
use Rattle.rules.specs.Stores.{replaced, to, stores, move_in, slot_for, store_number, all, window_to, store_by}
use Rattle.rules.specs.Checkpoints.{begun, saved, checkpoint_list, count_of, next_words}
use Rattle.rules.specs.Sweeps.{lowest_clean, hidden}
use Rattle.rules.specs.Starts.{finished_in, saved_registers, table_in, recorded, registers_given}
use Rattle.rules.specs.Calls.{Call, load, peek, store, begin, step, format, recover, sweep, plan, call}
use Rattle.rules.specs.PlainMachine.{Picture, Plain, note}
use Rattle.rules.specs.Runs.{Event, Run, runs, Lengths, NoFormat, FromFormat, formatted_run, run_from, NoneFinished}

-- ---- what is handed out

-- what is handed out while a promise stands
pub record Shows (board : Board) (plain : Plain) : Type 0 where
  pub loads :
      (p block offset len : ℕ) → number_of (call p board (load block offset len)).number ≡ 0
      → (call p board (load block offset len)).gives ≡ take len (drop offset (plain.live block))
  pub peeks : (p block : ℕ) → number_of (call p board (peek block)).number ≡ 0 → (call p board (peek block)).gives ≡ plain.live block

-- ---- demand 3

-- a recovery is accepted and gives every block of a picture, and its registers or their absence:
-- every load in range is then accepted and gives its bytes
pub record Recovers (g : Geometry) (picture : Picture) (outcome : Outcome) : Type 0 where
  pub accepted : number_of outcome.number ≡ 0
  pub blocks :
      (block offset len : ℕ) → block < g.blocks → offset ≤ 63 → len ≢ 0 → offset + len ≤ 64 → (p : ℕ)
      → (number_of (call p outcome.board (load block offset len)).number ≡ 0)
      × ((call p outcome.board (load block offset len)).gives ≡ take len (drop offset (picture.blocks block)))
  -- the answer hands out the registers, or says that there are none
  pub registers : registers_given outcome.gives ≡ picture.registers
  -- the record has them, or zeros
  pub in_record : outcome.board.volatile.controller.registers ≡ recorded picture.registers

-- the same of a memory, whatever the volatile memory holds
pub record RecoversTo (g : Geometry) (picture : Picture) (memory : List ℕ) : Type 0 where
  pub whatever :
      (volatile : Volatile) → Lengths g volatile → (p : ℕ) → Recovers g picture (call p (record { memory = memory; volatile = volatile }) (recover g))

-- a run whose board recovers to what is kept: now, and after any prefix of the word list of any further call but a format.
-- Which picture is kept then is decided by the mark word being among the words stored, and by nothing else (`note`).
pub record Safe (g : Geometry) (run : Run) : Type 0 where
  pub plain : Plain
  pub stands : run.promise ≡ Some plain
  -- its live blocks, of which a begin takes the picture, are what loads give
  pub shows : Shows run.board plain
  pub now : RecoversTo g plain.kept run.board.memory
  -- a recovery without a loss of supply goes back too
  pub without_loss : (p : ℕ) → Recovers g plain.kept (call p run.board (recover g))
  pub inside :
      (c : Call) → NoFormat c → (p : ℕ)
      → let words = stored p (plan run.board c) in
      RecoversTo g (note g plain c (number_of (call p run.board c).number) words).kept (lay words run.board.memory)

-- one finished format on any memory contents, then any allowed events
unfoldable pub Demand3 : Type 0
Demand3 = (g : Geometry) (from : FromFormat g) → Safe g (run_from from)

-- a recovery is accepted, hands out no registers and leaves zeros in the record
pub record WithoutRegisters (outcome : Outcome) : Type 0 where
  pub accepted : number_of outcome.number ≡ 0
  pub registers : registers_given outcome.gives ≡ None
  pub in_record : outcome.board.volatile.controller.registers ≡ replicate 64 0

-- until a checkpoint is finished after the format there are no registers, whatever the volatile memory holds
unfoldable pub NoRegistersYet : Type 0
NoRegistersYet =
    (g : Geometry) (from : FromFormat g)
    → NoneFinished g (formatted_run from) from.events
    → (volatile : Volatile)
    → Lengths g volatile
    → (p : ℕ)
    → WithoutRegisters (call p (record { memory = (run_from from).board.memory; volatile = volatile }) (recover g))

-- until then the words of a step are those of backup B's list: the registers, the table, and mark 2
unfoldable pub NextToB : Type 0
NextToB =
    (g : Geometry) (from : FromFormat g)
    → NoneFinished g (formatted_run from) from.events
    → (n : ℕ)
    → let board = (run_from from).board in
    next_words board n
    ≡ take n (drop (count_of (phase_of board)) (checkpoint_list g B board.volatile.controller.registers (map (changed saved) (table_of board))))

-- ---- demand 2

-- any events at all, on any board at all: wherever an accepted format or recovery stands behind the board, loads give what it must give
unfoldable pub Demand2 : Type 0
Demand2 =
    (board : Board) (events : List Event) (plain : Plain)
    → (runs events (record { board = board; promise = None })).promise ≡ Some plain
    → Shows (runs events (record { board = board; promise = None })).board plain

-- ---- demand 2: a store that passes the checks 1 to 6 is refused for lack of room exactly when there is none

-- no slot holds an entry of the block
unfoldable pub NoEntry : ℕ → List ℕ → Type 0
NoEntry block table = (slot : ℕ) (state : State) → slot < length table → get_or table slot 0 ≢ word_of block state

unfoldable pub NoneFree : List ℕ → Type 0
NoneFree table = (slot : ℕ) → slot < length table → get_or table slot 0 ≢ 0

-- a load of the same range has the checks 1 to 6 and no others
unfoldable pub FullExactly : Type 0
unfolding NoEntry NoneFree
FullExactly =
    (p : ℕ) (board : Board) (block offset : ℕ) (bytes : List ℕ)
    → number_of (load_number board block offset (length bytes)) ≡ 0
    → (number_of (call p board (store block offset bytes)).number ≡ 7) ↔ (NoEntry block (table_of board) × NoneFree (table_of board))

-- ---- demand 2: block states move by the tables

-- an accepted store: the row of the table of stores, the slot, the entry after it, and the new block at its place
pub record StoreLeaves (board : Board) (block offset : ℕ) (bytes : List ℕ) (after : Board) : Type 0 where
  pub slot : ℕ
  pub place : Place
  pub state : State
  pub row : move_in (phase_of board) (stores (lookup block (table_of board))) ≡ to place state
  pub taken : slot_for (lookup block (table_of board)) (lowest_free (table_of board)) ≡ Some slot
  pub table : table_of after ≡ set (table_of board) slot (word_of block state)
  pub new : block_in after.memory (cache_of after) (spot_in (sizes board) block slot place) ≡ replaced (seen board block) offset bytes

-- an accepted recovery: the table of the backup that the mark names
pub record RecoveryLeaves (board : Board) (g : Geometry) (after : Board) : Type 0 where
  pub backup : Backup
  pub named : finished_in g board.memory ≡ Some backup
  pub table : table_of after ≡ table_in g board.memory backup
  pub registers : after.volatile.controller.registers ≡ recorded (saved_registers g board.memory backup)
  -- it stores no nonvolatile word
  pub memory : after.memory ≡ board.memory

-- what an accepted call leaves in the table
unfoldable pub Leaves : Board → Call → Board → Type 0
Leaves board (load block offset len) after = table_of after ≡ table_of board
Leaves board (peek block) after = table_of after ≡ table_of board
Leaves board (store block offset bytes) after = StoreLeaves board block offset bytes after
Leaves board (begin registers) after = table_of after ≡ map (changed begun) (table_of board)
Leaves board (step n) after = table_of after ≡ table_of board
Leaves board (format g fill) after = table_of after ≡ replicate g.slots 0
Leaves board (recover g) after = RecoveryLeaves board g after
Leaves board (sweep limit) after = table_of after ≡ hidden (lowest_clean limit (table_of board)) (table_of board)

-- any call on any board: accepted it leaves the above, otherwise the table as at entry
unfoldable pub StatesMove : Type 0
unfolding Leaves
StatesMove =
    (p : ℕ) (board : Board) (c : Call)
    → (number_of (call p board c).number ≡ 0 → Leaves board c (call p board c).board)
    × (number_of (call p board c).number ≢ 0 → table_of (call p board c).board ≡ table_of board)

-- ---- a format that is cut: at p = 0 it leaves the old memory, later it leaves mark 0

unfoldable pub CutFormat : Type 0
CutFormat =
    (p : ℕ) (board : Board) (g : Geometry) (fill : ℕ)
    → number_of (call p board (format g fill)).number ≡ 20
    → (p ≡ 0 → (call p board (format g fill)).board.memory ≡ board.memory)
    × (p ≢ 0 → number (word (call p board (format g fill)).board.memory (mark_start g)) ≡ 0)

-- ---- fewer words worn out by repeated stores (document 02, No. 5)

-- a byte of the range lies in word k of its block
unfoldable pub Touches : ℕ → ℕ → ℕ → Type 0
Touches offset len k = (8 * k < offset + len) × (offset < 8 * k + 8)

-- a store whose list has the words that its bytes touch, and no others: 1 to 8 words of the new block, where the old one shows
pub record ShortList (board : Board) (block offset : ℕ) (bytes : List ℕ) : Type 0 where
  -- the block of the memory where the block shows
  pub place : ℕ
  pub shown : spot_of (sizes board) block (lookup block (table_of board)) ≡ in_memory place
  pub window : Window
  pub some_word : 1 ≤ window.count
  pub at_most_eight : window.count ≤ 8
  pub touched : (k : ℕ) → ((window.first ≤ k) × (k < window.first + window.count)) ↔ Touches offset (length bytes) k
  pub list : (p : ℕ) → stored p (plan board (store block offset bytes)) ≡ take p (window_to place window (replaced (seen board block) offset bytes))

pub data DirtyOrHidden : State → Type 0 where
  is_dirty : DirtyOrHidden Dirty
  is_hidden : DirtyOrHidden Hidden

-- a store while Running that finds dirty or hidden, and passes its checks
unfoldable pub ShortStores : Type 0
ShortStores =
    (board : Board) (block offset : ℕ) (bytes : List ℕ) (slot : ℕ) (state : State)
    → phase_of board ≡ Running
    → lookup block (table_of board) ≡ entry_at slot state
    → DirtyOrHidden state
    → number_of (store_number board block offset bytes) ≡ 0
    → ShortList board block offset bytes

-- every other store, while Writing too, has document 01's plan, of all 8 words
unfoldable pub PlanElsewhere : Type 0
PlanElsewhere =
    (board : Board) (block offset : ℕ) (bytes : List ℕ)
    → ((slot : ℕ) (state : State) → phase_of board ≡ Running → DirtyOrHidden state → lookup block (table_of board) ≢ entry_at slot state)
    → plan board (store block offset bytes) ≡ store_by all board block offset bytes

-- while Running these are 8 words, of which the supply stores the first p
unfoldable pub EightElsewhere : Type 0
EightElsewhere =
    (p : ℕ) (board : Board) (block offset : ℕ) (bytes : List ℕ)
    → phase_of board ≡ Running
    → ((slot : ℕ) (state : State) → DirtyOrHidden state → lookup block (table_of board) ≢ entry_at slot state)
    → number_of (store_number board block offset bytes) ≡ 0
    → length (stored p (plan board (store block offset bytes))) ≡ min p 8

-- a store that isn't cut leaves the board that document 01's list of all 8 words leaves
unfoldable pub SameBytes : Type 0
SameBytes =
    (p : ℕ) (board : Board) (block offset : ℕ) (bytes : List ℕ)
    → number_of (call p board (store block offset bytes)).number ≡ 0
    → (call p board (store block offset bytes)).board ≡ (settle 8 board (store_by all board block offset bytes)).board
