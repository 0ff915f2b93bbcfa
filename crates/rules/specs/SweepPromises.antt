-- What document 02, No. 7 asks of sweeps beside demands 2 and 3, which have them among their calls.
-- The proofs are in proofs/SweepMoves.antt, SweepLoads.antt, RoomAgain.antt and NewBlocks.antt.
use Rattle.std.specs.Prelude.{◌≡◌, ◌≢◌, true, false, List, [], ◌∷◌, ◌++◌, ℕ, ◌+◌, ◌*◌, ◌≤◌, ◌<◌, min, length, get_or, set, take, replicate, None, Some}
use Rattle.words.specs.Words.{Store}
use Rattle.rules.specs.declared.State.TheVariants.{Clean, Dirty, Hidden, PreHidden, PreDirty}
use Rattle.rules.specs.TableWords.{word_of, Says, free, names, neither, says, distinct}
use Rattle.rules.specs.Board.{Board, sizes, phase_of, table_of}
use Rattle.rules.specs.Numbers.{number_of, is_off, is_writing}
use Rattle.rules.specs.Power.{Outcome, stored}
use Rattle.rules.specs.Loads.{seen, load_number}
use Rattle.rules.specs.Sweeps.{CleanEntry, lowest_clean}
use Rattle.rules.specs.Calls.{Call, load, peek, store, begin, step, sweep, plan, call}
use Rattle.rules.specs.PlainMachine.{Plain}
use Rattle.rules.specs.Runs.{Event, runs}
use Rattle.rules.specs.Promises.{NoEntry}

-- ---- how many entries are swept

unfoldable pub one_if_clean : Says → ℕ
one_if_clean free = 0
one_if_clean (names block Clean) = 1
one_if_clean (names block Dirty) = 0
one_if_clean (names block Hidden) = 0
one_if_clean (names block PreHidden) = 0
one_if_clean (names block PreDirty) = 0
one_if_clean neither = 0

-- the clean entries of a table, counted
unfoldable pub clean_in : List ℕ → ℕ
unfolding one_if_clean says
clean_in [] = 0
clean_in (word ∷ table) = one_if_clean (says word) + clean_in table

-- the answer of a sweep that passes the checks 1 to 5, which are all that a load of the first byte has beside its range:
-- BUSY while Writing, else DONE with 8 words an entry, or CUT where the supply has fewer. Limit 0 or no clean entry: DONE, 0 words
pub record SweepAnswer (p limit : ℕ) (board : Board) (outcome : Outcome) : Type 0 where
  pub busy : is_writing (phase_of board) ≡ true → (number_of outcome.number ≡ 8) × (outcome.words ≡ 0)
  pub done : is_writing (phase_of board) ≡ false → 8 * min limit (clean_in (table_of board)) ≤ p
      → (number_of outcome.number ≡ 0) × (outcome.words ≡ 8 * min limit (clean_in (table_of board)))
  pub cut : is_writing (phase_of board) ≡ false → p < 8 * min limit (clean_in (table_of board)) → (number_of outcome.number ≡ 20) × (outcome.words ≡ p)

unfoldable pub SweepAnswers : Type 0
SweepAnswers = (p limit : ℕ) (board : Board) → number_of (load_number board 0 0 1) ≡ 0 → SweepAnswer p limit board (call p board (sweep limit))

-- an accepted sweep, slot by slot: the lowest clean entries, at most `limit`, become hidden, and every other word stays
pub record SweptWord (limit : ℕ) (table : List ℕ) (slot : ℕ) (after : ℕ) : Type 0 where
  pub swept : (block : ℕ) → get_or table slot 0 ≡ word_of block Clean → clean_in (take slot table) < limit → after ≡ word_of block Hidden
  pub above : limit ≤ clean_in (take slot table) → after ≡ get_or table slot 0
  pub other : ((block : ℕ) → get_or table slot 0 ≢ word_of block Clean) → after ≡ get_or table slot 0

unfoldable pub SweptSlots : Type 0
SweptSlots =
    (p limit : ℕ) (board : Board) (slot : ℕ)
    → number_of (call p board (sweep limit)).number ≡ 0
    → SweptWord limit (table_of board) slot (get_or (table_of (call p board (sweep limit)).board) slot 0)

-- ---- no load changes, where the table names no block twice

pub record SameAnswer (one other : Outcome) : Type 0 where
  pub number : one.number ≡ other.number
  pub words : one.words ≡ other.words
  pub gives : one.gives ≡ other.gives

pub record SameLoads (board after : Board) : Type 0 where
  pub loads : (p block offset len : ℕ) → SameAnswer (call p after (load block offset len)) (call p board (load block offset len))
  pub peeks : (p block : ℕ) → SameAnswer (call p after (peek block)) (call p board (peek block))

-- on any board, accepted or refused; a sweep that is cut leaves the board Off, and every load is refused then
unfoldable pub NoLoadChanges : Type 0
NoLoadChanges =
    (p limit : ℕ) (board : Board)
    → distinct (table_of board) ≡ true
    → number_of (call p board (sweep limit)).number ≢ 20
    → SameLoads board (call p board (sweep limit)).board

-- from an accepted format or recovery on no other table is met
unfoldable pub NeverTwice : Type 0
NeverTwice =
    (board : Board) (events : List Event) (plain : Plain)
    → let run = runs events (record { board = board; promise = None }) in
    run.promise ≡ Some plain
    → is_off (phase_of run.board) ≡ false
    → distinct (table_of run.board) ≡ true

-- ---- the other reading: there a sweep is stores of the blocks' own bytes, one after the other

-- the store that a clean entry is treated as
abbrev pub own_bytes : Board → CleanEntry → Call
own_bytes board entry = store entry.block 0 (seen board entry.block)

-- each accepted, with its 8 words; the words of all, and the board after the last
pub data StoredAgain : Board → List CleanEntry → List Store → Board → Type 0 where
  no_more : {board : Board} → StoredAgain board [] [] board
  and_store : {board after : Board} {entry : CleanEntry} {entries : List CleanEntry} {words : List Store}
      → number_of (call 8 board (own_bytes board entry)).number ≡ 0
      → (call 8 board (own_bytes board entry)).words ≡ 8
      → StoredAgain (call 8 board (own_bytes board entry)).board entries words after
      → StoredAgain board (entry ∷ entries) (stored 8 (plan board (own_bytes board entry)) ++ words) after

-- an accepted sweep has just their words, in their order, and leaves what they leave
unfoldable pub AsStores : Type 0
AsStores =
    (p limit : ℕ) (board : Board)
    → distinct (table_of board) ≡ true
    → number_of (call p board (sweep limit)).number ≡ 0
    → StoredAgain board (lowest_clean limit (table_of board)) (stored p (plan board (sweep limit))) (call p board (sweep limit)).board

-- ---- sweep all, begin, finish, sweep all, begin, with no stores between, leaves the table empty

-- a call with its allowance
pub record Asked : Type 0 where
  pub p : ℕ
  pub c : Call

-- calls one after the other, each accepted
pub data AllDone : Board → List Asked → Board → Type 0 where
  no_more : {board : Board} → AllDone board [] board
  and_call : {board after : Board} {a : Asked} {asked : List Asked}
      → number_of (call a.p board a.c).number ≡ 0
      → AllDone (call a.p board a.c).board asked after
      → AllDone board (a ∷ asked) after

-- the calls that may stand between: the steps that finish, loads, peeks, further sweeps
pub data Between : Call → Type 0 where
  a_load : {block offset len : ℕ} → Between (load block offset len)
  a_peek : {block : ℕ} → Between (peek block)
  a_step : {n : ℕ} → Between (step n)
  a_sweep : {limit : ℕ} → Between (sweep limit)

pub data AllBetween : List Asked → Type 0 where
  no_more : AllBetween []
  and_then : {a : Asked} {asked : List Asked} → Between a.c → AllBetween asked → AllBetween (a ∷ asked)

abbrev pub asks : ℕ → Call → Asked
asks p c = record { p = p; c = c }

-- on any board, with a block twice in its table too. The second sweep is only accepted once the checkpoint is finished.
unfoldable pub EmptyTable : Type 0
EmptyTable =
    (board after : Board) (p₁ p₂ p₃ p₄ all₁ all₂ : ℕ) (registers₁ registers₂ : List ℕ) (finish rest : List Asked)
    → AllBetween finish
    → AllBetween rest
    → length (table_of board) ≤ all₁
    → length (table_of board) ≤ all₂
    → AllDone board (asks p₁ (sweep all₁) ∷ asks p₂ (begin registers₁) ∷ finish ++ asks p₃ (sweep all₂) ∷ rest ++ asks p₄ (begin registers₂) ∷ []) after
    → table_of after ≡ replicate (length (table_of board)) 0

-- ---- slots that come free at a begin are taken again

-- the next store in range is accepted, and without an entry it takes the lowest free slot, this one or one below
pub record TakesSlot (slot : ℕ) (board : Board) (block : ℕ) (outcome : Outcome) : Type 0 where
  pub accepted : number_of outcome.number ≡ 0
  pub taken : NoEntry block (table_of board)
      → (lowest : ℕ)
      × (lowest ≤ slot)
      × (get_or (table_of board) lowest 0 ≡ 0)
      × ((lower : ℕ) → lower < lowest → get_or (table_of board) lower 0 ≢ 0)
      × (table_of outcome.board ≡ set (table_of board) lowest (word_of block PreDirty))

unfoldable pub TakenAgain : Type 0
TakenAgain =
    (p q : ℕ) (board : Board) (registers : List ℕ) (slot named : ℕ)
    → slot < length (table_of board)
    → get_or (table_of board) slot 0 ≡ word_of named Hidden
    → number_of (call p board (begin registers)).number ≡ 0
    → let after = (call p board (begin registers)).board in
    (get_or (table_of after) slot 0 ≡ 0)
    × ((block offset : ℕ) (bytes : List ℕ) → number_of (load_number after block offset (length bytes)) ≡ 0
    → TakesSlot slot after block (call q after (store block offset bytes)))

-- ---- after sweep, begin and finish a board that answered FULL takes a new block

-- from an accepted format or recovery on: one clean entry or more swept, a checkpoint begun, and what follows of the calls between
pub record RoomMade (after : Board) : Type 0 where
  pub board : Board
  pub events : List Event
  pub plain : Plain
  pub stands : (runs events (record { board = board; promise = None })).promise ≡ Some plain
  pub limit : ℕ
  pub some_limit : 1 ≤ limit
  pub some_clean : 1 ≤ clean_in (table_of (runs events (record { board = board; promise = None })).board)
  pub registers : List ℕ
  pub finish : List Asked
  pub between : AllBetween finish
  pub p₁ : ℕ
  pub p₂ : ℕ
  pub done : AllDone (runs events (record { board = board; promise = None })).board (asks p₁ (sweep limit) ∷ asks p₂ (begin registers) ∷ finish) after

-- every store in range is accepted then, from a supply of 8 words
unfoldable pub RoomAgain : Type 0
RoomAgain =
    (after : Board)
    → RoomMade after
    → (q block offset : ℕ) (bytes : List ℕ)
    → block < (sizes after).blocks
    → offset ≤ 63
    → length bytes ≢ 0
    → offset + length bytes ≤ 64
    → 8 ≤ q
    → number_of (call q after (store block offset bytes)).number ≡ 0
