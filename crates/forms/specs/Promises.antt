-- What is promised of the new stored form (document 02, No. 6).
-- Their proofs are in proofs/HeaderBytes.antt, Fitting.antt, Moves.antt, Ending.antt, Lists.antt, CutFormats.antt, Demand2.antt and Demand3.antt.
use Rattle.std.specs.Prelude.{◌≡◌, ◌≢◌, ◌↔◌, ◌⊎◌, List, [], ℕ, ◌+◌, ◌*◌, ◌≤◌, ◌<◌, length, replicate, None, Some}
use Rattle.words.specs.Words.{word, words}
use Rattle.rules.specs.declared.Geometry.{Geometry}
use Rattle.rules.specs.declared.Phase.TheVariants.{Off}
use Rattle.rules.specs.Board.{Board, Volatile, sizes, phase_of, cache_of, table_of}
use Rattle.rules.specs.Numbers.{number_of}
use Rattle.rules.specs.Power.{switched_off}
use Rattle.rules.specs.Calls as Old
use Rattle.rules.specs.PlainMachine.{Picture, Plain, formatted}
use Rattle.rules.specs.Runs.{Run, Lengths}
use Rattle.rules.specs.Promises.{Shows, Recovers, RecoversTo}
use Rattle.forms.specs.Stored.{header_bytes, header_start, zero_word, without, last_two, old_board}
use Rattle.forms.specs.Calls.{long_format_list, Call, format, recover, up, back, call}
use Rattle.forms.specs.Runs.{shortened, Event, runs, NoFormat, FromFormat, run_from, noted}

-- ---- boards fitted in the wrong panel

-- sizes of two bytes each, as the header's fields are
pub record TwoBytes (g : Geometry) : Type 0 where
  pub blocks : g.blocks < 65536
  pub slots : g.slots < 65536

-- no two sizes have one header
unfoldable pub OneHeader : Type 0
OneHeader = (g h : Geometry) → TwoBytes g → TwoBytes h → header_bytes g ≡ header_bytes h → g ≡ h

-- the calls that read the header, given the sizes h
pub data Reads (h : Geometry) : Call → Type 0 where
  recovers : Reads h (recover h)
  moves_up : Reads h (up h)
  moves_back : Reads h (back h)

-- a memory that ends in the header of g, whatever else it holds: given other sizes these calls are refused
unfoldable pub OnlyItsPanel : Type 0
OnlyItsPanel =
    (p : ℕ) (board : Board) (g h : Geometry) (c : Call)
    → TwoBytes g
    → last_two board.memory ≡ header_bytes g
    → h ≢ g
    → Reads h c
    → let n = number_of (call p board c).number in
    (n ≡ 1) ⊎ ((n ≡ 2) ⊎ (n ≡ 14))

-- sizes and lengths passed: 13 where the first word is zero, 14 where it isn't and the header is unlike the sizes, before any other number
unfoldable pub HeaderNumbers : Type 0
HeaderNumbers =
    (p : ℕ) (board : Board) (g : Geometry)
    → number_of (call p board (format g 0)).number ≢ 1
    → number_of (call p board (format g 0)).number ≢ 2
    → (word board.memory (header_start g) ≡ zero_word
    → (number_of (call p board (recover g)).number ≡ 13) × (number_of (call p board (back g)).number ≡ 13))
    × (word board.memory (header_start g) ≢ zero_word
    → words board.memory (header_start g) 2 ≢ header_bytes g
    → (c : Call)
    → Reads g c
    → number_of (call p board c).number ≡ 14)

-- a recovery is accepted exactly where the header fits and the old form's recovery is accepted, and then it is that recovery
unfoldable pub RecoversExactly : Type 0
RecoversExactly =
    (p : ℕ) (board : Board) (g : Geometry)
    → ((number_of (call p board (recover g)).number ≡ 0)
    ↔ ((words board.memory (header_start g) 2 ≡ header_bytes g) × (number_of (Old.call p (old_board board) (Old.recover g)).number ≡ 0)))
    × (number_of (call p board (recover g)).number ≡ 0 → shortened (call p board (recover g)) ≡ Old.call p (old_board board) (Old.recover g))

-- ---- refusals

-- a call of either form that is neither accepted nor cut changes no byte, stores no word and hands out nothing
unfoldable pub RefusedKeeps : Type 0
RefusedKeeps =
    (p : ℕ) (board : Board) (c : Call)
    → number_of (call p board c).number ≢ 0
    → number_of (call p board c).number ≢ 20
    → ((call p board c).board ≡ board) × ((call p board c).words ≡ 0) × ((call p board c).gives ≡ [])

-- ---- demand 3 in both forms

-- a memory recovers to a picture by the old form's recovery, and by the new form's too whenever the first word isn't zero
pub record RecoversInBoth (g : Geometry) (picture : Picture) (memory : List ℕ) : Type 0 where
  pub old_form : RecoversTo g picture (without memory)
  pub new_form :
      word memory (header_start g) ≢ zero_word → (volatile : Volatile) → Lengths g volatile → (p : ℕ)
      → Recovers g picture (shortened (call p (record { memory = memory; volatile = volatile }) (recover g)))

-- a run whose board recovers to what is kept, in both forms: now, and after any prefix of the word list of any further call but a format
pub record SafeInBoth (g : Geometry) (run : Run) : Type 0 where
  pub plain : Plain
  pub stands : run.promise ≡ Some plain
  -- its live blocks, of which a begin takes the picture, are what loads give
  pub shows : Shows (old_board run.board) plain
  pub now : RecoversInBoth g plain.kept run.board.memory
  -- a recovery without a loss of supply goes back too
  pub without_loss : (p : ℕ) → Recovers g plain.kept (Old.call p (old_board run.board) (Old.recover g))
  pub without_loss_new :
      word run.board.memory (header_start g) ≢ zero_word → (p : ℕ) → Recovers g plain.kept (shortened (call p run.board (recover g)))
  pub inside :
      (c : Call) → NoFormat c → (p : ℕ) → RecoversInBoth g (noted p run.board plain c).kept (call p run.board c).board.memory

-- one format of either form, then any calls but a format, moves among them, and any losses
unfoldable pub Demand3 : Type 0
Demand3 = (g : Geometry) (from : FromFormat g) → SafeInBoth g (run_from from)

-- ---- demand 2 in both forms

-- any events at all, on any board at all that has two words to spare: wherever an accepted format or recovery of either form stands behind the board, loads give what it must give
unfoldable pub Demand2 : Type 0
Demand2 =
    (board : Board) (events : List Event) (plain : Plain)
    → 16 ≤ length board.memory
    → (runs events (record { board = board; promise = None })).promise ≡ Some plain
    → Shows (old_board (runs events (record { board = board; promise = None })).board) plain

-- ---- moves

pub data IsMove (g : Geometry) : Call → Type 0 where
  is_up : IsMove g (up g)
  is_back : IsMove g (back g)

-- any board at all: a move that isn't refused leaves, cut anywhere, a board that recovers to the same image
pub record SameImage (g : Geometry) (memory memory' : List ℕ) : Type 0 where
  pub picture : Picture
  pub before : RecoversInBoth g picture memory
  pub after : RecoversInBoth g picture memory'
  -- no word but those two is touched
  pub same : without memory' ≡ without memory

unfoldable pub MovesKeep : Type 0
MovesKeep =
    (p : ℕ) (board : Board) (g : Geometry) (c : Call)
    → IsMove g c
    → (number_of (call p board c).number ≡ 0) ⊎ (number_of (call p board c).number ≡ 20)
    → SameImage g board.memory (call p board c).board.memory

-- only a cut changes the record, to Off
unfoldable pub OnlyACut : Type 0
OnlyACut =
    (p : ℕ) (board : Board) (g : Geometry) (c : Call)
    → IsMove g c
    → (number_of (call p board c).number ≢ 20 → (call p board c).board.volatile ≡ board.volatile)
    × (number_of (call p board c).number ≡ 20 → (call p board c).board.volatile ≡ switched_off board board.volatile)

-- moving up a board whose header already fits stores 0 words, under an allowance of 0 too
unfoldable pub UpAgain : Type 0
UpAgain =
    (p : ℕ) (board : Board) (g : Geometry)
    → words board.memory (header_start g) 2 ≡ header_bytes g
    → ((call p board (up g)).board ≡ board) × ((call p board (up g)).words ≡ 0) × (number_of (call p board (up g)).number ≢ 20)

-- moving up and back gives the old bytes when the two words were zero before
unfoldable pub UpAndBack : Type 0
UpAndBack =
    (p q : ℕ) (board : Board) (g : Geometry)
    → words board.memory (header_start g) 2 ≡ replicate 16 0
    → number_of (call p board (up g)).number ≡ 0
    → 2 ≤ q
    → let there = (call p board (up g)).board in
    (number_of (call q there (back g)).number ≡ 0) × ((call q there (back g)).board ≡ board)

-- ---- what an accepted call leaves of the two words

-- a format and a move up end with the header of the sizes given, so that the new form's recovery is theirs from then on; a move back with zeros
unfoldable pub HeaderAfter : Type 0
HeaderAfter =
    (p : ℕ) (board : Board) (g : Geometry)
    → ((fill : ℕ)
    → number_of (call p board (format g fill)).number ≡ 0
    → words (call p board (format g fill)).board.memory (header_start g) 2 ≡ header_bytes g)
    × (number_of (call p board (up g)).number ≡ 0 → words (call p board (up g)).board.memory (header_start g) 2 ≡ header_bytes g)
    × (number_of (call p board (back g)).number ≡ 0 → words (call p board (back g)).board.memory (header_start g) 2 ≡ replicate 16 0)

-- ---- a format

-- 8N + B + 13 words
unfoldable pub FormatWords : Type 0
FormatWords = (g : Geometry) (fill : ℕ) → length (long_format_list g fill) ≡ 8 * g.blocks + g.slots + 13

-- whatever the volatile memory holds, a recovery answers this number
unfoldable pub OldAnswers : Geometry → List ℕ → ℕ → Type 0
OldAnswers g memory n =
    (volatile : Volatile) → Lengths g volatile → (p : ℕ)
    → number_of (Old.call p (record { memory = without memory; volatile = volatile }) (Old.recover g)).number ≡ n

unfoldable pub NewAnswers : Geometry → List ℕ → ℕ → Type 0
NewAnswers g memory n =
    (volatile : Volatile) → Lengths g volatile → (p : ℕ)
    → number_of (call p (record { memory = memory; volatile = volatile }) (recover g)).number ≡ n

-- what a format of the new form leaves that is cut after p words
pub record CutAfter (p : ℕ) (g : Geometry) (fill : ℕ) (before after : Board) : Type 0 where
  -- the old board
  pub at_0 : p ≡ 0 → after.memory ≡ before.memory
  -- the old board in the old form
  pub at_1 : p ≡ 1 → without after.memory ≡ without before.memory
  -- none until the mark
  pub until_mark : 2 ≤ p → p < 8 * g.blocks + g.slots + 11 → OldAnswers g after.memory 10
  -- the new board in the old form
  pub from_mark : 8 * g.blocks + g.slots + 11 ≤ p → RecoversTo g (formatted fill).kept (without after.memory)
  -- 13 NO HEADER in the new form
  pub no_header : 1 ≤ p → NewAnswers g after.memory 13
  -- the record is Off and has the new sizes; CACHE and table are as they were
  pub off : phase_of after ≡ Off
  pub new_sizes : sizes after ≡ g
  pub cache : cache_of after ≡ cache_of before
  pub table : table_of after ≡ table_of before

unfoldable pub CutFormat : Type 0
CutFormat =
    (p : ℕ) (board : Board) (g : Geometry) (fill : ℕ)
    → number_of (call p board (format g fill)).number ≡ 20
    → CutAfter p g fill board (call p board (format g fill)).board
