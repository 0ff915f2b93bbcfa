-- The numbers returned, and when each is (document 01, Numbers returned; What the board is).
use Rattle.std.specs.Prelude.{Bool, true, false, not, ◌&&◌, ◌||◌, cond, List, [], ◌∷◌, ℕ, ◌+◌, ◌*◌, eqb, ltb, leb, length}
use Rattle.rules.specs.declared.Geometry.{Geometry}
use Rattle.rules.specs.declared.Phase.{Phase}
use Rattle.rules.specs.declared.Phase.TheVariants.{Running, Writing, Off}
use Rattle.rules.specs.declared.State.{State}
use Rattle.rules.specs.declared.State.TheVariants.{Clean, Dirty, Hidden, PreHidden, PreDirty}
use Rattle.rules.specs.declared.Number.{Number}
use Rattle.rules.specs.declared.Number.TheVariants as No
use Rattle.rules.specs.Geometry.{memory_words}
use Rattle.rules.specs.TableWords.{Says, free, names, neither, says, every}
use Rattle.rules.specs.Board.{Board, sizes, phase_of, cache_of, table_of}

-- the paper's number for each case of the enum; 13 and 14 are those of the new stored form (document 02, No. 6)
unfoldable pub number_of : Number → ℕ
number_of No.Done = 0
number_of No.Geometry = 1
number_of No.Buffer = 2
number_of No.Record = 3
number_of No.Off = 4
number_of No.Table = 5
number_of No.Range = 6
number_of No.Full = 7
number_of No.Busy = 8
number_of No.Idle = 9
number_of No.NoCheckpoint = 10
number_of No.Backup = 11
number_of No.NoHeader = 13
number_of No.WrongBoard = 14
number_of No.Cut = 20

-- a check: where its condition holds, its number
pub data Check : Type 0 where
  ◌⇒◌ : Bool → Number → Check

infix 20 ◌⇒◌
-- the first that applies, else DONE
unfoldable pub first_of : List Check → Number
first_of [] = No.Done
first_of ((applies ⇒ n) ∷ checks) = cond applies n (first_of checks)

-- ---- 1 GEOMETRY: sizes outside the bounds

unfoldable pub outside : Geometry → Bool
outside g = not (leb 1 g.blocks && leb g.blocks 4096 && leb 1 g.slots && leb g.slots 512)

-- ---- 2 BUFFER: a lent length isn't exact

unfoldable pub inexact : Geometry → Board → Bool
inexact g board =
    not (eqb (length board.memory) (8 * memory_words g) && eqb (length (cache_of board)) (64 * g.slots) && eqb (length (table_of board)) g.slots)

-- ---- 3 RECORD: Writing with count above B + 8

unfoldable pub over_count : Geometry → Phase → Bool
over_count g Running = false
over_count g (Writing count) = ltb (g.slots + 8) count
over_count g Off = false

-- ---- 4 OFF: phase Off

abbrev pub is_off : Phase → Bool
is_off Running = false
is_off (Writing count) = false
is_off Off = true

-- ---- 5 TABLE: some table word not well formed

-- Writing allows 1, 4 and 5
unfoldable pub while_writing : State → Bool
while_writing Clean = true
while_writing Dirty = false
while_writing Hidden = false
while_writing PreHidden = true
while_writing PreDirty = true

-- Running allows 1 to 5; Off is never asked, since OFF comes first
unfoldable pub allows : Phase → State → Bool
unfolding while_writing
allows Running = λ state. true
allows (Writing count) = while_writing
allows Off = λ state. true

unfoldable pub well_said : (State → Bool) → Geometry → Says → Bool
well_said allowed g free = true
well_said allowed g (names block state) = ltb block g.blocks && allowed state
well_said allowed g neither = false

unfoldable pub well_formed : (State → Bool) → Geometry → ℕ → Bool
unfolding well_said says
well_formed allowed g word = well_said allowed g (says word)

unfoldable pub malformed : Board → Bool
unfolding well_formed every allows
malformed board = not (every (well_formed (allows (phase_of board)) (sizes board)) (table_of board))

-- ---- the checks 1 to 5 of load, peek, store, begin and step; `unfit` tells whether begin's registers aren't 64 bytes

unfoldable pub common_checks : Board → Bool → List Check
unfolding outside inexact over_count malformed
common_checks board unfit =
    (outside (sizes board) ⇒ No.Geometry)
    ∷ (inexact (sizes board) board || unfit ⇒ No.Buffer)
    ∷ (over_count (sizes board) (phase_of board) ⇒ No.Record)
    ∷ (is_off (phase_of board) ⇒ No.Off)
    ∷ (malformed board ⇒ No.Table)
    ∷ []

-- ---- 6 RANGE

-- block >= N
unfoldable pub no_block : Board → ℕ → Bool
no_block board block = leb (sizes board).blocks block

-- block >= N, offset > 63, length 0, or offset + length > 64
unfoldable pub out_of_range : Board → ℕ → ℕ → ℕ → Bool
unfolding no_block
out_of_range board block offset len = no_block board block || ltb 63 offset || eqb len 0 || ltb 64 (offset + len)

-- ---- 8 BUSY and 9 IDLE

abbrev pub is_writing : Phase → Bool
is_writing Running = false
is_writing (Writing count) = true
is_writing Off = false

abbrev pub is_running : Phase → Bool
is_running Running = true
is_running (Writing count) = false
is_running Off = false
