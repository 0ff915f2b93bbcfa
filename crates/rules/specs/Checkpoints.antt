-- Begin and step: what a checkpoint copies, saves and stores (document 01, Checkpoints).
use Rattle.std.specs.Prelude.{false, not, cond, List, [], ◌∷◌, ◌++◌, map, ℕ, suc, ◌+◌, ◌*◌, eqb, length, take, drop, Option, None, Some}
use Rattle.words.specs.Words.{Store, block_at, bytes_to, numbers_to}
use Rattle.rules.specs.declared.Geometry.{Geometry}
use Rattle.rules.specs.declared.Backup.{Backup}
use Rattle.rules.specs.declared.Backup.TheVariants.{A, B}
use Rattle.rules.specs.declared.Phase.{Phase}
use Rattle.rules.specs.declared.Phase.TheVariants.{Running, Writing, Off}
use Rattle.rules.specs.declared.State.{State}
use Rattle.rules.specs.declared.State.TheVariants.{Clean, Dirty, Hidden, PreHidden, PreDirty}
use Rattle.rules.specs.declared.Number.{Number}
use Rattle.rules.specs.declared.Number.TheVariants as No
use Rattle.rules.specs.Geometry.{home_block, checkpoint_block, backup_start, mark_start}
use Rattle.rules.specs.TableWords.{Says, free, names, neither, says, changed}
use Rattle.rules.specs.Board.{Board, sizes, phase_of, cache_of, table_of}
use Rattle.rules.specs.Numbers.{◌⇒◌, first_of, common_checks, is_writing, is_running}
use Rattle.rules.specs.Power.{Plan, carry, guard}

-- ---- begin

-- the block of the memory to which begin copies the CACHE block of a slot: pre-hidden to HOME, pre-dirty to CHECKPOINT
unfoldable pub copied_to : Geometry → ℕ → Says → Option ℕ
copied_to g slot free = None
copied_to g slot (names block Clean) = None
copied_to g slot (names block Dirty) = None
copied_to g slot (names block Hidden) = None
copied_to g slot (names block PreHidden) = Some (home_block g block)
copied_to g slot (names block PreDirty) = Some (checkpoint_block g slot)
copied_to g slot neither = None

unfoldable pub copy_of : List ℕ → ℕ → Option ℕ → List Store
unfolding bytes_to block_at
copy_of cache slot None = []
copy_of cache slot (Some q) = bytes_to (8 * q) 8 (block_at cache slot)

-- the copies of the slots from `slot` on, in ascending order
unfoldable pub copies : Geometry → List ℕ → ℕ → List ℕ → List Store
unfolding copied_to copy_of says
copies g cache slot [] = []
copies g cache slot (word ∷ table) = copy_of cache slot (copied_to g slot (says word)) ++ copies g cache (suc slot) table

-- pre-dirty and dirty become clean, pre-hidden and hidden become free
unfoldable pub begun : State → Option State
begun Clean = Some Clean
begun Dirty = Some Clean
begun Hidden = None
begun PreHidden = None
begun PreDirty = Some Clean

unfoldable pub begin_number : Board → List ℕ → Number
unfolding first_of common_checks
begin_number board registers =
    first_of (common_checks board (not (eqb (length registers) 64)) ++ (is_writing (phase_of board) ⇒ No.Busy) ∷ [])

unfoldable pub begin_plan : Board → List ℕ → Plan
unfolding guard begin_number copies begun changed
begin_plan board registers =
    guard (begin_number board registers)
    (carry (copies (sizes board) (cache_of board) 0 (table_of board))
    (record {
      cache = cache_of board;
      table = map (changed begun) (table_of board);
      controller = record {
        geometry = sizes board;
        registers = registers;
        finished = board.volatile.controller.finished;
        phase = Writing 0;
      };
    })
    [])

-- ---- step

-- a backup table word is 256 x block + 1 for clean and pre-hidden, else 0
unfoldable pub saved : State → Option State
saved Clean = Some Clean
saved Dirty = None
saved Hidden = None
saved PreHidden = Some Clean
saved PreDirty = None

-- the backup that isn't finished
abbrev pub other : Backup → Backup
other A = B
other B = A

-- the mark that a checkpoint ends with: 1 = A is finished, 2 = B is finished (3 is a format's: Starts)
abbrev pub mark_of : Backup → ℕ
mark_of A = 1
mark_of B = 2

-- the B + 9 words of a checkpoint: the 8 registers, the B table words, the mark
unfoldable pub checkpoint_list : Geometry → Backup → List ℕ → List ℕ → List Store
unfolding bytes_to numbers_to
checkpoint_list g backup registers table =
    (bytes_to (backup_start g backup) 8 registers ++ numbers_to (backup_start g backup + 8) table) ++ numbers_to (mark_start g) (mark_of backup ∷ [])

-- the words already stored
unfoldable pub count_of : Phase → ℕ
count_of Running = 0
count_of (Writing count) = count
count_of Off = 0

unfoldable pub step_number : Board → Number
unfolding first_of common_checks
step_number board = first_of (common_checks board false ++ (is_running (phase_of board) ⇒ No.Idle) ∷ [])

-- the next words, at most n
unfoldable pub next_words : Board → ℕ → List Store
unfolding checkpoint_list count_of saved changed
next_words board n =
    take n
    (drop (count_of (phase_of board))
    (checkpoint_list (sizes board) (other board.volatile.controller.finished) board.volatile.controller.registers
    (map (changed saved) (table_of board))))

unfoldable pub step_plan : Board → ℕ → Plan
unfolding guard step_number next_words count_of
step_plan board n =
    let finished = board.volatile.controller.finished in
    let count = count_of (phase_of board) + length (next_words board n) in
    let marked = eqb count ((sizes board).slots + 9) in
    guard (step_number board)
    (carry (next_words board n)
    (record {
      cache = cache_of board;
      table = table_of board;
      controller = record {
        geometry = sizes board;
        registers = board.volatile.controller.registers;
        finished = cond marked (other finished) finished;
        phase = cond marked Running (Writing count);
      };
    })
    [])
