-- Sweeps: clean entries treated as stores of their unchanged bytes, so that their slots come free at the next begin (document 02, No. 7).
use Rattle.std.specs.Prelude.{false, List, [], ◌∷◌, ◌++◌, ℕ, suc, ◌*◌, take, set}
use Rattle.words.specs.Words.{Store, block_at, bytes_to}
use Rattle.rules.specs.declared.Geometry.{Geometry}
use Rattle.rules.specs.declared.State.TheVariants.{Clean, Dirty, Hidden, PreHidden, PreDirty}
use Rattle.rules.specs.declared.Number.{Number}
use Rattle.rules.specs.declared.Number.TheVariants as No
use Rattle.rules.specs.Geometry.{home_block, checkpoint_block}
use Rattle.rules.specs.TableWords.{word_of, Says, free, names, neither, says}
use Rattle.rules.specs.Board.{Board, sizes, phase_of, cache_of, table_of}
use Rattle.rules.specs.Numbers.{◌⇒◌, first_of, common_checks, is_writing}
use Rattle.rules.specs.Power.{Plan, carry, guard}

-- ---- the lowest clean entries

-- a clean entry: its slot, and the block that it names
pub record CleanEntry : Type 0 where
  pub slot : ℕ
  pub block : ℕ

-- the entry of a slot, if it is clean, before those of the slots above
unfoldable pub clean_by : ℕ → Says → List CleanEntry → List CleanEntry
clean_by slot free above = above
clean_by slot (names block Clean) above = record { slot = slot; block = block } ∷ above
clean_by slot (names block Dirty) above = above
clean_by slot (names block Hidden) above = above
clean_by slot (names block PreHidden) above = above
clean_by slot (names block PreDirty) above = above
clean_by slot neither above = above

-- the clean entries of the slots from `slot` on, in ascending order
unfoldable pub clean_from : ℕ → List ℕ → List CleanEntry
unfolding clean_by says
clean_from slot [] = []
clean_from slot (word ∷ table) = clean_by slot (says word) (clean_from (suc slot) table)

-- the lowest of them, at most `limit`
unfoldable pub lowest_clean : ℕ → List ℕ → List CleanEntry
unfolding clean_from
lowest_clean limit table = take limit (clean_from 0 table)

-- ---- each as a store of its unchanged bytes: the row 'clean' of the table of stores, while Running

-- 8 words each, from CHECKPOINT of the slot to HOME of the block
unfoldable pub home_copies : Geometry → List ℕ → List CleanEntry → List Store
unfolding bytes_to block_at
home_copies g memory [] = []
home_copies g memory (entry ∷ entries) =
    bytes_to (8 * home_block g entry.block) 8 (block_at memory (checkpoint_block g entry.slot)) ++ home_copies g memory entries

-- the entries become hidden: free at once, their slots would lose the finished copies
unfoldable pub hidden : List CleanEntry → List ℕ → List ℕ
unfolding word_of
hidden [] table = table
hidden (entry ∷ entries) table = hidden entries (set table entry.slot (word_of entry.block Hidden))

-- ---- the plan

-- BUSY while Writing
unfoldable pub sweep_number : Board → Number
unfolding first_of common_checks
sweep_number board = first_of (common_checks board false ++ (is_writing (phase_of board) ⇒ No.Busy) ∷ [])

unfoldable pub sweep_plan : Board → ℕ → Plan
unfolding guard sweep_number home_copies hidden lowest_clean
sweep_plan board limit =
    let entries = lowest_clean limit (table_of board) in
    guard (sweep_number board)
    (carry (home_copies (sizes board) board.memory entries)
    (record { cache = cache_of board; table = hidden entries (table_of board); controller = board.volatile.controller })
    [])
