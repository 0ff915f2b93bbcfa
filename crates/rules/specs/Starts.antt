-- Format and recovery, and what of a memory a recovery reads (document 01, Checkpoints).
use Rattle.std.specs.Prelude.{◌≡◌, Bool, true, false, not, ◌&&◌, ◌||◌, cond, List, [], ◌∷◌, ◌++◌, ℕ, zero, suc, ◌+◌, ◌*◌, eqb, ltb, leb, replicate, Option, Some, None}
use Rattle.words.specs.Words.{Store, word, words, number, numbers, fill_to, numbers_to}
use Rattle.rules.specs.declared.Geometry.{Geometry}
use Rattle.rules.specs.declared.Backup.{Backup}
use Rattle.rules.specs.declared.Backup.TheVariants.{A, B}
use Rattle.rules.specs.declared.Phase.TheVariants.{Running}
use Rattle.rules.specs.declared.State.{State}
use Rattle.rules.specs.declared.State.TheVariants.{Clean, Dirty, Hidden, PreHidden, PreDirty}
use Rattle.rules.specs.declared.Entry.{Entry}
use Rattle.rules.specs.declared.Number.{Number}
use Rattle.rules.specs.declared.Number.TheVariants as No
use Rattle.rules.specs.declared.Registers.{Registers}
use Rattle.rules.specs.declared.Registers.TheVariants.{Saved, Absent}
use Rattle.rules.specs.declared.Recovery.{Recovery}
use Rattle.rules.specs.Geometry.{home_start, home_words, backup_start, backup_words, mark_start, home_block, checkpoint_block}
use Rattle.rules.specs.TableWords.{lookup, distinct, every}
use Rattle.rules.specs.Board.{Board, Volatile, cache_of, board_of}
use Rattle.rules.specs.Numbers.{Check, ◌⇒◌, first_of, outside, inexact, well_formed}
use Rattle.rules.specs.Power.{Plan, refuse, carry, guard, Outcome}

-- ---- format: mark 0; HOME all fill; A's registers 0; A's table 0; mark 3 (document 02, No. 2)

-- the last word: A is finished and has no registers
abbrev pub format_mark : ℕ
format_mark = 3

unfoldable pub format_list : Geometry → ℕ → List Store
unfolding fill_to numbers_to
format_list g fill =
    numbers_to (mark_start g) (0 ∷ [])
    ++ (fill_to (home_start g) (home_words g) fill ++ (fill_to (backup_start g A) (backup_words g) 0 ++ numbers_to (mark_start g) (format_mark ∷ [])))

unfoldable pub format_number : Board → Geometry → Number
unfolding first_of outside inexact
format_number board g = first_of ((outside g ⇒ No.Geometry) ∷ (inexact g board ⇒ No.Buffer) ∷ [])

-- the table is then all 0; the record holds the sizes given, registers 0, A finished, Running; CACHE is untouched
abbrev pub formatted_side : Board → Geometry → Volatile
formatted_side board g = record {
  cache = cache_of board;
  table = replicate g.slots 0;
  controller = record { geometry = g; registers = replicate 64 0; finished = A; phase = Running };
}

unfoldable pub format_plan : Board → Geometry → ℕ → Plan
unfolding guard format_number format_list
format_plan board g fill = guard (format_number board g) (carry (format_list g fill) (formatted_side board g) [])

-- ---- what a recovery reads

-- the mark: 1 = A is finished, 2 = B is finished, 3 = A is finished and has no registers, all else = none;
-- it is compared as a whole 64-bit word
unfoldable pub finished_by : ℕ → Option Backup
finished_by mark = cond (eqb mark 1) (Some A) (cond (eqb mark 2) (Some B) (cond (eqb mark 3) (Some A) None))

unfoldable pub has_registers : ℕ → Bool
has_registers mark = not (eqb mark 3)

abbrev pub mark_in : Geometry → List ℕ → ℕ
mark_in g memory = number (word memory (mark_start g))

unfoldable pub finished_in : Geometry → List ℕ → Option Backup
unfolding finished_by number word
finished_in g memory = finished_by (mark_in g memory)

unfoldable pub registers_in : Geometry → List ℕ → Backup → List ℕ
unfolding words
registers_in g memory backup = words memory (backup_start g backup) 8

-- the registers of the finished backup, or their absence
unfoldable pub saved_registers : Geometry → List ℕ → Backup → Option (List ℕ)
unfolding has_registers number word registers_in
saved_registers g memory backup = cond (has_registers (mark_in g memory)) (Some (registers_in g memory backup)) None

unfoldable pub table_in : Geometry → List ℕ → Backup → List ℕ
unfolding numbers
table_in g memory backup = numbers memory (backup_start g backup + 8) g.slots

-- a backup's table is sound: every word 0, or clean with block < N, and no block twice
unfoldable pub only_clean : State → Bool
only_clean Clean = true
only_clean Dirty = false
only_clean Hidden = false
only_clean PreHidden = false
only_clean PreDirty = false

unfoldable pub sound : Geometry → List ℕ → Bool
unfolding well_formed only_clean every distinct
sound g table = every (well_formed only_clean g) table && distinct table

-- 10 NO CHECKPOINT: a mark other than 1, 2 or 3
unfoldable pub no_checkpoint : Option Backup → Bool
no_checkpoint None = true
no_checkpoint (Some backup) = false

-- 11 BACKUP: the finished table isn't sound
unfoldable pub unsound : Geometry → List ℕ → Option Backup → Bool
unfolding sound table_in
unsound g memory None = false
unsound g memory (Some backup) = not (sound g (table_in g memory backup))

-- ---- recovery

-- that the board recovers, its sizes and lengths passed
abbrev pub recovery_checks : Board → Geometry → Option Backup → List Check
recovery_checks board g finished = (no_checkpoint finished ⇒ No.NoCheckpoint) ∷ (unsound g board.memory finished ⇒ No.Backup) ∷ []

unfoldable pub recover_number : Board → Geometry → Option Backup → Number
unfolding first_of outside inexact no_checkpoint unsound
recover_number board g finished = first_of ((outside g ⇒ No.Geometry) ∷ (inexact g board ⇒ No.Buffer) ∷ recovery_checks board g finished)

-- where there are no registers none are handed out, and the record's are 0
unfoldable pub handed_out : Option (List ℕ) → List ℕ
handed_out None = []
handed_out (Some registers) = registers

unfoldable pub recorded : Option (List ℕ) → List ℕ
recorded None = replicate 64 0
recorded (Some registers) = registers

unfoldable pub recover_from : Board → Geometry → Option Backup → Plan
unfolding saved_registers table_in handed_out recorded
recover_from board g None = refuse No.NoCheckpoint
recover_from board g (Some backup) =
    let registers = saved_registers g board.memory backup in
    carry []
    (record {
      cache = cache_of board;
      table = table_in g board.memory backup;
      controller = record { geometry = g; registers = recorded registers; finished = backup; phase = Running };
    })
    (handed_out registers)

unfoldable pub recover_plan : Board → Geometry → Plan
unfolding guard recover_number recover_from finished_in
recover_plan board g =
    let finished = finished_in g board.memory in
    guard (recover_number board g finished) (recover_from board g finished)

-- what the bytes handed out say of the registers: these ones, or that there are none
unfoldable pub registers_given : List ℕ → Option (List ℕ)
registers_given [] = None
registers_given (byte ∷ bytes) = Some (byte ∷ bytes)

-- registers or none as a value, by what an answer says of them and the record's bytes
abbrev pub registers_of : Registers → List ℕ → Option (List ℕ)
registers_of Saved bytes = Some bytes
registers_of Absent bytes = None

-- a recovery answers r and leaves these bytes: what it says is the outcome's, all of it
pub record Recovered (outcome : Outcome) (r : Recovery) (memory cache table : List ℕ) : Type 0 where
  pub number : r.answer.number ≡ outcome.number
  pub words : r.answer.words ≡ outcome.words
  pub registers : registers_of r.registers r.answer.controller.registers ≡ registers_given outcome.gives
  pub board : board_of memory cache table r.answer.controller ≡ outcome.board

-- ---- the place where a block is saved, by the words of a backup's table

unfoldable pub saved_by : Geometry → ℕ → Option Entry → ℕ
saved_by g block None = home_block g block
saved_by g block (Some entry) = checkpoint_block g entry.slot

unfoldable pub saved_block : Geometry → List ℕ → ℕ → ℕ
unfolding saved_by lookup
saved_block g table block = saved_by g block (lookup block table)

-- ---- the protected words of a memory: the mark, the finished backup, and the saved place of every block

unfoldable pub within : ℕ → ℕ → ℕ → Bool
within start count place = leb start place && ltb place (start + count)

unfoldable pub saves_block : Geometry → List ℕ → ℕ → ℕ → Bool
unfolding saved_block within
saves_block g table zero place = false
saves_block g table (suc block) place = within (8 * saved_block g table block) 8 place || saves_block g table block place

unfoldable pub protected_by : Geometry → List ℕ → Option Backup → ℕ → Bool
unfolding within saves_block table_in
protected_by g memory None place = eqb place (mark_start g)
protected_by g memory (Some backup) place =
    eqb place (mark_start g)
    || within (backup_start g backup) (backup_words g) place
    || saves_block g (table_in g memory backup) g.blocks place

unfoldable pub is_protected : Geometry → List ℕ → ℕ → Bool
unfolding protected_by finished_in
is_protected g memory place = protected_by g memory (finished_in g memory) place
