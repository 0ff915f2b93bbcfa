-- The start and the size of each part of the memory, in words (document 01, What the board is).
use Rattle.std.specs.Prelude.{ℕ, ◌+◌, ◌*◌}
use Rattle.rules.specs.declared.Geometry.{Geometry}
use Rattle.rules.specs.declared.Backup.{Backup}
use Rattle.rules.specs.declared.Backup.TheVariants.{A, B}

-- HOME
abbrev pub home_start : Geometry → ℕ
home_start g = 0

abbrev pub home_words : Geometry → ℕ
home_words g = 8 * g.blocks

-- CHECKPOINT
abbrev pub checkpoint_start : Geometry → ℕ
checkpoint_start g = home_start g + home_words g

abbrev pub checkpoint_words : Geometry → ℕ
checkpoint_words g = 8 * g.slots

-- Backup A and backup B
abbrev pub backup_words : Geometry → ℕ
backup_words g = 8 + g.slots

abbrev pub backup_start : Geometry → Backup → ℕ
backup_start g A = checkpoint_start g + checkpoint_words g
backup_start g B = checkpoint_start g + checkpoint_words g + backup_words g

-- the mark
abbrev pub mark_start : Geometry → ℕ
mark_start g = backup_start g B + backup_words g

-- the whole memory
abbrev pub memory_words : Geometry → ℕ
memory_words g = 8 * g.blocks + 10 * g.slots + 17

-- the same in blocks: block k of HOME and block i of CHECKPOINT, counted from the start of the memory
abbrev pub home_block : Geometry → ℕ → ℕ
home_block g k = k

abbrev pub checkpoint_block : Geometry → ℕ → ℕ
checkpoint_block g i = g.blocks + i
