-- The board for a C host: what each call is lent, and all that it leaves (document 02, No. 4).
use Rattle.std.specs.Prelude.{Bool, not, ◌&&◌, cond, List, [], ℕ, ◌*◌, eqb, length}
use Rattle.words.specs.Words.{number_bytes}
use Rattle.rules.specs.declared.Geometry.{Geometry}
use Rattle.rules.specs.declared.Controller.{Controller}
use Rattle.rules.specs.declared.Number.TheVariants as No
use Rattle.rules.specs.Geometry.{memory_words}
use Rattle.rules.specs.Board.{Board, board_of, cache_of, table_of}
use Rattle.rules.specs.Numbers.{number_of, outside}
use Rattle.rules.specs.Power.{Outcome}
use Rattle.rules.specs.Calls as C
use Rattle.codec.specs.Encoding.{encoded}
use Rattle.codec.specs.Supposed.{supposed, is_record}
use Rattle.tabled.specs.Tabled.{table_words, changes}

-- ---- what is lent, and what is left

pub record Lent : Type 0 where
  pub memory : List ℕ
  pub cache : List ℕ
  -- the table as little-endian words
  pub table_bytes : List ℕ
  -- the record as 90 bytes of house fields
  pub record_bytes : List ℕ

abbrev pub lent_of : List ℕ → List ℕ → List ℕ → List ℕ → Lent
lent_of memory cache table_bytes record_bytes = record { memory = memory; cache = cache; table_bytes = table_bytes; record_bytes = record_bytes }

-- the number, the words stored, the bytes handed out, and every byte that was lent
pub record Left : Type 0 where
  pub number : ℕ
  pub words : ℕ
  pub gives : List ℕ
  pub lent : Lent

-- ---- a board as bytes

abbrev pub board_in : Lent → Controller → Board
board_in lent c = board_of lent.memory lent.cache (table_words lent.table_bytes) c

unfoldable pub bytes_of : Board → Lent
unfolding number_bytes encoded
bytes_of board = lent_of board.memory (cache_of board) (number_bytes (table_of board)) (encoded board.volatile.controller)

-- ---- what is decided before the table is read

-- 12 RECORD BYTES: bytes that encode no record; by recovery only a length other than 90. Peek and sweep have no door of their own
unfoldable pub no_record : C.Call → List ℕ → Bool
unfolding is_record
no_record (C.load block offset len) bytes = not (is_record bytes)
no_record (C.peek block) bytes = not (is_record bytes)
no_record (C.store block offset new) bytes = not (is_record bytes)
no_record (C.begin registers) bytes = not (is_record bytes)
no_record (C.step n) bytes = not (is_record bytes)
no_record (C.format g fill) bytes = not (is_record bytes)
no_record (C.recover g) bytes = not (eqb (length bytes) 90)
no_record (C.sweep limit) bytes = not (is_record bytes)

-- the sizes that a call is held to: those given, else the record's
unfoldable pub sizes_for : C.Call → Controller → Geometry
sizes_for (C.load block offset len) c = c.geometry
sizes_for (C.peek block) c = c.geometry
sizes_for (C.store block offset new) c = c.geometry
sizes_for (C.begin registers) c = c.geometry
sizes_for (C.step n) c = c.geometry
sizes_for (C.format g fill) c = g
sizes_for (C.recover g) c = g
sizes_for (C.sweep limit) c = c.geometry

abbrev pub sized : ℕ → ℕ → Geometry
sized blocks slots = record { blocks = blocks; slots = slots }

-- 2 BUFFER: a lent length isn't exact; a table has eight bytes a slot
unfoldable pub inexact : Geometry → ℕ → ℕ → ℕ → Bool
inexact g memory cache table = not (eqb memory (8 * memory_words g) && eqb cache (64 * g.slots) && eqb table (8 * g.slots))

-- 1 GEOMETRY, then 2 BUFFER, else 0
unfoldable pub sizes_number : Geometry → ℕ → ℕ → ℕ → ℕ
unfolding outside inexact number_of
sizes_number g memory cache table =
    cond (outside g) (number_of No.Geometry)
    (cond (inexact g memory cache table) (number_of No.Buffer)
    0)

-- 12 RECORD BYTES is checked first of all
unfoldable pub early : C.Call → Lent → ℕ
unfolding no_record sizes_number sizes_for supposed
early c lent =
    cond (no_record c lent.record_bytes) 12
    (sizes_number (sizes_for c (supposed lent.record_bytes)) (length lent.memory) (length lent.cache) (length lent.table_bytes))

-- ---- the calls

abbrev pub refused : ℕ → Lent → Left
refused n lent = record { number = n; words = 0; gives = []; lent = lent }

-- what the board's own call leaves, as bytes
unfoldable pub left_by : Lent → Outcome → Left
unfolding number_of changes bytes_of
left_by lent o = record {
  number = number_of o.number;
  words = o.words;
  gives = o.gives;
  lent = cond (changes o.number) (bytes_of o.board) lent;
}

-- a call through the door with an allowance of p words
unfoldable pub door : ℕ → Lent → C.Call → Left
unfolding early left_by supposed
door p lent c =
    cond (eqb (early c lent) 0)
    (left_by lent (C.call p (board_in lent (supposed lent.record_bytes)) c))
    (refused (early c lent) lent)
