-- What is promised of the doors (document 02, No. 4). The proofs are in proofs/Unique.antt, proofs/Kept.antt, proofs/Carried.antt and proofs/Garbage.antt.
use Rattle.std.specs.Prelude.{◌≡◌, ◌≢◌, List, [], ℕ, ◌^◌, ◌<◌, length, get_or}
use Rattle.rules.specs.declared.Geometry.{Geometry}
use Rattle.rules.specs.Board.{Board, table_of}
use Rattle.rules.specs.Numbers.{number_of}
use Rattle.rules.specs.Power.{Outcome}
use Rattle.rules.specs.Calls.{Call, recover, call}
use Rattle.codec.specs.Encoding.{Fits}
use Rattle.codec.specs.Promises.{Bytes}
use Rattle.door.specs.declared.RostimelyAnswer.{RostimelyAnswer}
use Rattle.door.specs.declared.RostimelyRecovery.{RostimelyRecovery}
use Rattle.door.specs.Doors.{Lent, Left, lent_of, bytes_of, door}
use Rattle.door.specs.Answers.{left_of, Loads, Recovers}

-- ---- two outcomes allowed for one input coincide

pub record SameLeft (a a' : RostimelyAnswer) (lent lent' : Lent) : Type 0 where
  pub answers : a ≡ a'
  pub bytes : lent ≡ lent'

-- store, begin, step and format
unfoldable pub OneLeft : Type 0
OneLeft =
    (left : Left) (a a' : RostimelyAnswer) (memory memory' cache cache' table table' record-bytes record-bytes' : List ℕ)
    → left ≡ left_of a memory cache table record-bytes → left ≡ left_of a' memory' cache' table' record-bytes'
    → SameLeft a a' (lent_of memory cache table record-bytes) (lent_of memory' cache' table' record-bytes')

unfoldable pub OneLoad : Type 0
OneLoad =
    (left : Left) (into into' into'' : List ℕ) (a a' : RostimelyAnswer)
    → Loads left into into' a → Loads left into into'' a' → (a ≡ a') × (into' ≡ into'')

unfoldable pub OneRecovery : Type 0
OneRecovery =
    (left : Left) (memory cache table table' record-bytes record-bytes' : List ℕ) (r r' : RostimelyRecovery)
    → Recovers left memory cache table record-bytes r → Recovers left memory cache table' record-bytes' r'
    → (r ≡ r') × (table ≡ table') × (record-bytes ≡ record-bytes')

-- ---- what is kept

-- a refused call, 12 RECORD BYTES among them, stores no word, hands out nothing and changes no byte
unfoldable pub RefusedKeeps : Type 0
RefusedKeeps =
    (p : ℕ) (lent : Lent) (x : Call) → (door p lent x).number ≢ 0 → (door p lent x).number ≢ 20
    → ((door p lent x).lent ≡ lent) × ((door p lent x).words ≡ 0) × ((door p lent x).gives ≡ [])

-- a cut call changes the record's bytes and the memory only
unfoldable pub CutKeeps : Type 0
CutKeeps =
    (p : ℕ) (lent : Lent) (x : Call) → Bytes lent.table_bytes → (door p lent x).number ≡ 20
    → ((door p lent x).lent.cache ≡ lent.cache) × ((door p lent x).lent.table_bytes ≡ lent.table_bytes)

-- ---- the door adds nothing to the board: lent a board's bytes, it leaves those of what the board's own call leaves.
-- So whatever is proved of the board's calls holds of the doors.

-- what the types of a board's words and record say
pub record Fitting (board : Board) : Type 0 where
  pub controller : Fits board.volatile.controller
  pub words : (i : ℕ) → get_or (table_of board) i 0 < 256 ^ 8

abbrev pub as_bytes : Outcome → Left
as_bytes o = record { number = number_of o.number; words = o.words; gives = o.gives; lent = bytes_of o.board }

unfoldable pub Carried : Type 0
Carried = (p : ℕ) (board : Board) (x : Call) → Fitting board → door p (bytes_of board) x ≡ as_bytes (call p board x)

-- ---- a recovery's record may hold any 90 bytes: they change nothing of what it tells, nor of what an accepted one leaves
pub record SameRecovery (left right : Left) : Type 0 where
  pub numbers : left.number ≡ right.number
  pub words : left.words ≡ right.words
  pub gives : left.gives ≡ right.gives
  pub bytes : left.number ≡ 0 → left.lent ≡ right.lent

unfoldable pub AnyRecord : Type 0
AnyRecord =
    (p : ℕ) (memory cache table one other : List ℕ) (g : Geometry) → length one ≡ 90 → length other ≡ 90
    → SameRecovery (door p (lent_of memory cache table one) (recover g)) (door p (lent_of memory cache table other) (recover g))
