-- What a load and a peek promise (document 01, Where a block shows; Numbers returned).
use Rattle.std.specs.Prelude.{◌≡◌, Bool, true, false, cond, List, [], ℕ, eqb, length}
use Rattle.std.specs.Borrow.{Bor}
use Rattle.rules.specs.declared.Number.{Number}
use Rattle.rules.specs.Board.{Board, sizes, table_of}
use Rattle.rules.specs.TableWords.{lookup}
use Rattle.rules.specs.Numbers.{number_of}
use Rattle.rules.specs.Power.{Outcome}
use Rattle.rules.specs.Loads.{Spot, spot_of, peek_number}
use Rattle.rules.specs.Calls.{load, peek, call}
use Rattle.blocks.specs.Shown.{PartOf, Shown}

-- a call that only reads: its number, and the bytes that it hands out where it is accepted
abbrev pub read_of : Board → Number → List ℕ → Outcome
read_of board n gives = record { number = n; words = 0; gives = cond (eqb (number_of n) 0) gives []; board = board }

-- ---- load

-- a load's destination at exit: the bytes handed out, or as at entry
unfoldable pub filled : Outcome → List ℕ → List ℕ
filled outcome into = cond (eqb (number_of outcome.number) 0) outcome.gives into

-- a load on a board answers r and leaves into' where it found into
pub record Loaded (board : Board) (block offset : ℕ) (into into' : List ℕ) (r : Number) : Type 0 where
  pub number : r ≡ (call 0 board (load block offset (length into))).number
  pub bytes : into' ≡ filled (call 0 board (load block offset (length into))) into

-- ---- peek

-- accepted, the 64 bytes where the block shows; refused, the empty part of the memory
unfoldable pub PartIf : Bool → Bor (List ℕ) → Bor (List ℕ) → Bor (List ℕ) → Spot → Type 0
unfolding Shown
PartIf true r memory cache spot = Shown r memory cache spot
PartIf false r memory cache spot = PartOf r memory 0 0

-- a peek on a board hands out r
pub record Peeked (r memory cache : Bor (List ℕ)) (board : Board) (block : ℕ) : Type 0 where
  pub gives : r.now ≡ (call 0 board (peek block)).gives
  pub part : PartIf (eqb (number_of (peek_number board block)) 0) r memory cache (spot_of (sizes board) block (lookup block (table_of board)))
  pub size : length r.now ≡ cond (eqb (number_of (peek_number board block)) 0) 64 0
