-- A turn on arrays that are lent one by one: what it asks for and promises (document 01, The bench trace).
use Rattle.std.specs.Prelude.{◌≡◌, List, ℕ, ◌≤◌, length}
use Rattle.rules.specs.Board.{board_of}
use Rattle.lines.specs.Puts.{Puts}
use Rattle.trace.specs.declared.lent.Held.{Held}
use Rattle.trace.specs.declared.lent.Turn.{Turn}
use Rattle.trace.specs.Trace.{Bench, Turned}

-- the arrays' lengths: what N = 64 and B = 16 take
pub record Arrays (memory cache table : List ℕ) : Type 0 where
  pub memory_size : length memory ≡ 5512
  pub cache_size : length cache ≡ 1024
  pub table_size : length table ≡ 16

abbrev pub bench_of : List ℕ → List ℕ → List ℕ → Held → Bench
bench_of memory cache table held = record { board = board_of memory cache table held.controller; allowance = held.allowance }

-- Trace's Turns, said of the three arrays and of a Turn
pub record Turns (t : Turned) (slice slice' memory' cache' table' : List ℕ) (r : Turn) : Type 0 where
  pub puts : Puts t.prints 0 slice slice' r.length
  pub room : r.length ≤ 640
  pub goes : r.go ≡ t.goes
  pub bench : bench_of memory' cache' table' r.held ≡ t.bench
