-- A call on the lent part of the arrays, as a call on the arrays.
use mathlib.Core.Path.{◌≡◌, refl, sym, ap, ◌∙◌}
use mathlib.Core.Bool.{Bool, true, false, cond}
use mathlib.Core.List.{List, [], ◌++◌}
use Prim.Native.Nat.{ℕ}
use lib.Dec.{eqb}
use lib.ListN.{length, take, drop, take-append-drop}
use Rattle.rules.specs.declared.Geometry.{Geometry}
use Rattle.rules.specs.declared.Controller.{Controller}
use Rattle.rules.specs.declared.Number.{Number}
use Rattle.rules.specs.declared.Answer.{Answer}
use Rattle.rules.specs.declared.Recovery.{Recovery}
use Rattle.rules.specs.Board.{Board, cache_of, table_of, board_of}
use Rattle.rules.specs.Numbers.{number_of}
use Rattle.rules.specs.Power.{Outcome, outcome_of}
use Rattle.rules.specs.Loads.{load_number, seen}
use Rattle.rules.specs.Starts.{Recovered}
use Rattle.rules.specs.Calls.{Call, load, call}
use Rattle.loads.specs.Reading.{filled, Loaded, read_of}
use Rattle.loads.proofs.Laws.{load_is}
use Rattle.lending.specs.Lending.{lent_memory, lent_cache, lent_table, restored, called}

-- m, c and t are the lengths that are lent
module _ (p : ℕ) (memory cache table : List ℕ) (k : Controller) (g : Geometry) {m c t : ℕ} (em : m ≡ lent_memory g) (ec : c ≡ lent_cache g) (et : t ≡ lent_table g) (x : Call) where
  pub lent_outcome : {o : Outcome} → call p (board_of (take m memory) (take c cache) (take t table) k) x ≡ o
      → called p (board_of memory cache table k) g x ≡ restored g (board_of memory cache table k) o
  unfolding called
  lent_outcome e = ap (λ (z : Outcome). restored g (board_of memory cache table k) z) (rw (em, ec, et) at e)

  pub lent_done : {a : Answer} {memory' cache' table' memory'' cache'' table'' : List ℕ}
      → call p (board_of (take m memory) (take c cache) (take t table) k) x ≡ outcome_of a memory' cache' table'
      → memory'' ≡ memory' ++ drop m memory → cache'' ≡ cache' ++ drop c cache → table'' ≡ table' ++ drop t table
      → called p (board_of memory cache table k) g x ≡ outcome_of a memory'' cache'' table''
  unfolding restored
  lent_done e dm dc dt = lent_outcome e ∙ rw (dm, dc, dt, em, ec, et)

  pub lent_recovered : {r : Recovery} {memory' cache' table' memory'' cache'' table'' : List ℕ}
      → Recovered (call p (board_of (take m memory) (take c cache) (take t table) k) x) r memory' cache' table'
      → memory'' ≡ memory' ++ drop m memory → cache'' ≡ cache' ++ drop c cache → table'' ≡ table' ++ drop t table
      → Recovered (called p (board_of memory cache table k) g x) r memory'' cache'' table''
  unfolding called restored
  lent_recovered o dm dc dt =
      let same = rw (em, ec, et) at o in
      record {
        number = same.number;
        words = same.words;
        registers = same.registers;
        board = rw (dm, dc, dt, em, ec, et)
            (ap (λ (z : Board). board_of (z.memory ++ drop (lent_memory g) memory) (cache_of z ++ drop (lent_cache g) cache) (table_of z ++ drop (lent_table g) table) z.volatile.controller) same.board);
      }

-- a part that is lent unchangeable stays
pub stays : (n : ℕ) (l : List ℕ) → l ≡ take n l ++ drop n l
stays n l = sym (take-append-drop n l)

-- a load's outcome, from what it promises
read_is : (board : Board) (block offset : ℕ) (into into' : List ℕ) (r : Number) → Loaded board block offset into into' r
    → call 0 board (load block offset (length into)) ≡ read_of board r into'
unfolding filled
read_is board block offset into into' r l = i ∙ rw q (ap (λ (z : List ℕ). record { number = n; words = 0; gives = z; board = board }) (go (eqb (number_of n) 0) refl))
  where
    n : Number
    n = load_number board block offset (length into)

    bytes : List ℕ
    bytes = take (length into) (drop offset (seen board block))

    i : call 0 board (load block offset (length into)) ≡ read_of board n bytes
    i = load_is 0 board block offset (length into)

    q : r ≡ n
    q = l.number ∙ ap (λ (o : Outcome). o.number) i

    f : into' ≡ filled (read_of board n bytes) into
    f = l.bytes ∙ ap (λ (o : Outcome). filled o into) i

    go : (b : Bool) → eqb (number_of n) 0 ≡ b → cond (eqb (number_of n) 0) bytes [] ≡ cond (eqb (number_of n) 0) into' []
    go true e = rw e (sym (rw e at f))
    go false e = rw e

pub lent_load : (memory cache table : List ℕ) (k : Controller) (g : Geometry) {m c t : ℕ} → m ≡ lent_memory g → c ≡ lent_cache g → t ≡ lent_table g
    → (block offset : ℕ) (into into' : List ℕ) (r : Number) → Loaded (board_of (take m memory) (take c cache) (take t table) k) block offset into into' r
    → called 0 (board_of memory cache table k) g (load block offset (length into)) ≡ read_of (board_of memory cache table k) r into'
unfolding restored
lent_load memory cache table k g em ec et block offset into into' r l =
    lent_outcome 0 memory cache table k g em ec et (load block offset (length into)) (read_is _ block offset into into' r l)
    ∙ rw (em, ec, et, take-append-drop (lent_memory g) memory, take-append-drop (lent_cache g) cache, take-append-drop (lent_table g) table)
