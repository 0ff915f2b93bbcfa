-- What every answer says: one outcome for one input, refusals change nothing, the count is that of the words stored.
use mathlib.Core.Path.{◌≡◌, refl, sym, ap, ◌∙◌}
use mathlib.Core.Logic.{◌≢◌}
use mathlib.Core.Bool.{Bool, true, false, cond}
use mathlib.Core.List.{List, []}
use Prim.Native.Nat.{ℕ}
use native.Mathlib.Omega.{arith}
use native.Mathlib.Nat.{suc-ne-zero}
use lib.Dec.{eqb, leb, leb-zero}
use lib.ListN.{length, take}
use lib.Seq.{take_all, length-take-le}
use borrow.Author.Tests.{eqb-true, eqb-false, eq-eqb, leb-true, leb-false}
use Rattle.words.specs.Words.{Store, lay}
use Rattle.rules.specs.declared.Number.{Number}
use Rattle.rules.specs.Board.{Board, Volatile, cache_of, table_of}
use Rattle.rules.specs.Numbers.{number_of}
use Rattle.rules.specs.declared.Answer.{Answer}
use Rattle.rules.specs.Power.{outcome_of, Plan, refuse, carry, guard, Outcome, whole, cut, settle, stored}
use Rattle.rules.specs.Calls.{Call, plan, call}

-- ---- two outcomes allowed for one input coincide

-- two answers, with all that the calls leave in the lent memory
pub record SameOutcome (answer answer' : Answer) (memory memory' cache cache' table table' : List ℕ) : Type 0 where
  pub answers : answer ≡ answer'
  pub memories : memory ≡ memory'
  pub caches : cache ≡ cache'
  pub tables : table ≡ table'

-- A contract that gives the outcome as an equation leaves one; each public call's uniqueness cites this.
pub one_outcome : {outcome : Outcome} {answer answer' : Answer} {memory memory' cache cache' table table' : List ℕ}
    → outcome ≡ outcome_of answer memory cache table → outcome ≡ outcome_of answer' memory' cache' table'
    → SameOutcome answer answer' memory memory' cache cache' table table'
one_outcome {outcome} {answer} {answer'} {memory} {memory'} {cache} {cache'} {table} {table'} a b =
    let e : outcome_of answer memory cache table ≡ outcome_of answer' memory' cache' table' = sym a ∙ b in
    record {
      answers = ap (λ (o : Outcome). record { number = o.number; words = o.words; controller = o.board.volatile.controller }) e;
      memories = ap (λ (o : Outcome). o.board.memory) e;
      caches = ap (λ (o : Outcome). cache_of o.board) e;
      tables = ap (λ (o : Outcome). table_of o.board) e;
    }

-- ---- refusals: 1 to 11, 13 and 14

pub record Nothing_changed (board : Board) (outcome : Outcome) : Type 0 where
  pub same : outcome.board ≡ board
  pub no_words : outcome.words ≡ 0
  pub no_bytes : outcome.gives ≡ []

-- of any plan that is neither carried out nor cut
pub settled_refused : (p : ℕ) (board : Board) (q : Plan) → number_of (settle p board q).number ≢ 0 → number_of (settle p board q).number ≢ 20
    → Nothing_changed board (settle p board q)
unfolding settle number_of
settled_refused p board (refuse n) a b = record { same = refl; no_words = refl; no_bytes = refl }
settled_refused p board (carry ws after gives) a b = either (leb (length ws) p) a b
  where
    out : Bool → Outcome
    out t = cond t (whole board ws after gives) (cut p board ws after)

    either : (t : Bool) → number_of (out t).number ≢ 0 → number_of (out t).number ≢ 20 → Nothing_changed board (out t)
    either true a b = absurd (a refl)
    either false a b = absurd (b refl)

pub refused : (p : ℕ) (board : Board) (c : Call) → number_of (call p board c).number ≢ 0 → number_of (call p board c).number ≢ 20
    → Nothing_changed board (call p board c)
unfolding call
refused p board c = settled_refused p board (plan board c)

-- ---- the words

-- the count is the length of the stored part of the list, and the memory is what those stores leave
pub record Counted (p : ℕ) (board : Board) (q : Plan) : Type 0 where
  pub count : (settle p board q).words ≡ length (stored p q)
  pub memory : (settle p board q).board.memory ≡ lay (stored p q) board.memory

pub counted : (p : ℕ) (board : Board) (q : Plan) → Counted p board q
unfolding settle stored lay
counted p board (refuse n) = record { count = refl; memory = refl }
counted p board (carry ws after gives) = go (leb (length ws) p) refl
  where
    out : Bool → Outcome
    out t = cond t (whole board ws after gives) (cut p board ws after)

    count : (t : Bool) → leb (length ws) p ≡ t → (out t).words ≡ length (take p ws)
    count true e = sym (ap length (take_all p ws (leb-true (length ws) p e)))
    count false e = sym (length-take-le p ws (let h = leb-false (length ws) p e in omega arith))

    memory : (t : Bool) → leb (length ws) p ≡ t → (out t).board.memory ≡ lay (take p ws) board.memory
    memory true e = sym (ap (λ (z : List Store). lay z board.memory) (take_all p ws (leb-true (length ws) p e)))
    memory false e = refl

    go : (t : Bool) → leb (length ws) p ≡ t → Counted p board (carry ws after gives)
    go t e = record { count = count (leb (length ws) p) refl; memory = memory (leb (length ws) p) refl }

-- ---- accepted calls

-- checks passed, a plan behind them is the plan
pub past_guard : (n : Number) (q : Plan) → number_of n ≡ 0 → guard n q ≡ q
unfolding guard
past_guard n q e = rw (eq-eqb (number_of n) 0 e)

-- an accepted plan behind its checks passed them
pub guard_accepted : (p : ℕ) (board : Board) (n : Number) (q : Plan) → number_of (settle p board (guard n q)).number ≡ 0
    → (number_of n ≡ 0) × (settle p board (guard n q) ≡ settle p board q)
unfolding settle guard
guard_accepted p board n q = go (eqb (number_of n) 0) refl
  where
    go : (t : Bool) → eqb (number_of n) 0 ≡ t → number_of (settle p board (cond t q (refuse n))).number ≡ 0
        → (number_of n ≡ 0) × (settle p board (cond t q (refuse n)) ≡ settle p board q)
    go true e h = (eqb-true (number_of n) 0 e, refl)
    go false e h = absurd (eqb-false (number_of n) 0 e h)

-- an accepted list is stored whole
pub carry_accepted : (p : ℕ) (board : Board) (ws : List Store) (after : Volatile) (gives : List ℕ) → number_of (settle p board (carry ws after gives)).number ≡ 0
    → settle p board (carry ws after gives) ≡ whole board ws after gives
unfolding settle number_of
carry_accepted p board ws after gives = go (leb (length ws) p)
  where
    out : Bool → Outcome
    out t = cond t (whole board ws after gives) (cut p board ws after)

    go : (t : Bool) → number_of (out t).number ≡ 0 → out t ≡ whole board ws after gives
    go true e = refl
    go false e = absurd (suc-ne-zero 19 e)

-- and all its words are stored
pub stored_accepted : (p : ℕ) (board : Board) (n : Number) (ws : List Store) (after : Volatile) (gives : List ℕ)
    → number_of (settle p board (guard n (carry ws after gives))).number ≡ 0 → stored p (guard n (carry ws after gives)) ≡ ws
unfolding settle stored number_of
stored_accepted p board n ws after gives e =
    let a = guard_accepted p board n (carry ws after gives) e in
    ap (stored p) (past_guard n (carry ws after gives) a.0) ∙ go (leb (length ws) p) refl (ap (λ (o : Outcome). number_of o.number) (sym a.1) ∙ e)
  where
    go : (t : Bool) → leb (length ws) p ≡ t → number_of (cond t (whole board ws after gives) (cut p board ws after)).number ≡ 0 → take p ws ≡ ws
    go true q z = take_all p ws (leb-true (length ws) p q)
    go false q z = absurd (suc-ne-zero 19 z)

-- an empty list is never cut, at an allowance of 0 either
pub carry_nothing : (p : ℕ) (board : Board) (after : Volatile) (gives : List ℕ) → settle p board (carry [] after gives) ≡ whole board [] after gives
unfolding settle
carry_nothing p board after gives = rw (leb-zero p)
