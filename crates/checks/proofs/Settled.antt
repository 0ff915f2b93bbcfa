-- The ends of a call: refused behind its checks, cut by the supply, or carried out whole.
use Rattle.std.proofs.Common.{◌≡◌, ℕ, ◌<◌, ◌≤◌, ◌≢◌, List, [], length, ◌∙◌, arith, take_all, eq-eqb, ne_eqb, le-leb}
use borrow.Author.Tests.{lt-leb}
use Rattle.words.specs.Words.{Store, Lays}
use Rattle.rules.specs.declared.Controller.{Controller}
use Rattle.rules.specs.declared.Number.{Number}
use Rattle.rules.specs.declared.Number.TheVariants as No
use Rattle.rules.specs.declared.Answer.{Answer}
use Rattle.rules.specs.Board.{Board, Volatile, board_of}
use Rattle.rules.specs.Numbers.{number_of}
use Rattle.rules.specs.Power.{Plan, carry, guard, whole, cut, switched_off, settle, outcome_of}
use Rattle.checks.specs.Answers.{off_of, answer_of, refused_of}

-- ---- behind the checks: n is the number that the call found, m the plan's

pub guard_on : (p : ℕ) (board : Board) (plan : Plan) (n m : Number) → n ≡ m → number_of n ≡ 0 → settle p board (guard m plan) ≡ settle p board plan
unfolding guard
guard_on p board plan n m e z = rw (← e, eq-eqb (number_of n) 0 z)

settle_whole : (p : ℕ) (board : Board) (stores : List Store) (after : Volatile) (gives : List ℕ) → length stores ≤ p
    → settle p board (carry stores after gives) ≡ whole board stores after gives
unfolding settle
settle_whole p board stores after gives h = rw (le-leb (length stores) p h)

settle_cut : (p : ℕ) (board : Board) (stores : List Store) (after : Volatile) (gives : List ℕ) → p < length stores
    → settle p board (carry stores after gives) ≡ cut p board stores after
unfolding settle
settle_cut p board stores after gives h = rw (lt-leb (length stores) p h)

module _ (p : ℕ) (memory cache table : List ℕ) (controller : Controller) where
  pub refused_is : (plan : Plan) (n m : Number) (answer : Answer) → n ≡ m → number_of n ≢ 0 → answer ≡ refused_of n controller
      → settle p (board_of memory cache table controller) (guard m plan) ≡ outcome_of answer memory cache table
  unfolding settle guard
  refused_is plan n m answer e ne q = rw (← e, ne_eqb (number_of n) 0 ne, q)

  -- the list is laid by a function that promises `Lays`, whose result is its length
  module _ (stores : List Store) (memory' : List ℕ) (words : ℕ) (laid : Lays p stores memory memory' words) (answer : Answer) where
    -- a format's sizes are those that it would have recorded
    pub cut_sized : (after : Volatile) → p < words → answer ≡ answer_of No.Cut p (switched_off (board_of memory cache table controller) after).controller
        → settle p (board_of memory cache table controller) (carry stores after []) ≡ outcome_of answer memory' cache table
    cut_sized after h q =
        settle_cut p (board_of memory cache table controller) stores after [] (omega (arith, laid.words)) ∙ (rw (q, laid.bytes))

    pub cut_is : (after : Volatile) → after.controller.geometry ≡ controller.geometry → p < words → answer ≡ answer_of No.Cut p (off_of controller)
        → settle p (board_of memory cache table controller) (carry stores after []) ≡ outcome_of answer memory' cache table
    cut_is after g h q = cut_sized after h (rw g q)

    pub whole_is : (cache' table' : List ℕ) (controller' : Controller) → words ≤ p → answer ≡ answer_of No.Done words controller'
        → settle p (board_of memory cache table controller)
        (carry stores (record { cache = cache'; table = table'; controller = controller' }) [])
        ≡ outcome_of answer memory' cache' table'
    whole_is cache' table' controller' h q =
        let l : length stores ≤ p = omega (arith, laid.words) in
        settle_whole p (board_of memory cache table controller) stores (record { cache = cache'; table = table'; controller = controller' }) [] l
        ∙ (rw (q, laid.words, laid.bytes, take_all p stores l))
