-- The numbers of a table's words, summed from the first word on.
use Rattle.std.proofs.Common.{[], append-nil, refl, ap, false, Option, None, Some, Result, is_some, ok_or, ◌≡◌, ℕ, ◌+◌, ◌*◌, ◌^◌, ◌<◌, ◌≤◌, Bool, true, ◌&&◌, List, length, get_or, take, sym, ◌∙◌, arith}
use Rattle.std.proofs.Math.Nat.{mul-le-mul, mul-le-mul_right, lt_of_mul-lt-mul_right, mul_comm}
use Rattle.rules.specs.declared.Geometry.{Geometry}
use Rattle.rules.specs.declared.Controller.{Controller}
use Rattle.rules.specs.declared.Phase.{Phase}
use Rattle.rules.specs.declared.State.{State}
use Rattle.rules.specs.TableWords.{every}
use Rattle.rules.specs.declared.Number.{Number}
use Rattle.rules.specs.declared.Number.TheVariants as No
use Rattle.rules.specs.Board.{Board, board_of, sizes, phase_of, table_of}
use Rattle.rules.specs.Numbers.{Check, well_formed, allows, is_writing, number_of, first_of, common_checks}
use Rattle.rules.proofs.Clashes.{and_left, and_right}
use Rattle.checks.specs.Early.{early_checks}
use Rattle.checks.specs.Results.{Judged}
use Rattle.checks.proofs.Passed.{Passed, common_passed, table_stops, table_refuses, all_passed}
use Rattle.checks.specs.Forms.{margin_of, all_formed}
use Rattle.checks.specs.Tables.{allowed_while}
use Rattle.checks.proofs.Walking.{every_more, every_all}
use Rattle.checks.proofs.Words.{column}

right_distrib : (a b k : ℕ) → (a + b) * k ≡ a * k + b * k
right_distrib a b k = grind arith

pub sum_few : (total n i len m : ℕ) → total * len ≤ i * m → n * len < m → (total + n) * len ≤ (i + 1) * m
sum_few total n i len m t s =
    let e = right_distrib total n len in
    let f = right_distrib i 1 m in
    omega arith

-- a word's number times the length of a board's table
pub few_times : (n len : ℕ) → n < 2 ^ 32 → len ≤ 512 → n * len < 2 ^ 63
few_times n len h l =
    let m = mul-le-mul {n₁ = n} {m₁ = len} {n₂ = 4294967296} {m₂ = 512} (omega arith) l in
    omega arith

-- where each number times the table's length is below a bound, so is the sum
pub sum_fits : (total n i len m : ℕ) → total * len ≤ i * m → n * len < m → i < len → total + n < m
sum_fits total n i len m t s h =
    let e = right_distrib total n len in
    let f = right_distrib i 1 m in
    let l : (i + 1) * m ≤ len * m = mul-le-mul_right m (omega arith) in
    let c : m * len ≡ len * m = mul_comm m len in
    lt_of_mul-lt-mul_right len (omega arith)

module _ (test : ℕ → Bool) (table : List ℕ) (i : ℕ) (h : i < length table) (e : every test (take (i + 1) table) ≡ true) where
  parted : every test (take i table) && test (get_or table i 0) ≡ true
  parted = every_more test table i h refl refl ∙ e

  pub every_before : every test (take i table) ≡ true
  every_before = and_left _ _ parted

  pub every_here : test (get_or table i 0) ≡ true
  every_here = and_right (every test (take i table)) _ parted

-- the walk at its end
pub walked : (phase : Phase) (g : Geometry) (table : List ℕ) (i : ℕ) (writing : Bool) (added flawed seen : ℕ)
    → ((h : Geometry) → 1 ≤ h.blocks → h.blocks ≤ 4096 → added ≡ margin_of h → all_formed flawed seen ≡ every (well_formed (allowed_while writing) h) (take i table))
    → 1 ≤ g.blocks → g.blocks ≤ 4096 → added ≡ margin_of g → writing ≡ is_writing phase → length table ≤ i
    → all_formed flawed seen ≡ every (well_formed (allows phase) g) table
walked phase g table i writing added flawed seen so some blocks e w end =
    so g some blocks e
    ∙ every_all (well_formed (allowed_while writing) g) table i end
    ∙ ap (λ (allowed : State → Bool). every (well_formed allowed g) table) (ap allowed_while w ∙ sym (column phase))

-- the walk as the last of the checks 1 to 5
pub walk_judged : (board : Board) (unfit : Bool) → number_of (first_of (early_checks board unfit)) ≡ 0
    → (o : Option ℕ) (r : Result ℕ Number) → is_some o ≡ every (well_formed (allows (phase_of board)) (sizes board)) (table_of board) → r ≡ ok_or o No.Table
    → Judged (first_of (common_checks board unfit)) r
walk_judged board unfit z None r f e = rw e (table_stops board unfit z false f refl, table_refuses)
walk_judged board unfit z (Some total) r f e = rw e (all_passed board unfit z true f refl)

-- what is known where the checks 1 to 5 pass
pub checks_pass : (memory cache table : List ℕ) (controller : Controller) (unfit : Bool)
    → number_of (first_of (common_checks (board_of memory cache table controller) unfit)) ≡ 0 → Passed memory cache table controller unfit
checks_pass memory cache table controller unfit z =
    (common_passed memory cache table controller unfit [] (ap (λ (z : List Check). number_of (first_of z)) (append-nil (common_checks (board_of memory cache table controller) unfit)) ∙ z)).0
