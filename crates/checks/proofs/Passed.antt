-- A chain of checks: where it stops, where it goes on, and what a call knows once it is passed.
use Rattle.std.proofs.Common.{Result, IsErrAnd, ◌≡◌, ℕ, ◌+◌, ◌*◌, ◌≤◌, Bool, true, false, cond, not, ◌&&◌, eqb, leb, ◌≢◌, List, [], ◌∷◌, ◌++◌, length, replicate, sym, refl, ap, ◌∙◌, suc-ne-zero, arith, ltb-false, eqb-true, leb-true}
use Rattle.std.proofs.lemmas.Result.{err_from_is_err_and}
use lib.ListN.{length-replicate}
use borrow.Author.Tests.{eqb-false, not-false, not-true}
use Rattle.words.proofs.All.{All, done, also, all_take}
use Rattle.rules.specs.declared.Geometry.{Geometry}
use Rattle.rules.specs.declared.Backup.TheVariants.{A}
use Rattle.rules.specs.declared.Phase.{Phase}
use Rattle.rules.specs.declared.Phase.TheVariants.{Running, Writing, Off}
use Rattle.rules.specs.declared.Controller.{Controller}
use Rattle.rules.specs.declared.Number.{Number}
use Rattle.rules.specs.declared.Number.TheVariants as No
use Rattle.rules.specs.Geometry.{memory_words}
use Rattle.rules.specs.TableWords.{every}
use Rattle.rules.specs.Board.{Board, board_of, sizes, phase_of, cache_of, table_of}
use Rattle.rules.specs.Numbers.{number_of, Check, ◌⇒◌, first_of, outside, inexact, over_count, is_off, allows, well_formed, malformed, common_checks}
use Rattle.rules.specs.Checkpoints.{count_of}
use Rattle.rules.specs.Starts.{format_number}
use Rattle.rules.proofs.Clashes.{and_left, and_right, or_false}
use Rattle.checks.specs.Early.{early_checks}
use Rattle.checks.specs.Lent.{Lengths, Lent}
use Rattle.checks.specs.Ready.{Ready}
use Rattle.checks.specs.Results.{Judged}

-- ---- link by link

pub hit : {applies : Bool} {n : Number} (checks : List Check) → applies ≡ true → n ≡ first_of ((applies ⇒ n) ∷ checks)
unfolding first_of
hit checks e = rw e

pub miss : {applies : Bool} {r : Number} (n : Number) (checks : List Check) → applies ≡ false → r ≡ first_of checks → r ≡ first_of ((applies ⇒ n) ∷ checks)
unfolding first_of
miss n checks e q = rw e q

pub none_applies : No.Done ≡ first_of []
unfolding first_of
none_applies = refl

-- ---- what a chain answers as a Result

pub skip : {applies : Bool} (n : Number) (checks : List Check) (r : Result (Unit {0}) Number) → applies ≡ false → Judged (first_of checks) r
    → Judged (first_of ((applies ⇒ n) ∷ checks)) r
unfolding first_of
skip n checks r e q = rw e q

-- what `?` hands on is the refusal that it met
pub handed_on : {T : Type 0} {first : Number} (r : Result T Number) (n : Number) → IsErrAnd r (λ y. y ≡ n) → (n ≡ first) × (number_of n ≢ 0) → Judged first r
handed_on r n e h = let p = err_from_is_err_and r e in rw (p.1, p.2) h

-- ---- the test that a call makes of its number

pub refusing : {r : Bool} (n : Number) → r ≡ eqb (number_of n) 0 → r ≡ false → number_of n ≢ 0
refusing n e f = eqb-false (number_of n) 0 (sym e ∙ f)

pub accepting : {r : Bool} (n : Number) → r ≡ eqb (number_of n) 0 → r ≡ true → number_of n ≡ 0
accepting n e t = eqb-true (number_of n) 0 (sym e ∙ t)

-- ---- a chain and what follows it

-- a refusal in the front part is the refusal of the whole
pub stop_front : (xs ys : List Check) → number_of (first_of xs) ≢ 0 → first_of (xs ++ ys) ≡ first_of xs
unfolding first_of number_of
stop_front [] ys ne = absurd (ne refl)
stop_front ((true ⇒ n) ∷ xs) ys ne = refl
stop_front ((false ⇒ n) ∷ xs) ys ne = stop_front xs ys ne

-- the same for a call that found its number by the front part
pub stopped : {r : Number} (xs ys : List Check) → r ≡ first_of xs → number_of r ≢ 0 → r ≡ first_of (xs ++ ys)
stopped xs ys e ne = e ∙ sym (stop_front xs ys (λ z. ne (ap number_of e ∙ z)))

-- a check whose number is not that of DONE
pub data Refuses : Check → Type 0 where
  refuses : {applies : Bool} {n : Number} → number_of n ≢ 0 → Refuses (applies ⇒ n)

passed : (applies : Bool) (n r : Number) → number_of n ≢ 0 → number_of (cond applies n r) ≡ 0 → (applies ≡ false) × (number_of r ≡ 0)
passed true n r ne e = absurd (ne e)
passed false n r ne e = (refl, e)

pub go_on : {xs : List Check} (ys : List Check) → All Refuses xs → number_of (first_of xs) ≡ 0 → first_of (xs ++ ys) ≡ first_of ys
unfolding first_of
go_on ys done e = refl
go_on ys (also (refuses {applies = applies} {n = n} ne) rest) e =
    let p = passed applies n _ ne e in
    rw p.0 (go_on ys rest p.1)

-- the same of what a call's parts answer: the front refuses, or it passes and the rest decides
pub front_refuses : {n : Number} (xs ys : List Check) → (n ≡ first_of xs) × (number_of n ≢ 0) → (n ≡ first_of (xs ++ ys)) × (number_of n ≢ 0)
front_refuses xs ys h = (stopped xs ys h.0 h.1, h.1)

pub rest_decides : {xs : List Check} (ys : List Check) (r : Result (Unit {0}) Number) → All Refuses xs → number_of (first_of xs) ≡ 0 → Judged (first_of ys) r
    → Judged (first_of (xs ++ ys)) r
rest_decides ys r all z j = rw (go_on ys all z) j

pub front_passed : {xs : List Check} (ys : List Check) → All Refuses xs → number_of (first_of (xs ++ ys)) ≡ 0 → (number_of (first_of xs) ≡ 0) × (number_of (first_of ys) ≡ 0)
unfolding first_of number_of
front_passed ys done e = (refl, e)
front_passed ys (also (refuses {applies = applies} {n = n} ne) rest) e =
    let p = passed applies n _ ne e in
    let q = front_passed ys rest p.1 in
    (rw p.0 q.0, q.1)

-- ---- checks 1 and 2

pub sizes_checks_lem : (board : Board) (g : Geometry) → first_of ((outside g ⇒ No.Geometry) ∷ (inexact g board ⇒ No.Buffer) ∷ []) ≡ format_number board g
unfolding format_number
sizes_checks_lem board g = refl

module _ (board : Board) (g : Geometry) where
  pub outside_stops : outside g ≡ true → No.Geometry ≡ format_number board g
  unfolding format_number
  outside_stops o = hit ((inexact g board ⇒ No.Buffer) ∷ []) o

  pub inexact_stops : outside g ≡ false → inexact g board ≡ true → No.Buffer ≡ format_number board g
  unfolding format_number
  inexact_stops o i = miss No.Geometry ((inexact g board ⇒ No.Buffer) ∷ []) o (hit [] i)

  pub both_pass : outside g ≡ false → inexact g board ≡ false → number_of (format_number board g) ≡ 0
  unfolding format_number first_of number_of
  both_pass o i = rw (o, i)

within_bounds : (a b c d : ℕ) → not (leb 1 a && leb a c && leb 1 b && leb b d) ≡ false → (1 ≤ a) × (a ≤ c) × (1 ≤ b) × (b ≤ d)
within_bounds a b c d e =
    let w = leb 1 a in
    let x = leb a c in
    let y = leb 1 b in
    let z = leb b d in
    let all : w && x && y && z ≡ true = not-false _ e in
    let three : w && x && y ≡ true = and_left (w && x && y) z all in
    let two : w && x ≡ true = and_left (w && x) y three in
    (leb-true 1 a (and_left w x two), leb-true a c (and_right w x two), leb-true 1 b (and_right (w && x) y three), leb-true b d (and_right (w && x && y) z all))

exact : (a b c d e f : ℕ) → not (eqb a b && eqb c d && eqb e f) ≡ false → (a ≡ b) × (c ≡ d) × (e ≡ f)
exact a b c d e f h =
    let x = eqb a b in
    let y = eqb c d in
    let z = eqb e f in
    let all : x && y && z ≡ true = not-false _ h in
    let two : x && y ≡ true = and_left (x && y) z all in
    (eqb-true a b (and_left x y two), eqb-true c d (and_right x y two), eqb-true e f (and_right (x && y) z all))

module _ (memory cache table : List ℕ) where
  ready : (g : Geometry) (c : Controller) → outside g ≡ false → inexact g (board_of memory cache table c) ≡ false → Ready g memory cache table
  unfolding outside inexact
  ready g c o i =
      let b = within_bounds g.blocks g.slots 4096 512 o in
      let l = exact (length memory) (8 * memory_words g) (length cache) (64 * g.slots) (length table) g.slots i in
      record { some_block = b.0; blocks = b.1; some_slot = b.2; slots = b.3; memory = l.0; cache = l.1; table = l.2 }

  pub sizes_ready : (g : Geometry) (c : Controller) → number_of (format_number (board_of memory cache table c) g) ≡ 0 → Ready g memory cache table
  unfolding format_number first_of number_of
  sizes_ready g c e =
      let p = passed _ No.Geometry _ (suc-ne-zero 0) e in
      let q = passed _ No.Buffer _ (suc-ne-zero 1) p.1 in
      ready g c p.0 q.0

-- ---- checks 1 to 5

pub common_refuses : (board : Board) (unfit : Bool) → All Refuses (common_checks board unfit)
unfolding common_checks number_of
common_refuses board unfit =
    also (refuses (suc-ne-zero 0))
    (also (refuses (suc-ne-zero 1)) (also (refuses (suc-ne-zero 2)) (also (refuses (suc-ne-zero 3)) (also (refuses (suc-ne-zero 4)) done))))

pub common_goes_on : (board : Board) (unfit : Bool) (checks : List Check) → number_of (first_of (common_checks board unfit)) ≡ 0
    → first_of (common_checks board unfit ++ checks) ≡ first_of checks
common_goes_on board unfit checks e = go_on checks (common_refuses board unfit) e

-- ---- the checks 1 to 4, and then the table's words

module _ (board : Board) (unfit : Bool) where
  abbrev pub last_check : List Check
  last_check = (malformed board ⇒ No.Table) ∷ []

  table_last : first_of (early_checks board unfit ++ last_check) ≡ first_of (common_checks board unfit)
  unfolding early_checks common_checks
  table_last = refl

  pub early_refuses : {n : Number} → (n ≡ first_of (early_checks board unfit)) × (number_of n ≢ 0) → (n ≡ first_of (common_checks board unfit)) × (number_of n ≢ 0)
  early_refuses h = (stopped (early_checks board unfit) last_check h.0 h.1 ∙ table_last, h.1)

  module _ (z : number_of (first_of (early_checks board unfit)) ≡ 0) where
    pub early_passed : Ready (sizes board) board.memory (cache_of board) (table_of board)
    unfolding early_checks common_checks malformed first_of number_of
    early_passed =
        let p1 = passed _ No.Geometry _ (suc-ne-zero 0) z in
        let p2 = passed _ No.Buffer _ (suc-ne-zero 1) p1.1 in
        ready board.memory (cache_of board) (table_of board) (sizes board) board.volatile.controller p1.0
        (or_false (inexact (sizes board) board) unfit p2.0).0

    table_decides : first_of last_check ≡ first_of (common_checks board unfit)
    unfolding early_checks
    table_decides = sym (go_on last_check (all_take 4 (common_refuses board unfit)) z) ∙ table_last

    module _ (formed : Bool) (f : formed ≡ every (well_formed (allows (phase_of board)) (sizes board)) (table_of board)) where
      pub table_stops : not formed ≡ true → No.Table ≡ first_of (common_checks board unfit)
      unfolding malformed
      table_stops q = hit [] (ap not (sym f) ∙ q) ∙ table_decides

      pub all_passed : not formed ≡ false → number_of (first_of (common_checks board unfit)) ≡ 0
      unfolding malformed number_of
      all_passed q = ap number_of (sym (miss No.Table [] (ap not (sym f) ∙ q) none_applies ∙ table_decides))

-- ---- the common checks and one more

module _ (board : Board) (unfit applies : Bool) (last : Number) where
  abbrev numberBy : Number
  numberBy = first_of (common_checks board unfit ++ (applies ⇒ last) ∷ [])

  pub by_common : {n : Number} → (n ≡ first_of (common_checks board unfit)) × (number_of n ≢ 0) → n ≡ numberBy
  by_common h = stopped (common_checks board unfit) ((applies ⇒ last) ∷ []) h.0 h.1

  module _ (z : number_of (first_of (common_checks board unfit)) ≡ 0) where
    goes_on : numberBy ≡ first_of ((applies ⇒ last) ∷ [])
    goes_on = common_goes_on board unfit ((applies ⇒ last) ∷ []) z

    pub by_last : applies ≡ true → last ≡ numberBy
    by_last q = hit [] q ∙ sym goes_on

    pub by_none : applies ≡ false → No.Done ≡ numberBy
    by_none q = miss last [] q none_applies ∙ sym goes_on

pub done_number : {n : Number} → No.Done ≡ n → number_of n ≡ 0
unfolding number_of
done_number e = ap number_of (sym e)

pub range_refuses : number_of No.Range ≢ 0
unfolding number_of
range_refuses = suc-ne-zero 5

pub table_refuses : number_of No.Table ≢ 0
unfolding number_of
table_refuses = suc-ne-zero 4

pub busy_refuses : number_of No.Busy ≢ 0
unfolding number_of
busy_refuses = suc-ne-zero 7

pub lengths : {board : Board} {m c : ℕ} {t : List ℕ} {g : Geometry} {phase : Phase} → Lent board m c t g phase → Lengths board m c (length t)
lengths l = record { memory = l.memory; cache = l.cache; table = ap length l.table }

pub formed_in : {board : Board} {m c : ℕ} {t : List ℕ} {g : Geometry} {phase : Phase} {formed : Bool} → Lent board m c t g phase
    → formed ≡ every (well_formed (allows phase) g) t → formed ≡ every (well_formed (allows (phase_of board)) (sizes board)) (table_of board)
formed_in l e = rw (l.table, l.geometry, l.phase) e

pub board_lengths : (memory cache table : List ℕ) (controller : Controller)
    → Lengths (board_of memory cache table controller) (length memory) (length cache) (length table)
board_lengths memory cache table controller = record { memory = refl; cache = refl; table = refl }

pub lent_now : (memory cache table : List ℕ) (controller : Controller)
    → Lent (board_of memory cache table controller) (length memory) (length cache) table controller.geometry controller.phase
lent_now memory cache table controller = record { memory = refl; cache = refl; table = refl; geometry = refl; phase = refl }

-- some board of these lengths, so that what holds of all of them holds of the sizes and the table
module _ (m c : ℕ) (t : List ℕ) (g : Geometry) (now : Phase) where
  abbrev pub sample : Board
  sample = board_of (replicate m 0) (replicate c 0) t (record { geometry = g; registers = []; finished = A; phase = now })

  pub sample_lengths : Lengths sample m c (length t)
  sample_lengths = record { memory = length-replicate m 0; cache = length-replicate c 0; table = refl }

-- what a call knows of the board once its checks 1 to 5 are passed
pub record Passed (memory cache table : List ℕ) (controller : Controller) (unfit : Bool) : Type 0 where
  pub ready : Ready controller.geometry memory cache table
  pub fit : unfit ≡ false
  pub count : count_of controller.phase ≤ controller.geometry.slots + 8
  pub awake : is_off controller.phase ≡ false
  pub formed : every (well_formed (allows controller.phase) controller.geometry) table ≡ true

count_fits : (g : Geometry) (phase : Phase) → over_count g phase ≡ false → count_of phase ≤ g.slots + 8
unfolding over_count count_of
count_fits g Running e = omega arith
count_fits g (Writing count) e = ltb-false (g.slots + 8) count e
count_fits g Off e = omega arith

module _ (memory cache table : List ℕ) (controller : Controller) (unfit : Bool) where
  pub common_passed : (checks : List Check) → number_of (first_of (common_checks (board_of memory cache table controller) unfit ++ checks)) ≡ 0
      → Passed memory cache table controller unfit × (number_of (first_of checks) ≡ 0)
  unfolding common_checks first_of number_of malformed
  common_passed checks e =
      let g = controller.geometry in
      let p1 = passed _ No.Geometry _ (suc-ne-zero 0) e in
      let p2 = passed _ No.Buffer _ (suc-ne-zero 1) p1.1 in
      let p3 = passed _ No.Record _ (suc-ne-zero 2) p2.1 in
      let p4 = passed _ No.Off _ (suc-ne-zero 3) p3.1 in
      let p5 = passed _ No.Table _ (suc-ne-zero 4) p4.1 in
      let b = or_false (inexact g (board_of memory cache table controller)) unfit p2.0 in (
        record {
          ready = ready memory cache table g controller p1.0 b.0;
          fit = b.1;
          count = count_fits g controller.phase p3.0;
          awake = p4.0;
          formed = not-false _ p5.0;
        },
        p5.1,
      )
