-- The checks of the new form's calls, link by link, and what is known once they are passed.
use mathlib.Core.Path.{◌≡◌, refl, sym, ap, ◌∙◌, subst}
use mathlib.Core.Logic.{◌≢◌}
use mathlib.Core.Bool.{Bool, true, false, not, ◌&&◌}
use mathlib.Core.List.{List, [], ◌∷◌, ◌++◌}
use Rattle.std.specs.Prelude.{None, Some, Result}
use Prim.Native.Nat.{ℕ, ◌+◌, ◌*◌, ◌-◌, ◌<◌}
use native.Mathlib.Omega.{arith}
use native.Mathlib.Nat.{suc-ne-zero}
use lib.Dec.{eqb}
use lib.ListN.{length, take}
use lib.Seq.{length-take-le}
use borrow.Author.Tests.{eqb-true, eqb-false, eq-eqb, ne_eqb}
use Rattle.words.proofs.All.{All, done, also, all_append}
use Rattle.rules.specs.declared.Geometry.{Geometry}
use Rattle.rules.specs.declared.Backup.{Backup}
use Rattle.rules.specs.declared.Backup.TheVariants.{A}
use Rattle.rules.specs.declared.Phase.TheVariants.{Off}
use Rattle.rules.specs.declared.Controller.{Controller}
use Rattle.rules.specs.declared.Number.{Number}
use Rattle.rules.specs.declared.Number.TheVariants as No
use Rattle.rules.specs.Geometry.{memory_words}
use Rattle.rules.specs.Board.{Board, Volatile, board_of, cache_of, table_of}
use Rattle.rules.specs.Numbers.{number_of, Check, ◌⇒◌, first_of, outside, inexact}
use Rattle.rules.specs.Starts.{finished_in, format_number, table_in, sound, no_checkpoint, unsound, recovery_checks, recover_number}
use Rattle.rules.proofs.Checked.{Lent, sizes_passed}
use Rattle.checks.specs.Ready.{Ready}
use Rattle.checks.specs.Results.{Judged}
use Rattle.checks.proofs.Passed.{front_refuses, rest_decides, Refuses, refuses, go_on, front_passed, sizes_ready}
use Rattle.forms.specs.declared.Header.{Header}
use Rattle.forms.specs.declared.Header.TheVariants.{Missing, Fits, Other}
use Rattle.forms.specs.Stored.{long_words, header_of, without, old_board}
use Rattle.forms.specs.Calls.{long_inexact, sizes_checks, is_missing, is_other, header_checks, headed_number}

-- ---- BUFFER, by the memory without the two words

pub without-length : (memory : List ℕ) → length (without memory) ≡ length memory - 16
unfolding without
without-length memory = length-take-le (length memory - 16) memory (omega arith)

-- no board has a memory of 0 words, so 16 bytes less is exact where 16 bytes more is
same_test : (n words : ℕ) → 0 < words → eqb n (8 * (words + 2)) ≡ eqb (n - 16) (8 * words)
same_test n words h = go (eqb n (8 * (words + 2))) refl
  where
    go : (b : Bool) → eqb n (8 * (words + 2)) ≡ b → eqb n (8 * (words + 2)) ≡ eqb (n - 16) (8 * words)
    go true e = e ∙ sym (eq-eqb (n - 16) (8 * words) (let q = eqb-true n (8 * (words + 2)) e in omega (arith, q)))
    go false e = e ∙ sym (ne_eqb (n - 16) (8 * words) (let q = eqb-false n (8 * (words + 2)) e in omega (arith, q, h)))

pub long_inexact_lem : (g : Geometry) (board : Board) → long_inexact g board ≡ inexact g (old_board board)
unfolding long_inexact inexact
long_inexact_lem g board =
    let n = length board.memory in
    ap (λ (b : Bool). not (b && eqb (length (cache_of board)) (64 * g.slots) && eqb (length (table_of board)) g.slots))
    (same_test n (memory_words g) (omega arith) ∙ ap (λ (k : ℕ). eqb k (8 * memory_words g)) (sym (without-length board.memory)))

pub too_short : (g : Geometry) (board : Board) → length board.memory < 16 → long_inexact g board ≡ true
unfolding long_inexact
too_short g board h = rw (ne_eqb (length board.memory) (8 * long_words g) (omega (arith, h)))

-- ---- each part of the chain

pub sizes_are : (board : Board) (g : Geometry) → first_of (sizes_checks board g) ≡ format_number (old_board board) g
unfolding format_number first_of
sizes_are board g = rw (long_inexact_lem g board)

pub sizes_refuse : (board : Board) (g : Geometry) → All Refuses (sizes_checks board g)
unfolding number_of
sizes_refuse board g = also (refuses (suc-ne-zero 0)) (also (refuses (suc-ne-zero 1)) done)

pub header_refuse : (needed : Bool) (header : Header) → All Refuses (header_checks needed header)
unfolding header_checks number_of
header_refuse true header = also (refuses (suc-ne-zero 12)) (also (refuses (suc-ne-zero 13)) done)
header_refuse false header = also (refuses (suc-ne-zero 13)) done

pub fits_passes : (needed : Bool) → No.Done ≡ first_of (header_checks needed Fits)
unfolding header_checks first_of is_missing is_other
fits_passes true = refl
fits_passes false = refl

pub header_passes : (needed : Bool) (g : Geometry) (memory : List ℕ) → header_of g memory ≡ Fits → number_of (first_of (header_checks needed (header_of g memory))) ≡ 0
unfolding number_of
header_passes needed g memory e = ap (λ (header : Header). number_of (first_of (header_checks needed header))) e ∙ ap number_of (sym (fits_passes needed))

pub missing_stops : No.NoHeader ≡ first_of (header_checks true Missing)
unfolding header_checks first_of is_missing is_other
missing_stops = refl

pub other_stops : (needed : Bool) → No.WrongBoard ≡ first_of (header_checks needed Other)
unfolding header_checks first_of is_missing is_other
other_stops true = refl
other_stops false = refl

-- GEOMETRY, BUFFER, 13 and 14
abbrev pub named_checks : Bool → Board → Geometry → List Check
named_checks needed board g = sizes_checks board g ++ header_checks needed (header_of g board.memory)

pub named_refuse : (needed : Bool) (board : Board) (g : Geometry) → All Refuses (named_checks needed board g)
named_refuse needed board g = all_append (sizes_refuse board g) (header_refuse needed (header_of g board.memory))

abbrev pub last_checks : Board → Geometry → List Check
last_checks board g = recovery_checks (old_board board) g (finished_in g (without board.memory))

pub headed_is : (needed : Bool) (board : Board) (g : Geometry) → headed_number needed board g ≡ first_of (named_checks needed board g ++ last_checks board g)
unfolding headed_number
headed_is needed board g = refl

-- no check's number is that of CUT
data Uncut : Check → Type 0 where
  uncut : {applies : Bool} (n : Number) → number_of n < 20 → Uncut (applies ⇒ n)

first_uncut : {xs : List Check} → All Uncut xs → number_of (first_of xs) < 20
unfolding first_of number_of
first_uncut done = omega arith
first_uncut (also (uncut {applies = true} n small) rest) = small
first_uncut (also (uncut {applies = false} n small) rest) = first_uncut rest

header_uncut : (needed : Bool) (header : Header) → All Uncut (header_checks needed header)
unfolding header_checks number_of
header_uncut true header = also (uncut No.NoHeader (omega arith)) (also (uncut No.WrongBoard (omega arith)) done)
header_uncut false header = also (uncut No.WrongBoard (omega arith)) done

all_sizes_uncut : (board : Board) (g : Geometry) → All Uncut (sizes_checks board g)
unfolding number_of
all_sizes_uncut board g = also (uncut No.Geometry (omega arith)) (also (uncut No.Buffer (omega arith)) done)

pub sizes_uncut : (board : Board) (g : Geometry) → number_of (first_of (sizes_checks board g)) ≢ 20
sizes_uncut board g z = let small = first_uncut (all_sizes_uncut board g) in omega (arith, small, z)

pub headed_uncut : (needed : Bool) (board : Board) (g : Geometry) → number_of (headed_number needed board g) ≢ 20
unfolding number_of
headed_uncut needed board g z =
    let last : All Uncut (last_checks board g) = also (uncut No.NoCheckpoint (omega arith)) (also (uncut No.Backup (omega arith)) done) in
    let small = first_uncut (all_append (all_append (all_sizes_uncut board g) (header_uncut needed (header_of g board.memory))) last) in
    let e = ap number_of (sym (headed_is needed board g)) ∙ z in
    omega (arith, small, e)

-- ---- a call that finds its number part by part

module _ (needed : Bool) (board : Board) (g : Geometry) where
  pub named_stops : {n : Number} → (n ≡ first_of (sizes_checks board g)) × (number_of n ≢ 0) → (n ≡ first_of (named_checks needed board g)) × (number_of n ≢ 0)
  named_stops h = front_refuses (sizes_checks board g) (header_checks needed (header_of g board.memory)) h

  pub named_goes : (r : Result (Unit {0}) Number) → number_of (first_of (sizes_checks board g)) ≡ 0 → Judged (first_of (header_checks needed (header_of g board.memory))) r
      → Judged (first_of (named_checks needed board g)) r
  named_goes r z j = rest_decides (header_checks needed (header_of g board.memory)) r (sizes_refuse board g) z j

  pub headed_stops : {n : Number} → (n ≡ first_of (named_checks needed board g)) × (number_of n ≢ 0) → (n ≡ headed_number needed board g) × (number_of n ≢ 0)
  headed_stops h = rw (headed_is needed board g) (front_refuses (named_checks needed board g) (last_checks board g) h)

  pub headed_goes : (r : Result (Unit {0}) Number) → number_of (first_of (named_checks needed board g)) ≡ 0 → Judged (first_of (last_checks board g)) r → Judged (headed_number needed board g) r
  headed_goes r z j = rw (headed_is needed board g) (rest_decides (last_checks board g) r (named_refuse needed board g) z j)

-- ---- whether a memory of the old form recovers

module _ (g : Geometry) (memory : List ℕ) (side : Volatile) where
  abbrev checks : List Check
  checks = recovery_checks (record { memory = memory; volatile = side }) g (finished_in g memory)

  pub no_checkpoint_lem : finished_in g memory ≡ None → No.NoCheckpoint ≡ first_of checks
  unfolding first_of no_checkpoint
  no_checkpoint_lem f = rw f

  pub not_sound : (backup : Backup) → finished_in g memory ≡ Some backup → sound g (table_in g memory backup) ≡ false → No.Backup ≡ first_of checks
  unfolding first_of no_checkpoint unsound
  not_sound backup f s = rw (f, s)

  pub all_sound : (backup : Backup) → finished_in g memory ≡ Some backup → sound g (table_in g memory backup) ≡ true → No.Done ≡ first_of checks
  unfolding first_of no_checkpoint unsound
  all_sound backup f s = rw (f, s)

-- ---- what is known once the sizes are passed

pub record Fitted (g : Geometry) (memory cache table : List ℕ) : Type 0 where
  pub size : length memory ≡ 8 * long_words g
  pub ready : Ready g (without memory) cache table

pub fitted : (memory cache table : List ℕ) (k : Controller) (g : Geometry) → number_of (first_of (sizes_checks (board_of memory cache table k) g)) ≡ 0
    → Fitted g memory cache table
fitted memory cache table k g e =
    let r = sizes_ready (without memory) cache table g k (ap number_of (sym (sizes_are (board_of memory cache table k) g)) ∙ e) in
    record { size = (let z = r.memory in omega (arith, without-length memory, z)); ready = r }

-- no check of the sizes asks for the record
abbrev pub any_record : Geometry → Controller
any_record g = record { geometry = g; registers = []; finished = A; phase = Off }

-- the old part of a memory that is long enough
pub without_is : (g : Geometry) (memory : List ℕ) → length memory ≡ 8 * long_words g → without memory ≡ take (8 * memory_words g) memory
unfolding without
without_is g memory e = ap (λ (n : ℕ). take n memory) (let z : length memory - 16 ≡ 8 * memory_words g = omega (arith, e) in z)

-- a call that passed the first four
pub named_passed : (needed : Bool) (memory cache table : List ℕ) (g : Geometry)
    → ((k : Controller) → number_of (first_of (named_checks needed (board_of memory cache table k) g)) ≡ 0) → Fitted g memory cache table
named_passed needed memory cache table g z =
    let k = any_record g in
    fitted memory cache table k g (front_passed (header_checks needed (header_of g memory)) (sizes_refuse (board_of memory cache table k) g) (z k)).0

pub front_length : (memory : List ℕ) (g : Geometry) {words : ℕ} → length memory ≡ 8 * long_words g → words ≡ memory_words g → length (take (8 * words) memory) ≡ 8 * memory_words g
front_length memory g {words} e w = length-take-le (8 * words) memory (omega (arith, e, w)) ∙ ap (λ (n : ℕ). 8 * n) w

-- the last two, read from the first bytes of the memory
pub last_at : (board : Board) (g : Geometry) {words : ℕ} (r : Result (Unit {0}) Number) → length board.memory ≡ 8 * long_words g → words ≡ memory_words g
    → ((side : Volatile) → Judged (first_of (recovery_checks (record { memory = take (8 * words) board.memory; volatile = side }) g (finished_in g (take (8 * words) board.memory)))) r)
    → Judged (first_of (last_checks board g)) r
last_at board g r e w q =
    subst (λ (n : Number). Judged n r)
    (ap (λ (old : List ℕ). first_of (recovery_checks (record { memory = old; volatile = board.volatile }) g (finished_in g old)))
    (ap (λ (n : ℕ). take (8 * n) board.memory) w ∙ sym (without_is g board.memory e)))
    (q board.volatile)

-- of a whole chain
pub record Headed (needed : Bool) (board : Board) (g : Geometry) : Type 0 where
  pub fine : outside g ≡ false
  pub size : length board.memory ≡ 8 * long_words g
  pub lent : Lent g (old_board board)
  pub header : number_of (first_of (header_checks needed (header_of g board.memory))) ≡ 0
  -- the old form's recovery has the same checks
  pub recovers : number_of (recover_number (old_board board) g (finished_in g (without board.memory))) ≡ 0

old_number : (board : Board) (g : Geometry) → recover_number (old_board board) g (finished_in g (without board.memory)) ≡ first_of (sizes_checks board g ++ last_checks board g)
unfolding recover_number
old_number board g = rw (long_inexact_lem g board)

old_passed : (board : Board) (g : Geometry) → number_of (recover_number (old_board board) g (finished_in g (without board.memory))) ≡ 0
    → (outside g ≡ false) × Lent g (old_board board)
unfolding recover_number
old_passed board g e = let q = sizes_passed (old_board board) g (last_checks board g) e in (q.0, q.1)

pub headed : (needed : Bool) (board : Board) (g : Geometry) → number_of (headed_number needed board g) ≡ 0 → Headed needed board g
headed needed board g e =
    let a = front_passed (last_checks board g) (named_refuse needed board g) (ap number_of (sym (headed_is needed board g)) ∙ e) in
    let b = front_passed (header_checks needed (header_of g board.memory)) (sizes_refuse board g) a.0 in
    let old = ap number_of (old_number board g ∙ go_on (last_checks board g) (sizes_refuse board g) b.0) ∙ a.1 in
    let p = old_passed board g old in
    record {
      fine = p.0;
      size = (let z = p.1.memory in omega (arith, without-length board.memory, z));
      lent = p.1;
      header = b.1;
      recovers = old;
    }

pub headed_size : (needed : Bool) (memory cache table : List ℕ) (k : Controller) (g : Geometry) → number_of (headed_number needed (board_of memory cache table k) g) ≡ 0
    → length memory ≡ 8 * long_words g
headed_size needed memory cache table k g z = (headed needed (board_of memory cache table k) g z).size

-- ---- and the other way: behind a header that passes, the number is that of the old form's recovery

behind : (xs ys zs : List Check) → first_of ys ≡ first_of zs → first_of (xs ++ ys) ≡ first_of (xs ++ zs)
unfolding first_of
behind [] ys zs e = e
behind ((true ⇒ n) ∷ xs) ys zs e = refl
behind ((false ⇒ n) ∷ xs) ys zs e = behind xs ys zs e

pub heads : (needed : Bool) (board : Board) (g : Geometry) → number_of (first_of (header_checks needed (header_of g board.memory))) ≡ 0
    → headed_number needed board g ≡ recover_number (old_board board) g (finished_in g (without board.memory))
heads needed board g h =
    headed_is needed board g
    ∙ behind (sizes_checks board g) (header_checks needed (header_of g board.memory) ++ last_checks board g) (last_checks board g) (go_on (last_checks board g) (header_refuse needed (header_of g board.memory)) h)
    ∙ sym (old_number board g)
