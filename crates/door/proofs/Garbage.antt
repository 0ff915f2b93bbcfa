-- A recovery's record may hold any 90 bytes.
use mathlib.Core.Path.{◌≡◌, refl, sym, ap, ◌∙◌}
use mathlib.Core.Logic.{◌≢◌}
use mathlib.Core.Bool.{Bool, true, false, cond}
use mathlib.Core.List.{List}
use Rattle.std.specs.Prelude.{Option, None, Some}
use Prim.Native.Nat.{ℕ}
use native.Mathlib.Omega.{arith}
use lib.Dec.{eqb, leb}
use lib.ListN.{length}
use borrow.Author.Tests.{eqb-true, eqb-false}
use Rattle.words.specs.Words.{Store}
use Rattle.rules.specs.declared.Geometry.{Geometry}
use Rattle.rules.specs.declared.Backup.{Backup}
use Rattle.rules.specs.declared.Controller.{Controller}
use Rattle.rules.specs.declared.Number.{Number}
use Rattle.rules.specs.declared.Number.TheVariants as No
use Rattle.rules.specs.Board.{Board, Volatile, board_of}
use Rattle.rules.specs.Numbers.{number_of, inexact}
use Rattle.rules.specs.Power.{Plan, refuse, carry, guard, settle, Outcome, whole, cut}
use Rattle.rules.specs.Starts.{finished_in, recover_number, recover_from, recover_plan}
use Rattle.rules.specs.Calls.{recover, plan, call}
use Rattle.codec.specs.Supposed.{supposed}
use Rattle.tabled.specs.Tabled.{changes, table_words}
use Rattle.door.specs.Doors as D
use Rattle.door.specs.Promises.{SameRecovery, AnyRecord}
use Rattle.door.proofs.Through.{goes_on, refused_early}

-- ---- two outcomes that differ in what they keep of the board alone

pub record Alike (o o' : Outcome) : Type 0 where
  pub numbers : o.number ≡ o'.number
  pub words : o.words ≡ o'.words
  pub gives : o.gives ≡ o'.gives
  pub boards : number_of o.number ≡ 0 → o.board ≡ o'.board

-- one plan on two boards of the same memory
either : (p : ℕ) (board board' : Board) (stores : List Store) (after : Volatile) (gives : List ℕ) → board.memory ≡ board'.memory → (t : Bool)
    → Alike (cond t (whole board stores after gives) (cut p board stores after)) (cond t (whole board' stores after gives) (cut p board' stores after))
unfolding number_of
either p board board' stores after gives e true = record { numbers = refl; words = refl; gives = refl; boards = λ z. rw e }
either p board board' stores after gives e false = record { numbers = refl; words = refl; gives = refl; boards = λ z. absurd (omega (arith, z)) }

-- a plan that refuses says so
data Says : Plan → Type 0 where
  refuses : {n : Number} → number_of n ≢ 0 → Says (refuse n)
  carries : {stores : List Store} {after : Volatile} {gives : List ℕ} → Says (carry stores after gives)

settled_alike : (p : ℕ) (board board' : Board) → board.memory ≡ board'.memory → {q : Plan} → Says q → Alike (settle p board q) (settle p board' q)
unfolding settle
settled_alike p board board' e (refuses ne) = record { numbers = refl; words = refl; gives = refl; boards = λ z. absurd (ne z) }
settled_alike p board board' e (carries {stores} {after} {gives}) = either p board board' stores after gives e (leb (length stores) p)

guarded : (n : Number) (q : Plan) → Says q → (t : Bool) → eqb (number_of n) 0 ≡ t → Says (cond t q (refuse n))
guarded n q s true e = s
guarded n q s false e = refuses (eqb-false (number_of n) 0 e)

from_says : (board : Board) (g : Geometry) (finished : Option Backup) → Says (recover_from board g finished)
unfolding recover_from number_of
from_says board g None = refuses {n = No.NoCheckpoint} (λ z. omega (arith, z))
from_says board g (Some backup) = carries

recovery_says : (board : Board) (g : Geometry) → Says (plan board (recover g))
unfolding plan recover_plan guard
recovery_says board g =
    let n = recover_number board g (finished_in g board.memory) in
    guarded n (recover_from board g (finished_in g board.memory)) (from_says board g (finished_in g board.memory)) (eqb (number_of n) 0) refl

-- a recovery's plan reads nothing of the record
module _ (memory cache table : List ℕ) (k k' : Controller) (g : Geometry) where
  same_from : (finished : Option Backup) → recover_from (board_of memory cache table k) g finished ≡ recover_from (board_of memory cache table k') g finished
  unfolding recover_from
  same_from None = refl
  same_from (Some backup) = refl

  same_plan : plan (board_of memory cache table k) (recover g) ≡ plan (board_of memory cache table k') (recover g)
  unfolding plan recover_plan recover_number inexact
  same_plan = ap (guard (recover_number (board_of memory cache table k) g (finished_in g memory))) (same_from (finished_in g memory))

recoveries_alike : (p : ℕ) (memory cache table : List ℕ) (k k' : Controller) (g : Geometry)
    → Alike (call p (board_of memory cache table k) (recover g)) (call p (board_of memory cache table k') (recover g))
unfolding call
recoveries_alike p memory cache table k k' g =
    let a = settled_alike p (board_of memory cache table k) (board_of memory cache table k') refl (recovery_says (board_of memory cache table k) g) in
    rw (← same_plan memory cache table k k' g) a

-- ---- through the door

module _ (p : ℕ) (memory cache table one other : List ℕ) (g : Geometry) (h : length one ≡ 90) (h' : length other ≡ 90) where
  abbrev l : D.Lent
  l = D.lent_of memory cache table one

  abbrev l' : D.Lent
  l' = D.lent_of memory cache table other

  early_alike : D.early (recover g) l ≡ D.early (recover g) l'
  unfolding D.early D.no_record D.sizes_for
  early_alike = rw (h, h')

  cases : (b : Bool) → eqb (D.early (recover g) l) 0 ≡ b → SameRecovery (D.door p l (recover g)) (D.door p l' (recover g))
  unfolding D.left_by changes
  cases true e =
      let z = eqb-true (D.early (recover g) l) 0 e in
      let a = recoveries_alike p memory cache (table_words table) (supposed one) (supposed other) g in
      rw (goes_on p l (recover g) refl z, goes_on p l' (recover g) refl (sym early_alike ∙ z))
      (record {
        numbers = ap number_of a.numbers;
        words = a.words;
        gives = a.gives;
        bytes = λ done. rw (done, sym (ap number_of a.numbers) ∙ done) (ap D.bytes_of (a.boards done));
      })
  cases false e =
      let ne = eqb-false (D.early (recover g) l) 0 e in
      rw (refused_early p l (recover g) refl ne, refused_early p l' (recover g) {n = D.early (recover g) l} early_alike ne)
      (record { numbers = refl; words = refl; gives = refl; bytes = λ z. absurd (ne z) })

pub any_record_lem : AnyRecord
unfolding AnyRecord
any_record_lem p memory cache table one other g h h' = cases p memory cache table one other g h h' (eqb (D.early (recover g) (D.lent_of memory cache table one)) 0) refl
