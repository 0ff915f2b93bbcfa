-- The new form's recovery: behind the header it is the old form's, on the memory without the two words.
use mathlib.Core.Path.{◌≡◌, refl, ap, ◌∙◌}
use mathlib.Core.Bool.{Bool, true, false, cond}
use mathlib.Core.List.{List, []}
use Rattle.std.specs.Prelude.{Option, None, Some}
use Prim.Native.Nat.{ℕ}
use lib.Dec.{eqb, leb-zero}
use lib.Seq.{take-nil}
use Rattle.words.specs.Words.{lay}
use Rattle.rules.specs.declared.Geometry.{Geometry}
use Rattle.rules.specs.declared.Backup.{Backup}
use Rattle.rules.specs.declared.Number.{Number}
use Rattle.rules.specs.Board.{Board, Volatile}
use Rattle.rules.specs.Numbers.{number_of, first_of}
use Rattle.rules.specs.Power.{Plan, refuse, carry, guard, settle, stored}
use Rattle.rules.specs.Starts.{finished_in, recover_number, recover_from}
use Rattle.rules.specs.Starts as Starts
use Rattle.rules.specs.Calls as Old
use Rattle.forms.specs.Stored.{header_of, without, old_board}
use Rattle.forms.specs.Calls.{header_checks, headed_number, recover_plan, recover, call}
use Rattle.forms.specs.Runs.{shortened}
use Rattle.forms.proofs.Checking.{heads}

-- ---- plans that store no word

data Storeless : Plan → Type 0 where
  refuses : {n : Number} → Storeless (refuse n)
  carries : {after : Volatile} {gives : List ℕ} → Storeless (carry [] after gives)

guarded : (n : Number) {q : Plan} → Storeless q → Storeless (guard n q)
unfolding guard
guarded n {q} s = go (eqb (number_of n) 0)
  where
    go : (b : Bool) → Storeless (cond b q (refuse n))
    go true = s
    go false = refuses

from_storeless : (board : Board) (g : Geometry) (finished : Option Backup) → Storeless (recover_from board g finished)
unfolding recover_from
from_storeless board g None = refuses
from_storeless board g (Some backup) = carries

-- such a plan leaves the memory, and does on the longer one what it does on the old
pub record AsOld (p : ℕ) (board : Board) (q : Plan) : Type 0 where
  pub memory : (settle p board q).board.memory ≡ board.memory
  pub same : shortened (settle p board q) ≡ settle p (old_board board) q

as_old : (p : ℕ) (board : Board) {q : Plan} → Storeless q → AsOld p board q
unfolding settle lay
as_old p board refuses = record { memory = refl; same = refl }
as_old p board carries = record { memory = rw (leb-zero p); same = rw (leb-zero p) }

-- ---- the plan

pub same_plan : (board : Board) (g : Geometry) → number_of (first_of (header_checks true (header_of g board.memory))) ≡ 0 → recover_plan board g ≡ Starts.recover_plan (old_board board) g
unfolding recover_plan Starts.recover_plan
same_plan board g h =
    ap (λ (n : Number). guard n (recover_from (old_board board) g (finished_in g (without board.memory)))) (heads true board g h)

plan_storeless : (board : Board) (g : Geometry) → Storeless (recover_plan board g)
unfolding recover_plan
plan_storeless board g = guarded (headed_number true board g) (from_storeless (old_board board) g (finished_in g (without board.memory)))

none_stored : (p : ℕ) {q : Plan} → Storeless q → stored p q ≡ []
unfolding stored
none_stored p refuses = refl
none_stored p carries = take-nil p

pub recover_stores : (p : ℕ) (board : Board) (g : Geometry) → stored p (Old.plan board (Old.recover g)) ≡ []
unfolding Old.plan Starts.recover_plan
recover_stores p board g =
    none_stored p (guarded (recover_number board g (finished_in g board.memory)) (from_storeless board g (finished_in g board.memory)))

-- it leaves the memory, whatever it answers
pub recover_memory : (p : ℕ) (board : Board) (g : Geometry) → (call p board (recover g)).board.memory ≡ board.memory
unfolding call
recover_memory p board g = (as_old p board (plan_storeless board g)).memory

pub recover_same : (p : ℕ) (board : Board) (g : Geometry) → number_of (first_of (header_checks true (header_of g board.memory))) ≡ 0
    → shortened (call p board (recover g)) ≡ Old.call p (old_board board) (Old.recover g)
unfolding call Old.call Old.plan
recover_same p board g h = (as_old p board (plan_storeless board g)).same ∙ ap (settle p (old_board board)) (same_plan board g h)
