-- What a recovery's answer says of the registers: of a refusal, of a picture, and where there are none.
use mathlib.Core.Path.{◌≡◌, refl, sym, ap, ◌∙◌}
use mathlib.Core.Logic.{◌≢◌}
use mathlib.Core.Bool.{Bool, true, false, cond}
use mathlib.Core.List.{List, []}
use Rattle.std.specs.Prelude.{Option, None, Some}
use Prim.Native.Nat.{ℕ}
use lib.Dec.{eqb}
use Rattle.rules.specs.declared.Geometry.{Geometry}
use Rattle.rules.specs.declared.Backup.{Backup}
use Rattle.rules.specs.declared.Number.{Number}
use Rattle.rules.specs.declared.Registers.{Registers}
use Rattle.rules.specs.declared.Registers.TheVariants.{Saved, Absent}
use Rattle.rules.specs.Board.{Board}
use Rattle.rules.specs.Numbers.{number_of}
use Rattle.rules.specs.Power.{refuse, guard, Outcome, settle}
use Rattle.rules.specs.Starts.{finished_in, recover_number, recover_from, recover_plan, registers_given, registers_of}
use Rattle.rules.specs.Calls.{recover, plan, call}
use Rattle.rules.proofs.Clashes.{none_some}
use Rattle.rules.proofs.Answers.{carry_nothing}
use Rattle.starts.specs.Promises.{RefusedSaysNone, SaysThePicture, SaysNone}

said_absent : (registers : Registers) (bytes : List ℕ) → registers_of registers bytes ≡ None → registers ≡ Absent
said_absent Saved bytes e = absurd (none_some bytes (sym e))
said_absent Absent bytes e = refl

-- a recovery that isn't accepted hands out nothing
gives_nothing : (p : ℕ) (board : Board) (g : Geometry) → number_of (call p board (recover g)).number ≢ 0 → (call p board (recover g)).gives ≡ []
unfolding call plan recover_plan guard settle recover_from number_of
gives_nothing p board g = go (eqb (number_of (recover_number board g (finished_in g board.memory))) 0) (finished_in g board.memory)
  where
    n : Number
    n = recover_number board g (finished_in g board.memory)

    out : Bool → Option Backup → Outcome
    out passed finished = settle p board (cond passed (recover_from board g finished) (refuse n))

    go : (passed : Bool) (finished : Option Backup) → number_of (out passed finished).number ≢ 0 → (out passed finished).gives ≡ []
    go true None ne = refl
    go true (Some backup) ne = absurd (ne (ap (λ (o : Outcome). number_of o.number) (carry_nothing p board _ _)))
    go false finished ne = refl

pub refused_says_none : RefusedSaysNone
unfolding RefusedSaysNone registers_given
refused_says_none p board g r memory cache table v ne =
    said_absent r.registers r.answer.controller.registers
    (v.registers ∙ ap registers_given (gives_nothing p board g (λ e. ne (ap number_of v.number ∙ e))))

pub says_the_picture : SaysThePicture
unfolding SaysThePicture
says_the_picture g picture outcome r memory cache table gives v = v.registers ∙ gives.registers

pub says_none : SaysNone
unfolding SaysNone
says_none outcome r memory cache table without v = (
  ap number_of v.number ∙ without.accepted,
  said_absent r.registers r.answer.controller.registers (v.registers ∙ without.registers),
  ap (λ (z : Board). z.volatile.controller.registers) v.board ∙ without.in_record,
)
