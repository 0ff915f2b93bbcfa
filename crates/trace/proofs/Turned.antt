-- A field's turn, from the call that it asks for and the line that is put.
use Rattle.std.specs.declared.option.Option.TheVariants.{Some}
use Rattle.std.specs.declared.ops.ControlFlow.{ControlFlow}
use mathlib.Core.Path.{◌≡◌, sym, ap, ◌∙◌, subst}
use mathlib.Core.Bool.{true, false, cond}
use mathlib.Core.List.{List, [], ◌∷◌}
use Rattle.std.specs.Prelude.{Option}
use Prim.Native.Nat.{ℕ}
use lib.Dec.{eqb}
use Rattle.rules.specs.declared.Geometry.{Geometry}
use Rattle.rules.specs.declared.Controller.{Controller}
use Rattle.rules.specs.declared.Number.{Number}
use Rattle.rules.specs.declared.Number.TheVariants as No
use Rattle.rules.specs.declared.Answer.{Answer}
use Rattle.rules.specs.declared.Recovery.{Recovery}
use Rattle.rules.specs.Board.{Board}
use Rattle.rules.specs.Numbers.{number_of}
use Rattle.rules.specs.Power.{Outcome}
use Rattle.rules.specs.Starts.{registers_given, registers_of, Recovered}
use Rattle.rules.specs.Calls.{Call}
use Rattle.checks.specs.Answers.{answer_of}
use Rattle.lines.specs.Lines.{hex_bytes}
use Rattle.loads.specs.Reading.{read_of}
use Rattle.trace.specs.declared.Bench as D
use Rattle.asking.specs.declared.Asked.{Asked}
use Rattle.asking.specs.declared.Asked.TheVariants.{Load, Allow}
use Rattle.asking.specs.Asking.{asked}
use Rattle.lending.specs.declared.Arrays.{Arrays}
use Rattle.lending.specs.Lending.{board_in, outcome_in, called}
use Rattle.trace.specs.Trace.{Allowance, Bench, Turned, Turns, bench_of, ends, shown, register_text, shown_register, turned_by, turned}

-- by what the field asks for
pub turned_as : (bench : Bench) (number tag : ℕ) (value : List ℕ) {asks asks' : Asked} {slice slice' : List ℕ} {after : D.Bench} {r : ControlFlow ℕ ℕ}
    → asks ≡ asked tag value → asks ≡ asks'
    → Turns (turned_by bench number value asks') slice slice' after r → Turns (turned bench number tag value) slice slice' after r
unfolding turned
turned_as bench number tag value {asks} {asks'} {slice} {slice'} {after} {r} e f t =
    subst (λ (z : Asked). Turns (turned_by bench number value z) slice slice' after r) (sym f ∙ e) t

-- a load of so many bytes
pub load_as : (bench : Bench) (number : ℕ) (value : List ℕ) (block offset : ℕ) {len len' : ℕ} {slice slice' : List ℕ} {after : D.Bench} {r : ControlFlow ℕ ℕ} → len ≡ len'
    → Turns (turned_by bench number value (Load block offset len)) slice slice' after r → Turns (turned_by bench number value (Load block offset len')) slice slice' after r
load_as bench number value block offset {slice = slice} {slice' = slice'} {after = after} {r = r} e t =
    subst (λ (z : ℕ). Turns (turned_by bench number value (Load block offset z)) slice slice' after r) e t

-- what is shown of the registers, by the number and what is said of them
shows_as : (o : Outcome) {n : Number} {z : Option (List ℕ)} → n ≡ o.number → z ≡ registers_given o.gives
    → cond (eqb (number_of n) 0) (register_text z ∷ []) [] ≡ shown_register o
unfolding shown_register
shows_as o p q = λ i. cond (eqb (number_of (p i)) 0) (register_text (q i) ∷ []) []

module _ (number : ℕ) (allowance : Allowance) {slice slice' : List ℕ} {after : D.Bench} {r : ControlFlow ℕ ℕ} where
  -- a call under the allowance q, which is p
  pub ended_by : {p q : ℕ} (board : Board) (g : Geometry) (c : Call) {o : Outcome} → q ≡ p → called q board g c ≡ o
      → Turns (ends number allowance [] o) slice slice' after r
      → Turns (ends number allowance [] (called p board g c)) slice slice' after r
  ended_by {p} {q} board g c {o} w e t =
      subst (λ (z : Outcome). Turns (ends number allowance [] z) slice slice' after r) (sym e ∙ ap (λ (z : ℕ). called z board g c) w) t

  module _ {o : Outcome} (arrays : Arrays) {k : Controller} {n : Number} (into : List ℕ) (e : o ≡ read_of (board_in arrays k) n into) {a : Answer} (f : a ≡ answer_of n 0 k) where
    pub load_refused : eqb (number_of n) 0 ≡ false → Turns (ends number allowance [] (outcome_in a arrays)) slice slice' after r
        → Turns (ends number allowance (shown o o.gives) o) slice slice' after r
    unfolding ends shown
    load_refused b t = rw (e, b) (rw f at t)

    pub load_accepted : eqb (number_of n) 0 ≡ true → Turns (ends number allowance (hex_bytes into ∷ []) (outcome_in a arrays)) slice slice' after r
        → Turns (ends number allowance (shown o o.gives) o) slice slice' after r
    unfolding ends shown
    load_accepted b t = rw (e, b) (rw f at t)

  -- the end of a recovery, by what its answer says
  module _ {o : Outcome} {v : Recovery} (arrays : Arrays) (e : Recovered o v arrays.memory arrays.cache arrays.table) where
    ends_as : (shows shows' : List (List ℕ)) → shows ≡ shows' → Turns (ends number allowance shows (outcome_in v.answer arrays)) slice slice' after r
        → Turns (ends number allowance shows' o) slice slice' after r
    unfolding ends
    ends_as shows shows' q t =
        subst (λ (z : Turned). Turns z slice slice' after r)
        (λ i. ends number allowance (q i) (record { number = e.number i; words = e.words i; gives = o.gives; board = e.board i })) t

    pub recover_refused : eqb (number_of v.answer.number) 0 ≡ false → Turns (ends number allowance [] (outcome_in v.answer arrays)) slice slice' after r
        → Turns (ends number allowance (shown_register o) o) slice slice' after r
    recover_refused b t = ends_as [] (shown_register o) (rw b at (shows_as o e.number e.registers)) t

    pub recover_accepted : {z : Option (List ℕ)} → eqb (number_of v.answer.number) 0 ≡ true → registers_of v.registers v.answer.controller.registers ≡ z
        → Turns (ends number allowance (register_text z ∷ []) (outcome_in v.answer arrays)) slice slice' after r
        → Turns (ends number allowance (shown_register o) o) slice slice' after r
    recover_accepted {z} b q t = ends_as (register_text z ∷ []) (shown_register o) (rw b at (shows_as o e.number (sym q ∙ e.registers))) t

pub allowed_as : (number p : ℕ) (bench : D.Bench) {slice slice' : List ℕ} {after : D.Bench} {r : ControlFlow ℕ ℕ} (value : List ℕ) {a : Answer}
    → a ≡ answer_of No.Done 0 bench.controller → Turns (ends number (Some p) [] (outcome_in a bench.arrays)) slice slice' after r
    → Turns (turned_by (bench_of bench) number value (Allow p)) slice slice' after r
unfolding turned_by ends number_of
allowed_as number p bench value e t = rw e at t
