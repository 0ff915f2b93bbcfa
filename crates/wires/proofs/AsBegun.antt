-- After a recovery each wire reads as it read when the last finished checkpoint was begun.
use mathlib.Core.Path.{◌≡◌, refl, sym, ap, ◌∙◌, subst}
use mathlib.Core.Bool.{Bool, true, false, cond, not}
use mathlib.Core.List.{List, [], ◌∷◌}
use Rattle.std.specs.Prelude.{Option, None, Some}
use Prim.Native.Nat.{ℕ, zero, suc}
use native.Mathlib.Nat.{suc-ne-zero}
use lib.Dec.{eqb}
use lib.ListN.{length}
use Rattle.words.specs.Words.{Store}
use Rattle.rules.specs.declared.Geometry.{Geometry}
use Rattle.rules.specs.declared.Number.TheVariants as No
use Rattle.rules.specs.Board.{Board, sizes, phase_of}
use Rattle.rules.specs.Numbers.{number_of, is_off, is_writing, ◌⇒◌}
use Rattle.rules.specs.Power.{stored}
use Rattle.rules.specs.Checkpoints.{begin_number, begin_plan}
use Rattle.rules.specs.Calls.{Call, begin, step, plan, call}
use Rattle.rules.specs.PlainMachine.{Picture, Plain, kept_or, did, finish, has_mark, note}
use Rattle.rules.specs.Runs.{Event, does, Run, doing, advance, runs, NoFormat, a_load, a_peek, a_store, a_begin, a_step, a_sweep, run_from}
use Rattle.rules.proofs.Checked.{common_passed}
use Rattle.rules.proofs.Answers.{guard_accepted}
use Rattle.rules.proofs.Invariant.{did_not}
use Rattle.rules.proofs.Demand3.{Good, next, call_good, good_recovers, formatted_good}
use Rattle.rules.proofs.NoneFinished.{kept_later}
use Rattle.wires.specs.Reading.{Gives}
use Rattle.wires.specs.Promises.{GoesOn, loads, peeks, stores, steps, sweeps, fails, OnItsWay, AsBegun}
use Rattle.wires.specs.Promises as P
use Rattle.wires.proofs.Unique.{gives_one}
use Rattle.wires.proofs.Demands.{good_reads, recovers_wires, good_whole}

-- ---- a picture on its way, or kept

-- the checkpoint that is on its way has these blocks, or it is finished and none is on its way
data Coming (blocks : ℕ → List ℕ) (plain : Plain) : Type 0 where
  is_on_its_way : {picture : Picture} → plain.on_its_way ≡ Some picture → picture.blocks ≡ blocks → Coming blocks plain
  finished : plain.on_its_way ≡ None → plain.kept.blocks ≡ blocks → Coming blocks plain

-- with the mark it is finished
marked : (blocks : ℕ → List ℕ) (plain : Plain) → Coming blocks plain → (finish plain).kept.blocks ≡ blocks
unfolding finish kept_or
marked blocks plain (is_on_its_way {picture} e b) = ap (λ (z : Option Picture). (kept_or plain.kept z).blocks) e ∙ b
marked blocks plain (finished e b) = ap (λ (z : Option Picture). (kept_or plain.kept z).blocks) e ∙ b

none_after : (plain : Plain) → (finish plain).on_its_way ≡ None
unfolding finish
none_after plain = refl

note_coming : (blocks : ℕ → List ℕ) (g : Geometry) (plain : Plain) (c : Call) (n : ℕ) (words : List Store) → Coming blocks (did plain c n) → Coming blocks (note g plain c n words)
unfolding note
note_coming blocks g plain c n words s = go (has_mark g words)
  where
    go : (mark : Bool) → Coming blocks (cond mark (finish (did plain c n)) (did plain c n))
    go true = finished (none_after (did plain c n)) (marked blocks (did plain c n) s)
    go false = s

-- a call that goes on with it leaves both
did_goes : (plain : Plain) (c : Call) (n : ℕ) → GoesOn c n → ((did plain c n).on_its_way ≡ plain.on_its_way) × ((did plain c n).kept ≡ plain.kept)
unfolding did
did_goes plain c n loads = (refl, refl)
did_goes plain c n peeks = (refl, refl)
did_goes plain c zero stores = (refl, refl)
did_goes plain c (suc n) stores = (refl, refl)
did_goes plain c n steps = (refl, refl)
did_goes plain c n sweeps = (refl, refl)
did_goes plain c n (fails nf ne) = (ap (λ (z : Plain). z.on_its_way) (did_not plain c n ne), ap (λ (z : Plain). z.kept) (did_not plain c n ne))

goes_coming : (blocks : ℕ → List ℕ) (plain : Plain) (c : Call) (n : ℕ) → GoesOn c n → Coming blocks plain → Coming blocks (did plain c n)
goes_coming blocks plain c n goes (is_on_its_way e b) = is_on_its_way ((did_goes plain c n goes).0 ∙ e) b
goes_coming blocks plain c n goes (finished e b) = finished ((did_goes plain c n goes).0 ∙ e) (ap (λ (z : Picture). z.blocks) (did_goes plain c n goes).1 ∙ b)

-- an accepted begin takes the picture of the live blocks
begin_coming : (plain : Plain) (registers : List ℕ) (n : ℕ) → n ≡ 0 → Coming plain.live (did plain (begin registers) n)
unfolding did
begin_coming plain registers zero e = is_on_its_way refl refl
begin_coming plain registers (suc n) e = absurd (suc-ne-zero n e)

-- ---- runs

goes_format : {c : Call} {n : ℕ} → GoesOn c n → NoFormat c
goes_format loads = a_load
goes_format peeks = a_peek
goes_format stores = a_store
goes_format steps = a_step
goes_format sweeps = a_sweep
goes_format (fails nf ne) = nf

-- the board looks like a plain machine of which this holds
record Looks (holds : Plain → Type 0) (g : Geometry) (run : Run) : Type 0 where
  plain : Plain
  good : Good g run plain
  held : holds plain

coming_goes : (blocks : ℕ → List ℕ) (g : Geometry) (run : Run) (events : List Event) → OnItsWay run events → Looks (Coming blocks) g run → Looks (Coming blocks) g (runs events run)
unfolding runs advance
coming_goes blocks g run [] P.OnItsWay.no_more s = s
coming_goes blocks g run (does p c ∷ events) (P.OnItsWay.and_then goes rest) s =
    coming_goes blocks g (doing p c run) events rest
    (record {
      plain = next run s.plain p c;
      good = call_good g p c run s.plain (goes_format goes) s.good;
      held =
          note_coming blocks (sizes run.board) s.plain c (number_of (call p run.board c).number) (stored p (plan run.board c))
          (goes_coming blocks s.plain c (number_of (call p run.board c).number) goes s.held);
    })
coming_goes blocks g run (Rattle.rules.specs.Runs.stop _ ∷ events) x5 s = elim x5 [ ]

-- what is kept has these blocks
abbrev Has : (ℕ → List ℕ) → Plain → Type 0
Has blocks plain = plain.kept.blocks ≡ blocks

-- the step that stores the mark
noted_step : (blocks : ℕ → List ℕ) (g : Geometry) (plain : Plain) (most n : ℕ) (words : List Store) → has_mark g words ≡ true → Coming blocks plain
    → Has blocks (note g plain (step most) n words)
unfolding note did
noted_step blocks g plain most n words mark c = rw mark (marked blocks plain c)

step_finishes : (blocks : ℕ → List ℕ) (g : Geometry) (run : Run) (p most : ℕ) → has_mark g (stored p (plan run.board (step most))) ≡ true
    → Looks (Coming blocks) g run → Looks (Has blocks) g (doing p (step most) run)
step_finishes blocks g run p most mark s =
    let n = number_of (call p run.board (step most)).number in
    let words = stored p (plan run.board (step most)) in
    record {
      plain = next run s.plain p (step most);
      good = call_good g p (step most) run s.plain a_step s.good;
      held =
          subst (λ (h : Geometry). Has blocks (note h s.plain (step most) n words)) (sym s.good.same)
          (noted_step blocks g s.plain most n words mark s.held);
    }

-- ---- from begin to recovery

-- an accepted begin found the board awake
begin_awake : (p : ℕ) (board : Board) (registers : List ℕ) → number_of (call p board (begin registers)).number ≡ 0 → is_off (phase_of board) ≡ false
unfolding call plan begin_plan begin_number
begin_awake p board registers e =
    let a = guard_accepted p board (begin_number board registers) _ e in
    (common_passed board (not (eqb (length registers) 64)) ((is_writing (phase_of board) ⇒ No.Busy) ∷ []) a.0).0.awake

pub as_begun : AsBegun
unfolding AsBegun
as_begun g from q registers begun during goes s most mark later rest volatile lengths t w h r r' reads reads' =
    let first = run_from from in
    let stands = formatted_good g from in
    let live = stands.plain.live in
    let c = begin registers in
    let coming : Looks (Coming live) g (doing q c first) =
    record {
      plain = next first stands.plain q c;
      good = call_good g q c first stands.plain a_begin stands.good;
      held =
          note_coming live (sizes first.board) stands.plain c (number_of (call q first.board c).number) (stored q (plan first.board c))
          (begin_coming stands.plain registers (number_of (call q first.board c).number) begun);
    } in
    let last = runs during (doing q c first) in
    let end = runs later (doing s (step most) last) in
    let marked = step_finishes live g last s most mark (coming_goes live g (doing q c first) during goes coming) in
    let kept = kept_later marked.plain.kept g (doing s (step most) last) later rest (record { plain = marked.plain; good = marked.good; kept = refl }) in
    let wires = recovers_wires g kept.plain.kept end.board.memory (good_whole g end kept.plain kept.good) (good_recovers g end kept.plain kept.good) in
    gives_one (live w) r' r
    (subst (λ (z : ℕ → List ℕ). Gives (z w) r') (ap (λ (z : Picture). z.blocks) kept.kept ∙ marked.held) (wires.each volatile lengths t w h r' reads'))
    (good_reads g first stands.plain stands.good w r (begin_awake q first.board registers begun) h reads)
