-- Wires over a run: from the board's demand 2 while it runs, from its demand 3 after a recovery.
use mathlib.Core.Path.{◌≡◌, refl, sym, ap, ◌∙◌, subst}
use mathlib.Core.Logic.{◌≢◌}
use mathlib.Core.Bool.{Bool, true, false, cond}
use mathlib.Core.List.{List, [], ◌∷◌}
use Rattle.std.specs.Prelude.{Option, None, Some}
use Prim.Native.Nat.{ℕ, zero, suc, ◌<◌}
use native.Mathlib.Omega.{arith}
use native.Mathlib.Nat.{suc-ne-zero}
use lib.ListN.{length, take, drop}
use lib.Seq.{take_all}
use borrow.Author.Tests.{eq-eqb, ne_eqb}
use Rattle.words.specs.Words.{Store, lay}
use Rattle.rules.specs.declared.Geometry.{Geometry}
use Rattle.rules.specs.Board.{Board, sizes, phase_of}
use Rattle.rules.specs.Numbers.{number_of, is_off}
use Rattle.rules.specs.Power.{stored}
use Rattle.rules.proofs.Moves.{store_checked, store_stored}
use Rattle.rules.specs.Calls.{Call, load, peek, store, begin, step, format, recover, sweep, plan, call}
use Rattle.rules.specs.PlainMachine.{Picture, Plain, overlaid, laid_over, update, did, finish, has_mark, note}
use Rattle.rules.specs.Runs.{Event, does, Run, after_format, from_some, promised, doing, advance, runs, NoFormat, a_load, a_peek, a_store, a_begin, a_step, a_recover, a_sweep, run_from}
use Rattle.rules.specs.Promises.{RecoversTo, Demand3}
use Rattle.rules.proofs.Answers.{refused}
use Rattle.rules.proofs.Invariant.{Inv, did_not}
use Rattle.rules.proofs.LiveShown.{inv_shows, load_accepted, live_whole, kept_whole}
use Rattle.rules.proofs.Demand3.{Good, next, call_good, formatted_good, demand_3}
use Rattle.rules.proofs.Demand2.{run_inv}
use Rattle.records.specs.declared.Wire.{Wire}
use Rattle.std.specs.Prelude.{Ok}
use Rattle.records.specs.Reading.{says_of}
use Rattle.records.specs.Records.{written}
use Rattle.records.specs.Classes.{first_sheet, class_of}
use Rattle.wires.specs.Reading as R
use Rattle.wires.specs.Reading.{Reading, Gives, a_record, ReadsWire}
use Rattle.wires.specs.Promises.{LiveReads, Spares, loads, peeks, stores_another, begins, steps, sweeps, refuses, Quiet, no_more, and_then, WrittenReads, WiresIn, RecoveredReads}
use Rattle.records.proofs.Encoding.{written_whole}
use Rattle.records.specs.Promises.{RoundTrip}
use Rattle.records.proofs.Blocks.{round_trip}
use Rattle.wires.proofs.Unique.{gives_one}

-- a load of the whole block that was accepted and gave these bytes: the read is what they say
loaded_reads : (board : Board) (w : ℕ) (block : List ℕ) (r : Reading) → number_of (call 0 board (load w 0 64)).number ≡ 0
    → (call 0 board (load w 0 64)).gives ≡ take 64 (drop 0 block) → length block ≡ 64 → ReadsWire board w r → Gives block r
loaded_reads board w block r e gives size (R.refused ne) = absurd (ne e)
loaded_reads board w block r e gives size (R.accepted e' reads) =
    subst (λ (z : List ℕ). Gives z r) (gives ∙ take_all 64 block (omega (arith, size))) reads

-- ---- while the board runs

pub good_reads : (g : Geometry) (run : Run) (plain : Plain) → Good g run plain → (w : ℕ) (r : Reading) → is_off (phase_of run.board) ≡ false → w < g.blocks
    → ReadsWire run.board w r → Gives (plain.live w) r
good_reads g run plain v w r awake h reads =
    let lt : w < (sizes run.board).blocks = subst (λ (z : Geometry). w < z.blocks) (sym v.same) h in
    let e = load_accepted run.board plain v.inv awake 0 w 0 64 lt (omega arith) (suc-ne-zero 63) (omega arith) in
    loaded_reads run.board w (plain.live w) r e ((inv_shows run.board plain v.inv).loads 0 w 0 64 e) (live_whole run.board plain v.inv awake w lt) reads

-- a run that a promise stands behind looks like the plain machine
run_good : (board : Board) (events : List Event) (plain : Plain) → (runs events (record { board = board; promise = None })).promise ≡ Some plain
    → Good (sizes (runs events (record { board = board; promise = None })).board) (runs events (record { board = board; promise = None })) plain
run_good board events plain e = record { stands = e; inv = run_inv board events plain e; same = refl }

pub live_reads : LiveReads
unfolding LiveReads
live_reads board events plain w r e awake h reads =
    let run = runs events (record { board = board; promise = None }) in
    good_reads (sizes run.board) run plain (run_good board events plain e) w r awake h reads

-- ---- calls that leave a wire alone

-- the board looks like a plain machine with these bytes in block w
record Holds (g : Geometry) (w : ℕ) (block : List ℕ) (run : Run) : Type 0 where
  plain : Plain
  good : Good g run plain
  live : plain.live w ≡ block

note_live : (g : Geometry) (plain : Plain) (c : Call) (n : ℕ) (words : List Store) → (note g plain c n words).live ≡ (did plain c n).live
unfolding note finish
note_live g plain c n words = go (has_mark g words)
  where
    go : (marked : Bool) → (cond marked (finish (did plain c n)) (did plain c n)).live ≡ (did plain c n).live
    go true = refl
    go false = refl

-- a store in another block
update_other : (live : ℕ → List ℕ) (block w : ℕ) (new : List ℕ) → block ≢ w → update live block new w ≡ live w
unfolding update
update_other live block w new ne = rw (ne_eqb w block (λ e. ne (sym e)))

did_another : (plain : Plain) (block offset w : ℕ) (bytes : List ℕ) (n : ℕ) → block ≢ w → (did plain (store block offset bytes) n).live w ≡ plain.live w
unfolding did
did_another plain block offset w bytes zero ne = update_other plain.live block w (overlaid (plain.live block) offset bytes) ne
did_another plain block offset w bytes (suc n) ne = refl

did_begin : (plain : Plain) (registers : List ℕ) (n : ℕ) → (did plain (begin registers) n).live ≡ plain.live
unfolding did
did_begin plain registers zero = refl
did_begin plain registers (suc n) = refl

module _ (g : Geometry) (w : ℕ) (block : List ℕ) (run : Run) (p : ℕ) where
  -- a call but a format that leaves the live block
  kept_by : (c : Call) → NoFormat c → (s : Holds g w block run) → (did s.plain c (number_of (call p run.board c).number)).live w ≡ s.plain.live w
      → Holds g w block (doing p c run)
  kept_by c nf s e = record {
    plain = next run s.plain p c;
    good = call_good g p c run s.plain nf s.good;
    live =
        ap (λ (live : ℕ → List ℕ). live w) (note_live (sizes run.board) s.plain c (number_of (call p run.board c).number) (stored p (plan run.board c)))
        ∙ e
        ∙ s.live;
  }

  -- a refused call
  kept_refused : (c : Call) → NoFormat c → Holds g w block run → number_of (call p run.board c).number ≢ 0 → Holds g w block (doing p c run)
  kept_refused c nf s ne = kept_by c nf s (ap (λ (z : Plain). z.live w) (did_not s.plain c (number_of (call p run.board c).number) ne))

  -- a refused format: board and promise as before
  kept_format : (h : Geometry) (fill : ℕ) → Holds g w block run → number_of (call p run.board (format h fill)).number ≢ 0
      → number_of (call p run.board (format h fill)).number ≢ 20 → Holds g w block (doing p (format h fill) run)
  unfolding doing promised from_some after_format
  kept_format h fill s ne ne' =
      let o = call p run.board (format h fill) in
      let same : o.board ≡ run.board = (refused p run.board (format h fill) ne ne').same in
      record {
        plain = s.plain;
        good = record {
          stands =
              ap (λ (z : Option Plain). promised (sizes run.board) z (format h fill) o (stored p (plan run.board (format h fill)))) s.good.stands
              ∙ rw (ne_eqb (number_of o.number) 0 ne, ne_eqb (number_of o.number) 20 ne');
          inv = subst (λ (z : Board). Inv z s.plain) (sym same) s.good.inv;
          same = ap sizes same ∙ s.good.same;
        };
        live = s.live;
      }

  spared : (c : Call) → Spares w c (number_of (call p run.board c).number) → Holds g w block run → Holds g w block (doing p c run)
  unfolding did
  spared c (loads {block = q} {offset = offset} {len = len}) s = kept_by (load q offset len) a_load s refl
  spared c (peeks {block = q}) s = kept_by (peek q) a_peek s refl
  spared c (stores_another {block = q} {offset = offset} {bytes = bytes} ne) s =
      kept_by (store q offset bytes) a_store s (did_another s.plain q offset w bytes (number_of (call p run.board (store q offset bytes)).number) ne)
  spared c (begins {registers = registers}) s =
      kept_by (begin registers) a_begin s (ap (λ (live : ℕ → List ℕ). live w) (did_begin s.plain registers (number_of (call p run.board (begin registers)).number)))
  spared c (steps {most = most}) s = kept_by (step most) a_step s refl
  spared c (sweeps {limit = limit}) s = kept_by (sweep limit) a_sweep s refl
  spared (load q offset len) (refuses ne ne') s = kept_refused (load q offset len) a_load s ne
  spared (peek q) (refuses ne ne') s = kept_refused (peek q) a_peek s ne
  spared (store q offset bytes) (refuses ne ne') s = kept_refused (store q offset bytes) a_store s ne
  spared (begin registers) (refuses ne ne') s = kept_refused (begin registers) a_begin s ne
  spared (step most) (refuses ne ne') s = kept_refused (step most) a_step s ne
  spared (format h fill) (refuses ne ne') s = kept_format h fill s ne ne'
  spared (recover h) (refuses ne ne') s = kept_refused (recover h) a_recover s ne
  spared (sweep limit) (refuses ne ne') s = kept_refused (sweep limit) a_sweep s ne

quiet_holds : (g : Geometry) (w : ℕ) (block : List ℕ) (run : Run) (events : List Event) → Quiet w run events → Holds g w block run → Holds g w block (runs events run)
unfolding runs advance
quiet_holds g w block run [] no_more s = s
quiet_holds g w block run (does p c ∷ events) (and_then spares quiet) s = quiet_holds g w block (doing p c run) events quiet (spared g w block run p c spares s)
quiet_holds g w block run (Rattle.rules.specs.Runs.stop _ ∷ events) x5 s = elim x5 [ ]

-- ---- what was written

-- an accepted store passed the checks of the phase and of the range
store_passed : (p : ℕ) (board : Board) (block offset : ℕ) (bytes : List ℕ) → number_of (call p board (store block offset bytes)).number ≡ 0
    → (is_off (phase_of board) ≡ false) × (block < (sizes board).blocks)
store_passed p board block offset bytes e =
    let c = store_checked board block offset bytes (store_stored board block offset bytes p e).checked in
    (c.0.awake, c.2.below)

-- bytes laid over a whole block
over_whole : (block bytes : List ℕ) → length block ≡ length bytes → laid_over block bytes ≡ bytes
unfolding laid_over
over_whole [] [] e = refl
over_whole (b ∷ block) [] e = absurd (suc-ne-zero (length block) e)
over_whole [] (x ∷ bytes) e = absurd (suc-ne-zero (length bytes) (sym e))
over_whole (b ∷ block) (x ∷ bytes) e = ap (λ (z : List ℕ). x ∷ z) (over_whole block bytes (omega (arith, e)))

did_whole : (plain : Plain) (w : ℕ) (bytes : List ℕ) (n : ℕ) → n ≡ 0 → length (plain.live w) ≡ length bytes → (did plain (store w 0 bytes) n).live w ≡ bytes
unfolding did update overlaid
did_whole plain w bytes zero e size = rw (eq-eqb w w refl) (over_whole (plain.live w) bytes size)
did_whole plain w bytes (suc n) e size = absurd (suc-ne-zero n e)

written_holds : (run : Run) (plain : Plain) (p w : ℕ) (wire : Wire) → Good (sizes run.board) run plain
    → number_of (call p run.board (store w 0 (written wire))).number ≡ 0 → Holds (sizes run.board) w (written wire) (doing p (store w 0 (written wire)) run)
written_holds run plain p w wire v e =
    let c = store w 0 (written wire) in
    let n = number_of (call p run.board c).number in
    let passed = store_passed p run.board w 0 (written wire) e in
    record {
      plain = next run plain p c;
      good = call_good (sizes run.board) p c run plain a_store v;
      live =
          ap (λ (live : ℕ → List ℕ). live w) (note_live (sizes run.board) plain c n (stored p (plan run.board c)))
          ∙ did_whole plain w (written wire) n e (live_whole run.board plain v.inv passed.0 w passed.1 ∙ sym (written_whole wire));
    }

pub written_reads : WrittenReads
unfolding WrittenReads RoundTrip
written_reads board events plain p w wire later r stands two_bytes e quiet awake reads =
    let before = runs events (record { board = board; promise = None }) in
    let after = doing p (store w 0 (written wire)) before in
    let g = sizes before.board in
    let v = run_good board events plain stands in
    let s = quiet_holds g w (written wire) after later quiet (written_holds before plain p w wire v e) in
    let said = good_reads g (runs later after) s.plain s.good w r awake (store_passed p before.board w 0 (written wire) e).1 reads in
    gives_one (written wire) r (Ok (says_of wire (class_of first_sheet wire))) (subst (λ (z : List ℕ). Gives z r) s.live said) (a_record (round_trip wire two_bytes))

-- ---- after a recovery

pub recovers_wires : (g : Geometry) (picture : Picture) (memory : List ℕ) → ((w : ℕ) → w < g.blocks → length (picture.blocks w) ≡ 64)
    → RecoversTo g picture memory → WiresIn g picture memory
recovers_wires g picture memory size v = record {
  each = λ volatile lengths p w h r reads.
      let b = (v.whatever volatile lengths p).blocks w 0 64 h (omega arith) (suc-ne-zero 63) (omega arith) 0 in
      loaded_reads (call p (record { memory = memory; volatile = volatile }) (recover g)).board w (picture.blocks w) r b.0 b.1 (size w h) reads;
}

pub good_whole : (g : Geometry) (run : Run) (plain : Plain) → Good g run plain → (w : ℕ) → w < g.blocks → length (plain.kept.blocks w) ≡ 64
good_whole g run plain v w h = kept_whole run.board plain v.inv w (subst (λ (z : Geometry). w < z.blocks) (sym v.same) h)

-- there is one promise
same_promise : {promise : Option Plain} {one two : Plain} → promise ≡ Some one → promise ≡ Some two → one ≡ two
same_promise {promise} {one} {two} a b = let e : Some one ≡ Some two = sym a ∙ b in cc

pub recovered_reads : RecoveredReads
unfolding RecoveredReads Demand3
recovered_reads g from plain stands c nf q =
    let run = run_from from in
    let s = demand_3 g from in
    let t = formatted_good g from in
    let n = number_of (call q run.board c).number in
    let words = stored q (plan run.board c) in
    let v : Good g run plain = subst (Good g run) (same_promise t.good.stands stands) t.good in
    recovers_wires g (note g plain c n words).kept (lay words run.board.memory)
    (subst (λ (h : Geometry). (w : ℕ) → w < g.blocks → length ((note h plain c n words).kept.blocks w) ≡ 64) v.same
    (good_whole g (doing q c run) (next run plain q c) (call_good g q c run plain nf v)))
    (subst (λ (z : Plain). RecoversTo g (note g z c n words).kept (lay words run.board.memory)) (same_promise s.stands stands) (s.inside c nf q))
