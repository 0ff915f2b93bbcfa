-- Demand 3: after any run from one finished format, and inside any further call, recovery gives the last finished checkpoint.
use mathlib.Core.Path.{◌≡◌, refl, sym, ap, ◌∙◌, subst}
use mathlib.Core.List.{List, [], ◌∷◌}
use Rattle.std.specs.Prelude.{Option, None, Some}
use Prim.Native.Nat.{ℕ, ◌*◌}
use lib.ListN.{length}
use Rattle.words.specs.Words.{Store, lay}
use Rattle.words.proofs.All.{done}
use Rattle.rules.specs.declared.Geometry.{Geometry}
use Rattle.rules.specs.Board.{Board, Volatile, sizes}
use Rattle.rules.specs.Numbers.{number_of}
use Rattle.rules.specs.Power.{Plan, refuse, carry, Outcome, whole, stored}
use Rattle.rules.specs.Starts.{handed_out, recorded}
use Rattle.rules.specs.Calls.{Call, recover, plan, call}
use Rattle.rules.specs.PlainMachine.{Plain, formatted, did, note}
use Rattle.rules.specs.Runs.{stop, Event, does, Run, from_some, promised, doing, unless_refused, stopping, advance, runs, Lengths, NoFormat, a_load, a_peek, a_store, a_begin, a_step, a_recover, a_sweep, Allowed, a_call, a_stop, AllAllowed, and_then, FromFormat, formatted_run, run_from}
use Rattle.rules.specs.Promises.{Recovers, RecoversTo, Safe, Demand3}
use Rattle.rules.proofs.Saving.{given_back}
use Rattle.rules.proofs.Checked.{Lent}
use Rattle.rules.proofs.Invariant.{Inv, Keeps, no_mark, note_unmarked, settled, settled_sizes}
use Rattle.rules.proofs.KeepsStore.{store_keeps}
use Rattle.rules.proofs.KeepsStep.{step_keeps}
use Rattle.rules.proofs.KeepsBegin.{begin_keeps}
use Rattle.rules.proofs.KeepsSweep.{sweep_keeps}
use Rattle.rules.proofs.KeepsRest.{load_keeps, peek_keeps, recovered, recovered_inv, recover_keeps}
use Rattle.rules.proofs.Answers.{counted}
use Rattle.rules.proofs.Started.{recover_is, format_inv}
use Rattle.rules.proofs.LiveShown.{inv_shows, load_accepted}

-- the board looks like the plain machine, and has the sizes of its format
pub record Good (g : Geometry) (run : Run) (plain : Plain) : Type 0 where
  pub stands : run.promise ≡ Some plain
  pub inv : Inv run.board plain
  pub same : sizes run.board ≡ g

-- ---- every call but a format keeps the invariant

pub call_keeps : (board : Board) (plain : Plain) → Inv board plain → (c : Call) → NoFormat c → Keeps board plain c (plan board c)
unfolding plan
call_keeps board plain v c (a_load {block = block} {offset = offset} {len = len}) = load_keeps board plain v block offset len
call_keeps board plain v c (a_peek {block = block}) = peek_keeps board plain v block
call_keeps board plain v c (a_store {block = block} {offset = offset} {bytes = bytes}) = store_keeps board plain v block offset bytes
call_keeps board plain v c (a_begin {registers = registers}) = begin_keeps board plain v registers
call_keeps board plain v c (a_step {n = n}) = step_keeps board plain v n
call_keeps board plain v c (a_recover {h = h}) = recover_keeps board plain v h
call_keeps board plain v c (a_sweep {limit = limit}) = sweep_keeps board plain v limit

pub noted : (g : Geometry) (plain : Plain) (c : Call) (n : ℕ) (ws : List Store) → NoFormat c → from_some g plain c n ws ≡ Some (note g plain c n ws)
unfolding from_some
noted g plain c n ws a_load = refl
noted g plain c n ws a_peek = refl
noted g plain c n ws a_store = refl
noted g plain c n ws a_begin = refl
noted g plain c n ws a_step = refl
noted g plain c n ws a_recover = refl
noted g plain c n ws a_sweep = refl

-- the plain machine after a call
abbrev pub next : Run → Plain → ℕ → Call → Plain
next run plain p c = note (sizes run.board) plain c (number_of (call p run.board c).number) (stored p (plan run.board c))

pub call_good : (g : Geometry) (p : ℕ) (c : Call) (run : Run) (plain : Plain) → NoFormat c → Good g run plain → Good g (doing p c run) (next run plain p c)
unfolding doing promised call
call_good g p c run plain nf v =
    let k = call_keeps run.board plain v.inv c nf in
    let o = call p run.board c in
    record {
      stands =
          ap (λ (z : Option Plain). promised (sizes run.board) z c o (stored p (plan run.board c))) v.stands
          ∙ noted (sizes run.board) plain c (number_of o.number) (stored p (plan run.board c)) nf;
      inv = settled run.board plain c p (plan run.board c) k v.inv;
      same = settled_sizes run.board plain c p (plan run.board c) k ∙ v.same;
    }

-- ---- a loss of supply at any moment

-- the board when the supply is lost: the memory, and volatile memory that holds anything
abbrev pub lost : Board → Volatile → Board
lost board volatile = record { memory = board.memory; volatile = volatile }

pub stop_recovers : (board : Board) (plain : Plain) (v : Inv board plain) (volatile : Volatile) → Lent (sizes board) (lost board volatile) → (p : ℕ)
    → call p (lost board volatile) (recover (sizes board))
    ≡ whole (lost board volatile) []
    (recovered (sizes board) board.memory volatile.cache board.volatile.controller.finished v.registers v.keeps).volatile (handed_out v.registers)
stop_recovers board plain v volatile l p = recover_is (sizes board) p (lost board volatile) v.fine l v.kept

-- the plain machine goes back to what is kept
abbrev pub back : Plain → Plain
back plain = record { live = plain.kept.blocks; kept = plain.kept; on_its_way = None }

none_stored : (q : Plan) → stored 0 q ≡ []
unfolding stored
none_stored (refuse n) = refl
none_stored (carry ws after gives) = refl

pub noted_back : (g : Geometry) (plain : Plain) (q : Plan) → from_some g plain (recover g) 0 (stored 0 q) ≡ Some (back plain)
unfolding did
noted_back g plain q =
    noted g plain (recover g) 0 (stored 0 q) a_recover
    ∙ ap (λ (z : List Store). Some (note g plain (recover g) 0 z)) (none_stored q)
    ∙ ap (λ (z : Plain). Some z) (note_unmarked g plain (recover g) 0 [] (no_mark g done))

pub stop_inv : (board : Board) (plain : Plain) (v : Inv board plain) (volatile : Volatile) → Lent (sizes board) (lost board volatile)
    → Inv (recovered (sizes board) board.memory volatile.cache board.volatile.controller.finished v.registers v.keeps) (back plain)
stop_inv board plain v volatile l = recovered_inv (sizes board) (lost board volatile) (back plain) v.fine l v.kept (λ block lt. refl)

-- the buffers that a loss leaves have the board's lengths
lent_still : (g : Geometry) (run : Run) (plain : Plain) (volatile : Volatile) → Good g run plain → Lengths g volatile → Lent (sizes run.board) (lost run.board volatile)
lent_still g run plain volatile v l = record {
  memory = v.inv.lent.memory;
  cache = subst (λ (h : Geometry). length volatile.cache ≡ 64 * h.slots) (sym v.same) l.cache;
  table = subst (λ (h : Geometry). length volatile.table ≡ h.slots) (sym v.same) l.table;
}

pub stop_good : (g : Geometry) (volatile : Volatile) (run : Run) (plain : Plain) → Lengths g volatile → Good g run plain → Good g (stopping volatile run) (back plain)
unfolding stopping promised unless_refused number_of
stop_good g volatile run plain l v =
    let l' = lent_still g run plain volatile v l in
    subst
    (λ (z : Outcome). Good g
    (record { board = z.board; promise = unless_refused (number_of z.number) (promised h run.promise (recover h) z (stored 0 (plan (lost run.board volatile) (recover h)))) })
    (back plain))
    (sym (stop_recovers run.board plain v.inv volatile l' 0))
    (record {
      stands = promise_stands run.promise v.stands;
      inv = stop_inv run.board plain v.inv volatile l';
      same = v.same;
    })
  where
    h : Geometry
    h = sizes run.board

    o : Outcome
    o = whole (lost run.board volatile) []
        (recovered h run.board.memory volatile.cache run.board.volatile.controller.finished v.inv.registers v.inv.keeps).volatile (handed_out v.inv.registers)

    promise_stands : (z : Option Plain) → z ≡ Some plain
        → promised h z (recover h) o (stored 0 (plan (lost run.board volatile) (recover h))) ≡ Some (back plain)
    promise_stands z e =
        ap (λ (y : Option Plain). promised h y (recover h) o (stored 0 (plan (lost run.board volatile) (recover h)))) e
        ∙ noted_back h plain (plan (lost run.board volatile) (recover h))

-- ---- runs

-- some plain machine that the board looks like
pub record Standing (g : Geometry) (run : Run) : Type 0 where
  pub plain : Plain
  pub good : Good g run plain

advance_good : (g : Geometry) (e : Event) (run : Run) → Allowed g e → Standing g run → Standing g (advance e run)
unfolding advance
advance_good g (does p c) run (a_call nf) s = record { plain = next run s.plain p c; good = call_good g p c run s.plain nf s.good }
advance_good g (stop volatile) run (a_stop l) s = record { plain = back s.plain; good = stop_good g volatile run s.plain l s.good }

pub runs_good : (g : Geometry) (events : List Event) (run : Run) → AllAllowed g events → Standing g run → Standing g (runs events run)
unfolding runs
runs_good g [] run a s = s
runs_good g (e ∷ events) run (and_then a az) s = runs_good g events (advance e run) az (advance_good g e run a s)

-- ---- recovery from a board that looks like a plain machine

pub good_recovers : (g : Geometry) (run : Run) (plain : Plain) → Good g run plain → RecoversTo g plain.kept run.board.memory
unfolding number_of lay
good_recovers g run plain v = subst (λ (h : Geometry). RecoversTo h plain.kept run.board.memory) v.same (record { whatever = recovers })
  where
    h : Geometry
    h = sizes run.board

    recovers : (volatile : Volatile) → Lengths h volatile → (p : ℕ)
        → Recovers h plain.kept (call p (record { memory = run.board.memory; volatile = volatile }) (recover h))
    recovers volatile l p =
        let l' : Lent h (lost run.board volatile) = record { memory = v.inv.lent.memory; cache = l.cache; table = l.table } in
        let after = recovered h run.board.memory volatile.cache run.board.volatile.controller.finished v.inv.registers v.inv.keeps in
        let i : Inv after (back plain) = stop_inv run.board plain v.inv volatile l' in
        subst (Recovers h plain.kept) (sym (stop_recovers run.board plain v.inv volatile l' p))
        (record {
          accepted = refl;
          blocks = λ block offset len lt early some-len fits q.
              let a = load_accepted after (back plain) i refl q block offset len lt early some-len fits in
              (a, (inv_shows after (back plain) i).loads q block offset len a);
          registers = given_back v.inv.kept v.inv.lent.memory ∙ v.inv.kept.given;
          in_record = ap recorded v.inv.kept.given;
        })

pub own_lengths : (g : Geometry) (run : Run) (plain : Plain) → Good g run plain → Lengths g run.board.volatile
own_lengths g run plain v =
    subst (λ (h : Geometry). Lengths h run.board.volatile) v.same (record { cache = v.inv.lent.cache; table = v.inv.lent.table })

good_safe : (g : Geometry) (run : Run) → Standing g run → Safe g run
unfolding doing call
good_safe g run s = record {
  plain = s.plain;
  stands = s.good.stands;
  shows = inv_shows run.board s.plain s.good.inv;
  now = good_recovers g run s.plain s.good;
  without_loss = (good_recovers g run s.plain s.good).whatever run.board.volatile (own_lengths g run s.plain s.good);
  inside = λ c nf p.
      let v = good_recovers g (doing p c run) (next run s.plain p c) (call_good g p c run s.plain nf s.good) in
      let words = stored p (plan run.board c) in
      subst (λ (h : Geometry). RecoversTo g (note h s.plain c (number_of (call p run.board c).number) words).kept (lay words run.board.memory)) s.good.same
      (subst (RecoversTo g (next run s.plain p c).kept) (counted p run.board (plan run.board c)).memory v);
}

-- right after the format, and after any allowed events, the board looks like the plain machine that is promised
pub formatted_started : (g : Geometry) (from : FromFormat g) → Good g (formatted_run from) (formatted from.fill)
formatted_started g from =
    let i = format_inv g from.fill from.p from.before from.finished in
    record { stands = refl; inv = i.0; same = i.1 }

pub formatted_good : (g : Geometry) (from : FromFormat g) → Standing g (run_from from)
formatted_good g from =
    runs_good g from.events (formatted_run from) from.allowed (record { plain = formatted from.fill; good = formatted_started g from })

pub demand_3 : Demand3
unfolding Demand3
demand_3 g from = good_safe g (run_from from) (formatted_good g from)
