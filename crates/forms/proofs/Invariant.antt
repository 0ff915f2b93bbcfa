-- The invariant of both forms: the old form's, of the memory without the two words, and two words that are no other board's header. Every event keeps it.
use mathlib.Core.Path.{◌≡◌, refl, sym, ap, ◌∙◌, subst}
use mathlib.Core.Logic.{◌≢◌, ◌⊎◌, inl, inr}
use mathlib.Core.Bool.{Bool, true, false}
use mathlib.Core.List.{List, [], ◌∷◌, ◌++◌}
use Rattle.std.specs.Prelude.{Option}
use Prim.Native.Nat.{ℕ, ◌*◌, ◌-◌}
use native.Mathlib.Omega.{arith}
use lib.Dec.{eqb}
use lib.ListN.{length, take, length-append}
use lib.Seq.{drop_at}
use borrow.Author.Tests.{eqb-true, eqb-false}
use Rattle.words.specs.Words.{word, words, lay}
use Rattle.words.proofs.All.{done}
use Rattle.words.proofs.Makers.{words_part}
use Rattle.rules.specs.declared.Geometry.{Geometry}
use Rattle.rules.specs.declared.Number.{Number}
use Rattle.rules.specs.Geometry.{memory_words}
use Rattle.rules.specs.Board.{Board, Volatile, sizes}
use Rattle.rules.specs.Numbers.{number_of}
use Rattle.rules.specs.Power.{Outcome, switched_off, stored}
use Rattle.rules.specs.Starts.{finished_in, recover_from}
use Rattle.rules.specs.Calls as Old
use Rattle.rules.specs.PlainMachine.{Plain, note}
use Rattle.rules.specs.Runs as OldRuns
use Rattle.rules.specs.Runs.{Run, Lengths}
use Rattle.rules.proofs.Checked.{Lent, same_sizes}
use Rattle.rules.proofs.Invariant.{Inv, mode_off, did_not, no_mark, note_unmarked}
use Rattle.rules.proofs.Demand3 as Kept
use Rattle.rules.proofs.Demand3.{Good, call_good, stop_good}
use Rattle.forms.specs.declared.Header.TheVariants.{Fits}
use Rattle.forms.specs.Stored.{header_bytes, header_start, long_words, zero_word, header_of, without, last_two, old_board}
use Rattle.forms.specs.Calls.{headed_number, recover_plan, Call, old, recover, up, back, call}
use Rattle.forms.specs.Runs.{old_run, promised, doing, lost, stopping, stopping_new, Event, does, stop, stop_new, advance, runs, NoFormat, an_old, a_recover, an_up, a_back, Allowed, a_call, a_stop, a_stop_new, AllAllowed, no_more, and_then, Clear, noted}
use Rattle.forms.specs.Promises.{IsMove, is_up, is_back}
use Rattle.forms.proofs.HeaderBytes.{says_fits}
use Rattle.forms.proofs.Checking.{header_passes, without-length, headed}
use Rattle.forms.proofs.Recovering.{recover_memory, recover_same, recover_stores}
use Rattle.forms.proofs.Moving.{Left}
use Rattle.forms.proofs.Following.{last_length, split, beside_without, recover_follows, recover_stays, guard_refuses, stop_new_follows, Ends, refused, finished, stopped}
use Rattle.forms.proofs.Moves.{asks, list, move_ends, move_left}

-- ---- the invariant of both forms

pub record Well (g : Geometry) (run : Run) (plain : Plain) : Type 0 where
  -- the old form's, of the memory without the two words
  pub good : Good g (old_run run) plain
  pub size : length run.board.memory ≡ 8 * long_words g
  -- the two words are no other board's header
  pub clear : Clear g run.board.memory

-- ---- two words beside a memory of the old form

module _ (g : Geometry) (part two : List ℕ) (e : length part ≡ 8 * memory_words g) where
  first_beside : word (part ++ two) (header_start g) ≡ take 8 two
  unfolding word
  first_beside = ap (take 8) (drop_at part two (8 * memory_words g) e)

  both_beside : words (part ++ two) (header_start g) 2 ≡ take 16 two
  both_beside = words_part (part ++ two) 2 (header_start g) ∙ ap (take 16) (drop_at part two (8 * memory_words g) e)

clear_beside : (g : Geometry) (part part' two : List ℕ) → length part ≡ 8 * memory_words g → length part' ≡ 8 * memory_words g → Clear g (part ++ two) → Clear g (part' ++ two)
unfolding Clear
clear_beside g part part' two e e' (inl z) = inl (first_beside g part' two e' ∙ sym (first_beside g part two e) ∙ z)
clear_beside g part part' two e e' (inr h) = inr (both_beside g part' two e' ∙ sym (both_beside g part two e) ∙ h)

-- what the old form leaves, and the two words of the memory beside it
pub beside_well : (g : Geometry) (memory : List ℕ) (next : Run) (plain : Plain) → length memory ≡ 8 * long_words g → Clear g memory → Good g next plain
    → Well g (record { board = record { memory = next.board.memory ++ last_two memory; volatile = next.board.volatile }; promise = next.promise }) plain
beside_well g memory next plain size clear good =
    let two : length (last_two memory) ≡ 16 = last_length memory (omega (arith, size)) in
    let before : length (without memory) ≡ 8 * memory_words g = without-length memory ∙ (let z : length memory - 16 ≡ 8 * memory_words g = omega (arith, size) in z) in
    let after : length next.board.memory ≡ 8 * memory_words g =
    subst (λ (h : Geometry). length next.board.memory ≡ 8 * memory_words h) good.same good.inv.lent.memory
    in
    record {
      good =
          subst (λ (m : List ℕ). Good g (record { board = record { memory = m; volatile = next.board.volatile }; promise = next.promise }) plain)
          (sym (beside_without next.board.memory (last_two memory) two)) good;
      size = simp length-append (omega (arith, after, two));
      clear = clear_beside g (without memory) next.board.memory (last_two memory) before after (subst (Clear g) (sym (split memory)) clear);
    }

-- ---- calls

old_well : (g : Geometry) (p : ℕ) (c : Old.Call) (run : Run) (plain : Plain) → OldRuns.NoFormat c → Well g run plain → Well g (doing p (old c) run) (noted p run.board plain (old c))
unfolding doing promised call OldRuns.doing noted
old_well g p c run plain nf w =
    beside_well g run.board.memory (OldRuns.doing p c (old_run run)) (noted p run.board plain (old c)) w.size w.clear (call_good g p c (old_run run) plain nf w.good)

-- the same memory under another volatile side
kept_memory : (g : Geometry) (run : Run) (board : Board) (promise : Option Plain) {plain plain' : Plain} → Well g run plain → board.memory ≡ run.board.memory
    → Good g (old_run (record { board = board; promise = promise })) plain' → Well g (record { board = board; promise = promise }) plain'
kept_memory g run board promise w e good =
    record { good = good; size = ap length e ∙ w.size; clear = subst (Clear g) (sym e) w.clear }

recover_well : (g : Geometry) (p : ℕ) (h : Geometry) (run : Run) (plain : Plain) → Well g run plain → Well g (doing p (recover h) run) (noted p run.board plain (recover h))
unfolding doing noted call recover_plan
recover_well g p h run plain w = go (eqb (number_of n) 0) refl
  where
    n : Number
    n = headed_number true run.board h

    same_plain : number_of n ≡ 0
        → note (sizes run.board) plain (Old.recover h) (number_of (Old.call p (old_board run.board) (Old.recover h)).number) (stored p (Old.plan (old_board run.board) (Old.recover h)))
        ≡ noted p run.board plain (recover h)
    same_plain z =
        ap (note (sizes run.board) plain (Old.recover h) (number_of (Old.call p (old_board run.board) (Old.recover h)).number)) (recover_stores p (old_board run.board) h)
        ∙ ap (λ (o : Outcome). note (sizes run.board) plain (Old.recover h) (number_of o.number) []) (sym (recover_same p run.board h (headed true run.board h z).header))

    not_accepted : number_of n ≢ 0 → number_of (call p run.board (recover h)).number ≢ 0
    not_accepted ne =
        subst (λ (o : Outcome). number_of o.number ≢ 0)
        (sym (guard_refuses p run.board n (recover_from (old_board run.board) h (finished_in h (without run.board.memory))) ne)) ne

    stays_plain : number_of (call p run.board (recover h)).number ≢ 0 → noted p run.board plain (recover h) ≡ plain
    stays_plain ne =
        note_unmarked (sizes run.board) plain (Old.recover h) (number_of (call p run.board (recover h)).number) [] (no_mark (sizes run.board) done)
        ∙ did_not plain (Old.recover h) (number_of (call p run.board (recover h)).number) ne

    go : (b : Bool) → eqb (number_of n) 0 ≡ b → Well g (doing p (recover h) run) (noted p run.board plain (recover h))
    go true e =
        let z = eqb-true (number_of n) 0 e in
        kept_memory g run (doing p (recover h) run).board (doing p (recover h) run).promise w (recover_memory p run.board h)
        (subst (Good g (old_run (doing p (recover h) run))) (same_plain z)
        (subst (λ (r : Run). Good g r (note (sizes run.board) plain (Old.recover h) (number_of (Old.call p (old_board run.board) (Old.recover h)).number) (stored p (Old.plan (old_board run.board) (Old.recover h)))))
        (sym (recover_follows p h run z)) (call_good g p (Old.recover h) (old_run run) plain OldRuns.a_recover w.good)))
    go false e =
        let ne = eqb-false (number_of n) 0 e in
        subst (Well g (doing p (recover h) run)) (sym (stays_plain (not_accepted ne))) (subst (λ (r : Run). Well g r plain) (sym (recover_stays p h run ne)) w)

-- ---- moves

-- the board whose supply stopped in a move
abbrev pub off_board : Board → Board
off_board board = record { memory = board.memory; volatile = switched_off board board.volatile }

-- nothing is asked of its volatile side
pub off_inv : (board : Board) (plain : Plain) → Inv board plain → Inv (off_board board) plain
off_inv board plain i = record {
  fine = i.fine;
  lent = record { memory = i.lent.memory; cache = i.lent.cache; table = i.lent.table };
  registers = i.registers;
  keeps = i.keeps;
  kept = i.kept;
  mode = mode_off;
}

off_good : (g : Geometry) (run : Run) (plain : Plain) → Good g run plain → Good g (record { board = off_board run.board; promise = run.promise }) plain
off_good g run plain good = record { stands = good.stands; inv = off_inv run.board plain good.inv; same = good.same }

-- a move with other sizes never passes: the lengths fix them
module _ (g : Geometry) (p : ℕ) (h : Geometry) (c : Call) (m : IsMove h c) (run : Run) (plain : Plain) (w : Well g run plain) where
  left_at : number_of (headed_number (asks m) run.board h) ≡ 0 → Left g (without run.board.memory) (lay (take p (list m run.board)) run.board.memory)
  left_at z =
      let passed = headed (asks m) run.board h z in
      let own : Lent g (old_board run.board) = subst (λ (k : Geometry). Lent k (old_board run.board)) w.good.same w.good.inv.lent in
      subst (λ (k : Geometry). Left k (without run.board.memory) (lay (take p (list m run.board)) run.board.memory))
      (same_sizes g h (old_board run.board) own passed.lent) (move_left run.board h c m passed p)

  moved : {memory : List ℕ} (volatile : Volatile) → Left g (without run.board.memory) memory
      → Good g (record { board = record { memory = without run.board.memory; volatile = volatile }; promise = run.promise }) plain
      → Well g (record { board = record { memory = memory; volatile = volatile }; promise = run.promise }) plain
  moved {memory} volatile l good = record {
    good = subst (λ (part : List ℕ). Good g (record { board = record { memory = part; volatile = volatile }; promise = run.promise }) plain) (sym l.same) good;
    size = l.size;
    clear = l.clear;
  }

  pub move_well : Well g (record { board = (call p run.board c).board; promise = run.promise }) plain
  move_well = go (call p run.board c) (move_ends p run.board h c m)
    where
      go : (o : Outcome) → Ends p run.board (headed_number (asks m) run.board h) (list m run.board) run.board.volatile o
          → Well g (record { board = o.board; promise = run.promise }) plain
      go o (refused ne) = w
      go o (finished z e) = moved run.board.volatile (left_at z) w.good
      go o (stopped z e) = moved (switched_off run.board run.board.volatile) (left_at z) (off_good g (old_run run) plain w.good)

pub call_well : (g : Geometry) (p : ℕ) (c : Call) (run : Run) (plain : Plain) → NoFormat c → Well g run plain → Well g (doing p c run) (noted p run.board plain c)
unfolding doing promised noted
call_well g p c run plain (an_old {c = c'} nf) w = old_well g p c' run plain nf w
call_well g p c run plain (a_recover {h = h}) w = recover_well g p h run plain w
call_well g p c run plain (an_up {h = h}) w = move_well g p h (up h) is_up run plain w
call_well g p c run plain (a_back {h = h}) w = move_well g p h (back h) is_back run plain w

-- ---- losses of supply

stop_well : (g : Geometry) (volatile : Volatile) (run : Run) (plain : Plain) → Lengths g volatile → Well g run plain → Well g (stopping volatile run) (Kept.back plain)
unfolding stopping
stop_well g volatile run plain l w =
    beside_well g run.board.memory (OldRuns.stopping volatile (old_run run)) (Kept.back plain) w.size w.clear (stop_good g volatile (old_run run) plain l w.good)

stop_new_well : (g : Geometry) (volatile : Volatile) (run : Run) (plain : Plain) → Lengths g volatile → word run.board.memory (header_start g) ≢ zero_word → Well g run plain
    → Well g (stopping_new volatile run) (Kept.back plain)
unfolding Clear stopping_new
stop_new_well g volatile run plain l ne w =
    kept_memory g run (stopping_new volatile run).board (stopping_new volatile run).promise w (recover_memory 0 (lost run.board volatile) (sizes run.board))
    (subst (λ (r : Run). Good g r (Kept.back plain)) (sym (stop_new_follows volatile run (header_passes true (sizes run.board) run.board.memory (fits w.clear))))
    (stop_good g volatile (old_run run) plain l w.good))
  where
    fits : (word run.board.memory (header_start g) ≡ zero_word) ⊎ (words run.board.memory (header_start g) 2 ≡ header_bytes g) → header_of (sizes run.board) run.board.memory ≡ Fits
    fits (inl z) = absurd (ne z)
    fits (inr e) = subst (λ (h : Geometry). header_of h run.board.memory ≡ Fits) (sym w.good.same) (says_fits g run.board.memory e)

-- ---- runs

pub record Standing (g : Geometry) (run : Run) : Type 0 where
  pub plain : Plain
  pub well : Well g run plain

advance_well : (g : Geometry) (e : Event) (run : Run) → Allowed g run e → Standing g run → Standing g (advance e run)
unfolding advance
advance_well g (does p c) run (a_call nf) s = record { plain = noted p run.board s.plain c; well = call_well g p c run s.plain nf s.well }
advance_well g (stop volatile) run (a_stop l) s = record { plain = Kept.back s.plain; well = stop_well g volatile run s.plain l s.well }
advance_well g (stop_new volatile) run (a_stop_new l ne) s = record { plain = Kept.back s.plain; well = stop_new_well g volatile run s.plain l ne s.well }

pub runs_well : (g : Geometry) (events : List Event) (run : Run) → AllAllowed g run events → Standing g run → Standing g (runs events run)
unfolding runs
runs_well g [] run no_more s = s
runs_well g (e ∷ events) run (and_then a rest) s = runs_well g events (advance e run) rest (advance_well g e run a s)
