-- What a board that looks like the plain machine hands out.
use mathlib.Core.Path.{◌≡◌, refl, sym, ap, ◌∙◌}
use mathlib.Core.Logic.{◌≢◌}
use mathlib.Core.Bool.{Bool, true, false, not}
use mathlib.Core.List.{List, [], ◌∷◌}
use Prim.Native.Nat.{ℕ, ◌+◌, ◌≤◌, ◌<◌}
use native.Mathlib.Omega.{arith}
use native.Mathlib.Nat.{suc-ne-zero}
use lib.ListN.{length, take, drop}
use borrow.Author.Tests.{ne_eqb, leb-false, lt-leb, le-ltb}
use Rattle.words.proofs.All.{All}
use Rattle.words.proofs.Blocks.{length_block}
use Rattle.rules.specs.declared.Phase.{Phase}
use Rattle.rules.specs.declared.Phase.TheVariants.{Running, Writing, Off}
use Rattle.rules.specs.declared.State.{State}
use Rattle.rules.specs.declared.Number.{Number}
use Rattle.rules.specs.declared.Number.TheVariants as No
use Rattle.rules.specs.TableWords.{every}
use Rattle.rules.specs.Board.{Board, sizes, phase_of, table_of}
use Rattle.rules.specs.Numbers.{number_of, ◌⇒◌, first_of, over_count, is_off, while_writing, allows, well_formed, malformed, common_checks, no_block, out_of_range}
use Rattle.rules.specs.Power.{carry, guard, Outcome, settle}
use Rattle.rules.specs.Loads.{seen, load_number, load_plan, peek_number, peek_plan}
use Rattle.rules.specs.Starts.{saved_block}
use Rattle.rules.specs.Calls.{load, peek, plan, call}
use Rattle.rules.specs.PlainMachine.{Plain}
use Rattle.rules.specs.Promises.{Shows}
use Rattle.rules.proofs.Clashes.{false_true}
use Rattle.rules.proofs.Apart.{Apart}
use Rattle.rules.proofs.Changing.{all_every}
use Rattle.rules.proofs.Saving.{saved_lt, kept_length}
use Rattle.rules.proofs.KeepsStore.{seen-length}
use Rattle.rules.proofs.Checked.{passed, common_passed, lent_exact, in_range}
use Rattle.rules.proofs.Invariant.{Mode, mode_running, mode_writing, Inv}
use Rattle.rules.proofs.Answers.{guard_accepted, carry_nothing}

-- while the phase isn't Off, what shows is live
pub live_shown : (board : Board) (plain : Plain) (v : Inv board plain) (block : ℕ) → block < (sizes board).blocks → is_off (phase_of board) ≡ false → seen board block ≡ plain.live block
unfolding seen
live_shown board plain v block h awake = go (phase_of board) awake v.mode
  where
    go : (phase : Phase) → is_off phase ≡ false → Mode board plain v.keeps phase → seen board block ≡ plain.live block
    go Running e (mode_running be sh) = sh.shows block h
    go (Writing count) e (mode_writing sh dr) = sh.shows block h
    go Off e m = absurd (false_true (sym e))

-- and the table names no block twice
pub inv_apart : (board : Board) (plain : Plain) (v : Inv board plain) → is_off (phase_of board) ≡ false → Apart (table_of board)
inv_apart board plain v awake = go (phase_of board) awake v.mode
  where
    go : (phase : Phase) → is_off phase ≡ false → Mode board plain v.keeps phase → Apart (table_of board)
    go Running e (mode_running be sh) = sh.apart
    go (Writing count) e (mode_writing sh dr) = sh.apart
    go Off e m = absurd (false_true (sym e))

pub inv_shows : (board : Board) (plain : Plain) → Inv board plain → Shows board plain
unfolding call plan load_plan load_number peek_plan peek_number
inv_shows board plain v = record { loads = loads; peeks = peeks }
  where
    loads : (p block offset len : ℕ) → number_of (call p board (load block offset len)).number ≡ 0
        → (call p board (load block offset len)).gives ≡ take len (drop offset (plain.live block))
    loads p block offset len e =
        let given : List ℕ = take len (drop offset (seen board block)) in
        let a = guard_accepted p board (load_number board block offset len) (carry [] board.volatile given) e in
        let c = common_passed board false ((out_of_range board block offset len ⇒ No.Range) ∷ []) a.0 in
        let r = in_range board block offset len (passed (out_of_range board block offset len) No.Range [] (suc-ne-zero 5) c.1).0 in
        ap (λ (o : Outcome). o.gives) (a.1 ∙ carry_nothing p board board.volatile given)
        ∙ ap (λ (z : List ℕ). take len (drop offset z)) (live_shown board plain v block r.below c.0.awake)

    peeks : (p block : ℕ) → number_of (call p board (peek block)).number ≡ 0 → (call p board (peek block)).gives ≡ plain.live block
    peeks p block e =
        let a = guard_accepted p board (peek_number board block) (carry [] board.volatile (seen board block)) e in
        let c = common_passed board false ((no_block board block ⇒ No.Range) ∷ []) a.0 in
        let r = leb-false (sizes board).blocks block (passed (no_block board block) No.Range [] (suc-ne-zero 5) c.1).0 in
        ap (λ (o : Outcome). o.gives) (a.1 ∙ carry_nothing p board board.volatile (seen board block)) ∙ live_shown board plain v block r c.0.awake

-- ---- a board that isn't Off accepts every load in range

pub awake_passed : (board : Board) (plain : Plain) (v : Inv board plain) → is_off (phase_of board) ≡ false
    → (over_count (sizes board) (phase_of board) ≡ false) × (malformed board ≡ false)
unfolding over_count malformed allows
awake_passed board plain v awake = go (phase_of board) awake v.mode
  where
    formed : (allowed : State → Bool) → All (λ w. well_formed allowed (sizes board) w ≡ true) (table_of board)
        → not (every (well_formed allowed (sizes board)) (table_of board)) ≡ false
    formed allowed az = ap not (all_every (well_formed allowed (sizes board)) (table_of board) az)

    go : (phase : Phase) → is_off phase ≡ false → Mode board plain v.keeps phase
        → (over_count (sizes board) phase ≡ false) × (not (every (well_formed (allows phase) (sizes board)) (table_of board)) ≡ false)
    go Running e (mode_running be sh) = (refl, formed (allows Running) sh.formed)
    go (Writing count) e (mode_writing sh dr) = (le-ltb ((sizes board).slots + 8) count dr.few, formed while_writing sh.formed)
    go Off e m = absurd (false_true (sym e))

pub in_range_false : (board : Board) (block offset len : ℕ) → block < (sizes board).blocks → offset ≤ 63 → len ≢ 0 → offset + len ≤ 64
    → out_of_range board block offset len ≡ false
unfolding out_of_range no_block
in_range_false board block offset len lt early some-len fits =
    rw (lt-leb (sizes board).blocks block lt, le-ltb 63 offset early, ne_eqb len 0 some-len, le-ltb 64 (offset + len) fits)

pub load_done : (board : Board) (plain : Plain) (v : Inv board plain) → is_off (phase_of board) ≡ false → (block offset len : ℕ)
    → out_of_range board block offset len ≡ false → load_number board block offset len ≡ No.Done
unfolding load_number common_checks first_of
load_done board plain v awake block offset len r =
    let a = awake_passed board plain v awake in
    rw (v.fine, lent_exact (sizes board) board v.lent, a.0, awake, a.1, r)

pub load_accepted : (board : Board) (plain : Plain) (v : Inv board plain) → is_off (phase_of board) ≡ false → (p block offset len : ℕ)
    → block < (sizes board).blocks → offset ≤ 63 → len ≢ 0 → offset + len ≤ 64 → number_of (call p board (load block offset len)).number ≡ 0
unfolding call plan load_plan guard number_of
load_accepted board plain v awake p block offset len lt early some-len fits =
    let d = load_done board plain v awake block offset len (in_range_false board block offset len lt early some-len fits) in
    let given : List ℕ = take len (drop offset (seen board block)) in
    ap (λ (n : Number). number_of (settle p board (guard n (carry [] board.volatile given))).number) d
    ∙ ap (λ (o : Outcome). number_of o.number) (carry_nothing p board board.volatile given)

-- ---- blocks of a plain machine have 64 bytes

pub live_whole : (board : Board) (plain : Plain) → Inv board plain → is_off (phase_of board) ≡ false → (block : ℕ) → block < (sizes board).blocks
    → length (plain.live block) ≡ 64
live_whole board plain v awake block h = ap length (sym (live_shown board plain v block h awake)) ∙ seen-length board v.lent block h

pub kept_whole : (board : Board) (plain : Plain) → Inv board plain → (block : ℕ) → block < (sizes board).blocks → length (plain.kept.blocks block) ≡ 64
kept_whole board plain v block h =
    ap length (sym (v.kept.image block h))
    ∙ length_block board.memory (saved_block (sizes board) v.keeps block) (omega (arith, saved_lt (sizes board) v.keeps block h (kept_length v.kept), v.lent.memory))
