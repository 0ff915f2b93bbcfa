-- Both moves, on any board: how they end, and that the board recovers to the same image before and after.
use mathlib.Core.Path.{◌≡◌, refl, sym, ap, ◌∙◌, subst}
use mathlib.Core.Logic.{◌≢◌, ◌⊎◌, inl, inr}
use mathlib.Core.Bool.{Bool, true, false, not, cond}
use mathlib.Core.List.{List, [], ◌++◌}
use Rattle.std.specs.Prelude.{Option, None, Some}
use Prim.Native.Nat.{ℕ, ◌*◌, ◌≤◌}
use native.Mathlib.Omega.{arith}
use native.Mathlib.Nat.{suc-ne-zero}
use lib.Dec.{eqb}
use lib.ListN.{length, take, replicate}
use lib.Seq.{take-nil}
use borrow.Author.Tests.{not-false}
use Rattle.words.specs.Words.{word, words, Store, lay}
use Rattle.rules.specs.declared.Geometry.{Geometry}
use Rattle.rules.specs.declared.Backup.{Backup}
use Rattle.rules.specs.declared.Number.{Number}
use Rattle.rules.specs.declared.Number.TheVariants as No
use Rattle.rules.specs.Board.{Board, Volatile, cache_of}
use Rattle.rules.specs.Numbers.{number_of, first_of, outside}
use Rattle.rules.specs.Power.{refuse, carry, guard, Outcome, whole, switched_off, settle}
use Rattle.rules.specs.Starts.{finished_in, saved_registers, table_in, sound, no_checkpoint, unsound, recovery_checks, recover_number}
use Rattle.rules.specs.PlainMachine.{Picture, Plain, saved_in}
use Rattle.rules.specs.Runs.{Run, Lengths}
use Rattle.rules.specs.Promises.{Recovers, RecoversTo}
use Rattle.rules.proofs.Saving.{head_from, head_of, Kept}
use Rattle.rules.proofs.Answers.{guard_accepted, carry_accepted, carry_nothing}
use Rattle.rules.proofs.Checked.{passed, sizes_passed, Lent}
use Rattle.rules.proofs.KeepsRest.{recovered, recovered_inv}
use Rattle.rules.proofs.Demand3.{good_recovers}
use Rattle.forms.specs.declared.Header.{Header}
use Rattle.forms.specs.declared.Header.TheVariants.{Missing, Fits, Other}
use Rattle.forms.specs.Stored.{header_bytes, header_start, long_words, zero_word, header_of, without, old_board, header_to, zeros_to}
use Rattle.forms.specs.Calls.{header_checks, headed_number, up_list, up_plan, back_plan, Call, recover, up, back, call}
use Rattle.forms.specs.Runs.{shortened, Clear}
use Rattle.forms.specs.Promises.{RecoversInBoth, IsMove, is_up, is_back, SameImage, MovesKeep, OnlyACut, UpAgain, UpAndBack}
use Rattle.forms.proofs.HeaderBytes.{word_of_two, says_missing, says_fits, Says, missing, fits, other, says}
use Rattle.forms.proofs.Checking.{header_passes, other_stops, headed_uncut, Headed, headed, heads}
use Rattle.forms.proofs.Recovering.{recover_same}
use Rattle.forms.proofs.Moving.{both_words, with-header, Left, old_part, both_parts, up_left, back_left, up_whole, back_whole}
use Rattle.forms.proofs.Lists.{zeros_two}
use Rattle.forms.proofs.Long.{Parts, joined, parts_of, parts_are, old_is, both_is}
use Rattle.forms.proofs.Following.{Ends, refused, finished, stopped, ends, carried}

-- ---- the plan of a move

-- moving back asks for a header
pub asks : {g : Geometry} {c : Call} → IsMove g c → Bool
asks is_up = false
asks is_back = true

pub list : {g : Geometry} {c : Call} → IsMove g c → Board → List Store
list {g} is_up board = up_list g (header_of g board.memory)
list {g} is_back board = zeros_to g

pub move_ends : (p : ℕ) (board : Board) (g : Geometry) (c : Call) (m : IsMove g c) → Ends p board (headed_number (asks m) board g) (list m board) board.volatile (call p board c)
unfolding call up_plan back_plan asks list
move_ends p board g c is_up = ends p board (headed_number false board g) (up_list g (header_of g board.memory)) board.volatile
move_ends p board g c is_back = ends p board (headed_number true board g) (zeros_to g) board.volatile

-- ---- what a header that passes says

passed_clear : (needed : Bool) (g : Geometry) (memory : List ℕ) → number_of (first_of (header_checks needed (header_of g memory))) ≡ 0 → Clear g memory
unfolding Clear number_of
passed_clear needed g memory e = go (header_of g memory) (says g memory) e
  where
    go : (header : Header) → Says g memory header → number_of (first_of (header_checks needed header)) ≡ 0 → Clear g memory
    go Missing (missing z) q = inl z
    go Fits (fits h) q = inr h
    go Other (other a b) q = absurd (suc-ne-zero 13 (ap number_of (other_stops needed) ∙ q))

-- where moving up passes, its list is the header or nothing
up_stops : (g : Geometry) (memory : List ℕ) → length memory ≡ 8 * long_words g → (header : Header) → Says g memory header → number_of (first_of (header_checks false header)) ≡ 0
    → (p : ℕ) → Left g (without memory) (lay (take p (up_list g header)) memory)
unfolding up_list Clear number_of lay
up_stops g memory size Missing (missing z) q p = up_left g memory size z p
up_stops g memory size Fits (fits h) q p =
    subst (λ (stores : List Store). Left g (without memory) (lay stores memory)) (sym (take-nil p)) (record { same = refl; size = size; clear = inr h })
up_stops g memory size Other (other a b) q p = absurd (suc-ne-zero 13 (ap number_of (other_stops false) ∙ q))

-- a move that passes its checks, stopped after any of its words
pub move_left : (board : Board) (g : Geometry) (c : Call) (m : IsMove g c) → Headed (asks m) board g → (p : ℕ)
    → Left g (without board.memory) (lay (take p (list m board)) board.memory)
unfolding asks list
move_left board g c is_up h p = up_stops g board.memory h.size (header_of g board.memory) (says g board.memory) h.header p
move_left board g c is_back h p = back_left g board.memory h.size (passed_clear true g board.memory h.header) p

pub move_clear : (board : Board) (g : Geometry) (c : Call) (m : IsMove g c) → Headed (asks m) board g → Clear g board.memory
move_clear board g c m h = passed_clear (asks m) g board.memory h.header

-- ---- recovery in both forms

-- where the two words are no other board's header, what the old form's recovery gives the new form's gives too
pub in_both : (g : Geometry) (picture : Picture) (memory : List ℕ) → Clear g memory → RecoversTo g picture (without memory) → RecoversInBoth g picture memory
unfolding Clear
in_both g picture memory clear r = record { old_form = r; new_form = λ ne volatile l p. new clear ne volatile l p }
  where
    new : (word memory (header_start g) ≡ zero_word) ⊎ (words memory (header_start g) 2 ≡ header_bytes g) → word memory (header_start g) ≢ zero_word
        → (volatile : Volatile) → Lengths g volatile → (p : ℕ) → Recovers g picture (shortened (call p (record { memory = memory; volatile = volatile }) (recover g)))
    new (inl z) ne volatile l p = absurd (ne z)
    new (inr h) ne volatile l p =
        subst (Recovers g picture)
        (sym (recover_same p (record { memory = memory; volatile = volatile }) g (header_passes true g memory (says_fits g memory h))))
        (r.whatever volatile l p)

-- ---- any memory that recovers

-- the picture that its recovery shows: what the finished backup saves
pub record Shown (g : Geometry) (memory : List ℕ) : Type 0 where
  pub picture : Picture
  pub recovers : RecoversTo g picture memory

pub shown : (board : Board) (g : Geometry) → outside g ≡ false → Lent g board → number_of (recover_number board g (finished_in g board.memory)) ≡ 0 → Shown g board.memory
unfolding recover_number no_checkpoint unsound head_of head_from number_of saved_in
shown board g fine lent e = go (finished_in g board.memory) refl (sizes_passed board g (recovery_checks board g (finished_in g board.memory)) e).2
  where
    go : (x : Option Backup) → finished_in g board.memory ≡ x → number_of (first_of (recovery_checks board g x)) ≡ 0 → Shown g board.memory
    go None f q = absurd (suc-ne-zero 9 q)
    go (Some x) f q =
        let table : List ℕ = table_in g board.memory x in
        let good : sound g table ≡ true = not-false (sound g table) (passed (not (sound g table)) No.Backup [] (suc-ne-zero 10) q).0 in
        let picture : Picture = saved_in g board.memory x in
        let plain : Plain = record { live = picture.blocks; kept = picture; on_its_way = None } in
        let after : Board = recovered g board.memory (cache_of board) x (saved_registers g board.memory x) table in
        let kept : Kept g board.memory x (saved_registers g board.memory x) table picture =
        record { reads = ap (head_from g board.memory) f; good = good; image = λ block lt. refl; given = refl }
        in
        let run : Run = record { board = after; promise = Some plain } in
        record {
          picture = picture;
          recovers = good_recovers g run plain (record { stands = refl; inv = recovered_inv g board plain fine lent kept (λ block lt. refl); same = refl });
        }

-- ---- the promises

pub moves_keep : MovesKeep
unfolding MovesKeep
moves_keep p board g c m accepted = go (call p board c) (move_ends p board g c m) accepted
  where
    image : number_of (headed_number (asks m) board g) ≡ 0 → SameImage g board.memory (lay (take p (list m board)) board.memory)
    image z =
        let h = headed (asks m) board g z in
        let l = move_left board g c m h p in
        let s = shown (old_board board) g h.fine h.lent h.recovers in
        record {
          picture = s.picture;
          before = in_both g s.picture board.memory (move_clear board g c m h) s.recovers;
          after = in_both g s.picture (lay (take p (list m board)) board.memory) l.clear (subst (RecoversTo g s.picture) (sym l.same) s.recovers);
          same = l.same;
        }

    go : (o : Outcome) → Ends p board (headed_number (asks m) board g) (list m board) board.volatile o → (number_of o.number ≡ 0) ⊎ (number_of o.number ≡ 20)
        → SameImage g board.memory o.board.memory
    go o (refused ne) (inl z) = absurd (ne z)
    go o (refused ne) (inr z) = absurd (headed_uncut (asks m) board g z)
    go o (finished z e) a = image z
    go o (stopped z e) a = image z

pub only_a_cut : OnlyACut
unfolding OnlyACut number_of
only_a_cut p board g c m = go (call p board c) (move_ends p board g c m)
  where
    go : (o : Outcome) → Ends p board (headed_number (asks m) board g) (list m board) board.volatile o
        → (number_of o.number ≢ 20 → o.board.volatile ≡ board.volatile) × (number_of o.number ≡ 20 → o.board.volatile ≡ switched_off board board.volatile)
    go o (refused ne) = (λ q. refl, λ z. absurd (headed_uncut (asks m) board g z))
    go o (finished z h) = (λ q. refl, λ e. absurd (suc-ne-zero 19 (sym e)))
    go o (stopped z h) = (λ q. absurd (q refl), λ e. refl)

-- an empty list is never cut
nothing_stored : (p : ℕ) (board : Board) (n : Number) → number_of n ≢ 20
    → let o = settle p board (guard n (carry [] board.volatile [])) in (o.board ≡ board) × (o.words ≡ 0) × (number_of o.number ≢ 20)
unfolding settle guard number_of lay
nothing_stored p board n ne = go (eqb (number_of n) 0)
  where
    out : Bool → Outcome
    out b = settle p board (cond b (carry [] board.volatile []) (refuse n))

    go : (b : Bool) → ((out b).board ≡ board) × ((out b).words ≡ 0) × (number_of (out b).number ≢ 20)
    go true =
        subst (λ (o : Outcome). (o.board ≡ board) × (o.words ≡ 0) × (number_of o.number ≢ 20)) (sym (carry_nothing p board board.volatile []))
        (refl, refl, λ e. suc-ne-zero 19 (sym e))
    go false = (refl, refl, ne)

pub up_again : UpAgain
unfolding UpAgain call up_plan up_list
up_again p board g e =
    subst
    (λ (header : Header). let o = settle p board (guard (headed_number false board g) (carry (up_list g header) board.volatile [])) in
    (o.board ≡ board) × (o.words ≡ 0) × (number_of o.number ≢ 20))
    (sym (says_fits g board.memory e)) (nothing_stored p board (headed_number false board g) (headed_uncut false board g))

-- ---- up and back

module _ (p q : ℕ) (board : Board) (g : Geometry) (zeros : words board.memory (header_start g) 2 ≡ replicate 16 0) (accepted : number_of (call p board (up g)).number ≡ 0) (enough : 2 ≤ q) where
  no_header : word board.memory (header_start g) ≡ zero_word
  no_header = word_of_two board.memory (header_start g) ∙ ap (take 8) zeros

  passes : number_of (headed_number false board g) ≡ 0
  unfolding call up_plan
  passes = (guard_accepted p board (headed_number false board g) (carry (up_list g (header_of g board.memory)) board.volatile []) accepted).0

  h : Headed false board g
  h = headed false board g passes

  parts : Parts g
  parts = parts_of g board.memory h.size

  there : Board
  there = record { memory = joined (with-header parts); volatile = board.volatile }

  went_up : (call p board (up g)).board ≡ there
  unfolding call up_plan up_list there parts
  went_up =
      let n = headed_number false board g in
      let a = guard_accepted p board n (carry (up_list g (header_of g board.memory)) board.volatile []) accepted in
      ap (λ (o : Outcome). o.board)
      (a.1
      ∙ carry_accepted p board (up_list g (header_of g board.memory)) board.volatile []
      (ap (λ (o : Outcome). number_of o.number) (sym a.1) ∙ accepted))
      ∙ ap (λ (header : Header). record { memory = lay (up_list g header) board.memory; volatile = board.volatile }) (says_missing g board.memory no_header)
      ∙ ap (λ (memory : List ℕ). record { memory = memory; volatile = board.volatile }) (ap (lay (header_to g)) (parts_are g board.memory h.size) ∙ up_whole parts)

  there_fits : header_of g there.memory ≡ Fits
  unfolding there
  there_fits = says_fits g there.memory (both_is (with-header parts) ∙ both_words g)

  there_old : old_board there ≡ old_board board
  unfolding there parts
  there_old =
      ap (λ (memory : List ℕ). record { memory = memory; volatile = board.volatile }) (old_is (with-header parts) ∙ sym (old_part g board.memory h.size))

  back_passes : number_of (headed_number true there g) ≡ 0
  back_passes =
      ap number_of
      (heads true there g (header_passes true g there.memory there_fits)
      ∙ ap (λ (b : Board). recover_number b g (finished_in g b.memory)) there_old)
      ∙ h.recovers

  went_back : call q there (back g) ≡ whole there (zeros_to g) board.volatile []
  unfolding call back_plan there
  went_back = carried q there (headed_number true there g) (zeros_to g) board.volatile back_passes (omega (arith, zeros_two g, enough))

  memory_back : lay (zeros_to g) there.memory ≡ board.memory
  unfolding there parts
  memory_back =
      back_whole (with-header parts)
      ∙ ap (λ (two : List ℕ). parts.old ++ two) (sym zeros ∙ both_parts g board.memory h.size)
      ∙ sym (parts_are g board.memory h.size)

  pub there_and_back : (number_of (call q (call p board (up g)).board (back g)).number ≡ 0) × ((call q (call p board (up g)).board (back g)).board ≡ board)
  unfolding number_of there
  there_and_back =
      subst (λ (b : Board). (number_of (call q b (back g)).number ≡ 0) × ((call q b (back g)).board ≡ board)) (sym went_up)
      (subst (λ (o : Outcome). (number_of o.number ≡ 0) × (o.board ≡ board)) (sym went_back)
      (refl, ap (λ (memory : List ℕ). record { memory = memory; volatile = board.volatile }) memory_back))

pub up_and_back : UpAndBack
unfolding UpAndBack
up_and_back p q board g zeros accepted enough = there_and_back p q board g zeros accepted enough
