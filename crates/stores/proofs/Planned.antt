-- A store's number and its plan, from what its checks, its one lookup and its move found.
use mathlib.Core.Path.{◌≡◌, refl, sym, ap, ◌∙◌, subst}
use mathlib.Core.Logic.{◌≢◌}
use mathlib.Core.Bool.{Bool, true, false, not}
use mathlib.Core.List.{List, [], ◌∷◌, ◌++◌, append_assoc}
use Rattle.std.specs.Prelude.{Option, None, Some, is_some}
use Prim.Native.Nat.{ℕ, ◌+◌, ◌<◌}
use native.Mathlib.Nat.{suc-ne-zero}
use lib.Dec.{eqb}
use lib.ListN.{length}
use borrow.Author.Tests.{not-false, not-true}
use Rattle.words.proofs.All.{All, done, also, all_append}
use Rattle.rules.specs.declared.Geometry.{Geometry}
use Rattle.rules.specs.declared.Controller.{Controller}
use Rattle.rules.specs.declared.Phase.{Phase}
use Rattle.rules.specs.declared.State.{State}
use Rattle.rules.specs.declared.Entry.{Entry}
use Rattle.rules.specs.declared.Place.{Place}
use Rattle.rules.specs.declared.Number.{Number}
use Rattle.rules.specs.declared.Number.TheVariants as No
use Rattle.rules.specs.declared.Answer.{Answer}
use Rattle.rules.specs.TableWords.{lookup, lowest_free}
use Rattle.rules.specs.Board.{Board, board_of, table_of}
use Rattle.rules.specs.Numbers.{number_of, Check, ◌⇒◌, first_of, common_checks, out_of_range}
use Rattle.rules.specs.Power.{Plan, Outcome, guard, settle, outcome_of}
use Rattle.rules.specs.Loads.{Spot, spot_in, spot_of, block_in, visible, seen, load_number}
use Rattle.rules.specs.Stores.{replaced, stores, move_in, slot_for, full, store_number, is_short, window_for, moved, moved_to, store_by, store_plan}
use Rattle.rules.specs.Stores as S
use Rattle.rules.specs.Calls.{store, plan, call}
use Rattle.rules.proofs.LaidAt.{found_taken, short_only, short_shown}
use Rattle.rules.proofs.FreeSlot.{VacantAt, vacant, vacant_lt}
use Rattle.placing.specs.Spots.{InMemory, is_in_memory}
use Rattle.moves.specs.declared.Move.{Move}
use Rattle.moves.specs.Moves.{move_of, short_of}
use Rattle.checks.specs.Answers.{refused_of}
use Rattle.checks.proofs.Passed.{hit, miss, none_applies, stopped, Refuses, refuses, go_on, common_refuses}
use Rattle.checks.proofs.Settled.{guard_on, refused_is}
use Rattle.loads.proofs.Laws.{load_checks, slot_lt}

-- ---- the slot

free_lt : (slot : ℕ) (table : List ℕ) → Some slot ≡ lowest_free table → slot < length table
free_lt slot table e = vacant_lt (subst (VacantAt table) (sym e) (vacant table))

pub taken_lt : (block slot : ℕ) (table : List ℕ) {found : Option Entry} → found ≡ lookup block table → Some slot ≡ slot_for found (lowest_free table) → slot < length table
unfolding slot_for
taken_lt block slot table {found} e = go found refl
  where
    go : (x : Option Entry) → found ≡ x → Some slot ≡ slot_for x (lowest_free table) → slot < length table
    go (Some entry) q s = let h : slot ≡ entry.slot = cc in subst (λ (z : ℕ). z < length table) (sym h) (slot_lt block entry.slot table e q)
    go None q s = free_lt slot table s

-- a block that is stored short shows in the memory, where it goes
short_in_memory : (g : Geometry) (block : ℕ) (phase : Phase) (found : Option Entry) → is_short phase found ≡ true → InMemory (spot_of g block found)
unfolding spot_of spot_in
short_in_memory g block = short_only (λ phase found. InMemory (spot_of g block found)) (λ i. is_in_memory (g.blocks + i)) (λ i. is_in_memory block)

pub goes_there : (g : Geometry) (block slot : ℕ) (phase : Phase) (found : Option Entry) (lowest : Option ℕ) (next : Move) {from : Spot}
    → from ≡ spot_of g block found → (move_of next ≡ move_in phase (stores found)) × (short_of next ≡ is_short phase found) → Some slot ≡ slot_for found lowest
    → short_of next ≡ true → InMemory from × ((place : Place) (state : State) → move_of next ≡ S.to place state → from ≡ spot_in g block slot place)
goes_there g block slot phase found lowest next f m t h =
    let short = sym m.1 ∙ h in (
      subst InMemory (sym f) (short_in_memory g block phase found short),
      λ place state n. f ∙ short_shown g block slot phase found place state short (sym m.0 ∙ n) (found_taken found lowest slot (sym t)),
    )

-- ---- 7 FULL

pub not_full : {o : Option ℕ} (slot : ℕ) → o ≡ Some slot → false ≡ full o
unfolding full
not_full slot e = rw e

pub is_full : {o : Option ℕ} → o ≡ None → true ≡ full o
unfolding full
is_full e = rw e

pub full_said : (o : Option ℕ) (r : Bool) → is_some o ≡ not r → r ≡ full o
unfolding full
full_said None r e = not-false r (sym e)
full_said (Some slot) r e = not-true r (sym e)

-- ---- the number: that of a load of the range, then FULL

module _ (board : Board) (block offset : ℕ) (bytes : List ℕ) where
  abbrev taken : Option ℕ
  taken = slot_for (lookup block (table_of board)) (lowest_free (table_of board))

  abbrev range : List Check
  range = common_checks board false ++ (out_of_range board block offset (length bytes) ⇒ No.Range) ∷ []

  abbrev last : List Check
  last = (full taken ⇒ No.Full) ∷ []

  in_two : first_of (range ++ last) ≡ store_number board block offset bytes
  unfolding store_number
  in_two = ap first_of (append_assoc (common_checks board false) ((out_of_range board block offset (length bytes) ⇒ No.Range) ∷ []) last)

  pub store_stops : {n : Number} → (n ≡ load_number board block offset (length bytes)) × (number_of n ≢ 0) → n ≡ store_number board block offset bytes
  store_stops h = stopped range last (h.0 ∙ sym (load_checks board block offset (length bytes))) h.1 ∙ in_two

  range_refuses : All Refuses range
  unfolding number_of
  range_refuses = all_append (common_refuses board false) (also (refuses (suc-ne-zero 5)) done)

  goes : number_of (load_number board block offset (length bytes)) ≡ 0 → first_of last ≡ store_number board block offset bytes
  goes e = sym (go_on last range_refuses (ap number_of (load_checks board block offset (length bytes)) ∙ e)) ∙ in_two

  pub store_full : number_of (load_number board block offset (length bytes)) ≡ 0 → true ≡ full taken → No.Full ≡ store_number board block offset bytes
  store_full e f = hit [] (sym f) ∙ goes e

  pub store_done : number_of (load_number board block offset (length bytes)) ≡ 0 → false ≡ full taken → No.Done ≡ store_number board block offset bytes
  store_done e f = miss No.Full [] (sym f) none_applies ∙ goes e

-- ---- the plan

module _ (p : ℕ) (memory cache table : List ℕ) (controller : Controller) (block offset : ℕ) (bytes : List ℕ) where
  abbrev board : Board
  board = board_of memory cache table controller

  -- what the store plans once its number is found, for what the lookup found
  abbrev carried : Option Entry → Plan
  carried found =
      moved_to board block (slot_for found (lowest_free table)) (replaced (block_in memory cache (spot_of controller.geometry block found)) offset bytes)
      (window_for (is_short controller.phase found) offset (length bytes)) (move_in controller.phase (stores found))

  guarded : call p board (store block offset bytes) ≡ settle p board (guard (store_number board block offset bytes) (carried (lookup block table)))
  unfolding call plan store_plan store_by seen visible
  guarded = refl

  pub store_refused : {n : Number} {answer : Answer} → n ≡ store_number board block offset bytes → number_of n ≢ 0 → answer ≡ refused_of n controller
      → call p board (store block offset bytes) ≡ outcome_of answer memory cache table
  store_refused {n} {answer} e ne a =
      guarded ∙ refused_is p memory cache table controller (carried (lookup block table)) n (store_number board block offset bytes) answer e ne a

  pub store_goes : (next : Move) {found : Option Entry} {slot : ℕ} {fresh : List ℕ} {outcome : Outcome}
      → number_of (load_number board block offset (length bytes)) ≡ 0
      → found ≡ lookup block table
      → slot_for found (lowest_free table) ≡ Some slot
      → fresh ≡ replaced (block_in memory cache (spot_of controller.geometry block found)) offset bytes
      → (move_of next ≡ move_in controller.phase (stores found)) × (short_of next ≡ is_short controller.phase found)
      → settle p board (moved board block slot fresh (window_for (short_of next) offset (length bytes)) (move_of next)) ≡ outcome
      → call p board (store block offset bytes) ≡ outcome
  unfolding moved_to number_of
  store_goes next {found} {slot} {fresh} n e s f m q =
      let row = move_in controller.phase (stores found) in
      let words = window_for (is_short controller.phase found) offset (length bytes) in
      let built = replaced (block_in memory cache (spot_of controller.geometry block found)) offset bytes in
      let room = not_full slot (ap (λ (z : Option Entry). slot_for z (lowest_free table)) (sym e) ∙ s) in
      guarded
      ∙ guard_on p board (carried (lookup block table)) No.Done (store_number board block offset bytes) (store_done board block offset bytes n room) refl
      ∙ ap (λ (z : Option Entry). settle p board (carried z)) (sym e)
      ∙ ap (λ (z : Option ℕ). settle p board (moved_to board block z built words row)) s
      ∙ ap (λ (z : List ℕ). settle p board (moved board block slot z words row)) (sym f)
      ∙ ap (λ (z : Bool). settle p board (moved board block slot fresh (window_for z offset (length bytes)) row)) (sym m.1)
      ∙ ap (λ (z : S.Move). settle p board (moved board block slot fresh (window_for (short_of next) offset (length bytes)) z)) (sym m.0)
      ∙ q
