-- Calls that only read: their outcome as one equation, what an accepted one knows, and the ends of load and peek.
use mathlib.Core.Path.{◌≡◌, refl, sym, ap, ◌∙◌, subst}
use mathlib.Core.Logic.{◌≢◌}
use mathlib.Core.Bool.{Bool, true, false, cond}
use mathlib.Core.List.{List, [], ◌∷◌, ◌++◌}
use Prim.Native.Nat.{ℕ, ◌+◌, ◌-◌, ◌≤◌, ◌<◌}
use native.Mathlib.Omega.{arith}
use native.Mathlib.Nat.{suc-ne-zero}
use lib.Dec.{eqb, leb, ltb, leb-zero}
use lib.ListN.{length, take, drop}
use borrow.Author.Tests.{lt-ltb, le-ltb, eq-eqb, ne_eqb, eqb-true, leb-false, ltb-true}
use denote.Ref.{Bor}
use Rattle.std.specs.Prelude.{Option}
use Rattle.rules.specs.declared.Geometry.{Geometry}
use Rattle.rules.specs.declared.Controller.{Controller}
use Rattle.rules.specs.declared.State.{State}
use Rattle.rules.specs.declared.Entry.{Entry}
use Rattle.rules.specs.declared.Number.{Number}
use Rattle.rules.specs.declared.Number.TheVariants as No
use Rattle.rules.specs.Board.{Board, sizes, board_of}
use Rattle.rules.specs.TableWords.{entry_at, lookup}
use Rattle.rules.specs.Numbers.{number_of, Check, ◌⇒◌, first_of, allows, common_checks, no_block, out_of_range}
use Rattle.rules.specs.Power.{carry, guard, Outcome, settle}
use Rattle.rules.specs.Loads.{spot_of, block_in, visible, seen, load_number, load_plan, peek_number, peek_plan}
use Rattle.rules.specs.Calls.{load, peek, plan, call}
use Rattle.rules.proofs.Checked.{passed, InRange, in_range}
use Rattle.rules.proofs.KeepsStore.{seen-length}
use Rattle.rules.proofs.Finding.{Finds, finds, found_lt}
use Rattle.checks.specs.Ready.{Ready}
use Rattle.checks.specs.Tables.{Formed}
use Rattle.checks.proofs.Walking.{formed_table}
use Rattle.checks.proofs.Passed.{hit, miss, none_applies, stopped, common_goes_on, common_passed}
use Rattle.blocks.specs.Shown.{PartOf, Shown}
use Rattle.blocks.proofs.Laws.{shown_bytes}
use Rattle.loads.specs.Reading.{filled, Loaded, PartIf, Peeked, read_of}

-- ---- the outcome of a call that only reads

pub done_is : (n : Number) → number_of n ≡ 0 → n ≡ No.Done
unfolding number_of
done_is No.Done e = refl
done_is No.Geometry e = absurd (suc-ne-zero 0 e)
done_is No.Buffer e = absurd (suc-ne-zero 1 e)
done_is No.Record e = absurd (suc-ne-zero 2 e)
done_is No.Off e = absurd (suc-ne-zero 3 e)
done_is No.Table e = absurd (suc-ne-zero 4 e)
done_is No.Range e = absurd (suc-ne-zero 5 e)
done_is No.Full e = absurd (suc-ne-zero 6 e)
done_is No.Busy e = absurd (suc-ne-zero 7 e)
done_is No.Idle e = absurd (suc-ne-zero 8 e)
done_is No.NoCheckpoint e = absurd (suc-ne-zero 9 e)
done_is No.Backup e = absurd (suc-ne-zero 10 e)
done_is No.NoHeader e = absurd (suc-ne-zero 12 e)
done_is No.WrongBoard e = absurd (suc-ne-zero 13 e)
done_is No.Cut e = absurd (suc-ne-zero 19 e)

only_reads : (p : ℕ) (board : Board) (n : Number) (gives : List ℕ) → settle p board (guard n (carry [] board.volatile gives)) ≡ read_of board n gives
unfolding settle guard
only_reads p board n gives = go (eqb (number_of n) 0) refl
  where
    go : (b : Bool) → eqb (number_of n) 0 ≡ b → settle p board (guard n (carry [] board.volatile gives)) ≡ read_of board n gives
    go true e = rw (e, leb-zero p, done_is n (eqb-true (number_of n) 0 e))
    go false e = rw e

pub load_is : (p : ℕ) (board : Board) (block offset len : ℕ)
    → call p board (load block offset len) ≡ read_of board (load_number board block offset len) (take len (drop offset (seen board block)))
unfolding call plan load_plan
load_is p board block offset len = only_reads p board (load_number board block offset len) (take len (drop offset (seen board block)))

pub peek_is : (p : ℕ) (board : Board) (block : ℕ) → call p board (peek block) ≡ read_of board (peek_number board block) (seen board block)
unfolding call plan peek_plan
peek_is p board block = only_reads p board (peek_number board block) (seen board block)

-- the allowance makes no difference
pub load_any : (p : ℕ) (board : Board) (block offset len : ℕ) → call p board (load block offset len) ≡ call 0 board (load block offset len)
load_any p board block offset len = load_is p board block offset len ∙ sym (load_is 0 board block offset len)

pub peek_any : (p : ℕ) (board : Board) (block : ℕ) → call p board (peek block) ≡ call 0 board (peek block)
peek_any p board block = peek_is p board block ∙ sym (peek_is 0 board block)

-- peek's number is that of the call
pub peek_answers : (p : ℕ) (board : Board) (block : ℕ) → (call p board (peek block)).number ≡ peek_number board block
peek_answers p board block = ap (λ (o : Outcome). o.number) (peek_is p board block)

-- ---- 6 RANGE

ltb_same : (a b c d : ℕ) → (a < b → c < d) → (c < d → a < b) → ltb a b ≡ ltb c d
ltb_same a b c d f g = go (ltb a b) (ltb c d) refl refl
  where
    go : (s t : Bool) → ltb a b ≡ s → ltb c d ≡ t → ltb a b ≡ ltb c d
    go true t p q = p ∙ sym (lt-ltb c d (f (ltb-true a b p)))
    go false false p q = p ∙ sym q
    go false true p q = lt-ltb a b (g (ltb-true c d q)) ∙ sym q

pub no_block_is : (g : Geometry) (board : Board) (block : ℕ) → sizes board ≡ g → leb g.blocks block ≡ no_block board block
unfolding no_block
no_block_is g board block e = ap (λ (z : Geometry). leb z.blocks block) (sym e)

-- test by test
module _ (board : Board) (block offset len : ℕ) where
  pub block_out : no_block board block ≡ true → true ≡ out_of_range board block offset len
  unfolding out_of_range
  block_out e = rw e

  pub offset_out : no_block board block ≡ false → 63 < offset → true ≡ out_of_range board block offset len
  unfolding out_of_range
  offset_out e h = rw (e, lt-ltb 63 offset h)

  pub length_out : no_block board block ≡ false → offset ≤ 63 → len ≡ 0 → true ≡ out_of_range board block offset len
  unfolding out_of_range
  length_out e h z = rw (e, le-ltb 63 offset h, eq-eqb len 0 z)

  pub end_out : no_block board block ≡ false → offset ≤ 63 → len ≢ 0 → ltb (64 - offset) len ≡ out_of_range board block offset len
  unfolding out_of_range
  end_out e h ne = rw (e, le-ltb 63 offset h, ne_eqb len 0 ne) (ltb_same (64 - offset) len 64 (offset + len) (λ l. omega arith) (λ l. omega arith))

-- ---- the checks 1 to 6

abbrev pub range_checks : Board → Bool → List Check
range_checks board applies = common_checks board false ++ (applies ⇒ No.Range) ∷ []

pub load_checks : (board : Board) (block offset len : ℕ) → first_of (range_checks board (out_of_range board block offset len)) ≡ load_number board block offset len
unfolding load_number
load_checks board block offset len = refl

pub peek_checks : (board : Board) (block : ℕ) → first_of (range_checks board (no_block board block)) ≡ peek_number board block
unfolding peek_number
peek_checks board block = refl

-- ---- what an accepted load or peek knows

module _ (memory cache table : List ℕ) (controller : Controller) where
  range_passed : (applies : Bool) → number_of (first_of (range_checks (board_of memory cache table controller) applies)) ≡ 0
      → Ready controller.geometry memory cache table × (applies ≡ false) × Formed table
  unfolding number_of
  range_passed applies e =
      let p = common_passed memory cache table controller false ((applies ⇒ No.Range) ∷ []) e in
      let formed = formed_table (allows controller.phase) controller.geometry table p.0.ready.blocks p.0.formed in
      (p.0.ready, (passed applies No.Range [] (suc-ne-zero 5) p.1).0, formed)

  pub load_passed : (block offset len : ℕ) → number_of (load_number (board_of memory cache table controller) block offset len) ≡ 0
      → Ready controller.geometry memory cache table × InRange (board_of memory cache table controller) block offset len × Formed table
  load_passed block offset len z =
      let board = board_of memory cache table controller in
      let p = range_passed (out_of_range board block offset len) (ap number_of (load_checks board block offset len) ∙ z) in
      (p.0, in_range board block offset len p.1, p.2)

  pub peek_passed : (block : ℕ) → number_of (peek_number (board_of memory cache table controller) block) ≡ 0
      → Ready controller.geometry memory cache table × (block < controller.geometry.blocks) × Formed table
  unfolding no_block
  peek_passed block z =
      let board = board_of memory cache table controller in
      let p = range_passed (no_block board block) (ap number_of (peek_checks board block) ∙ z) in
      (p.0, leb-false controller.geometry.blocks block p.1, p.2)

-- ---- what a lookup finds: `look` is its result, `found` the case that the code is in

pub slot_lt : (block slot : ℕ) (table : List ℕ) {state : State} {look : Option Entry} → look ≡ lookup block table → look ≡ entry_at slot state → slot < length table
slot_lt block slot table e q = found_lt (subst (Finds block table) (sym e ∙ q) (finds block table))

pub seen_is : (memory cache table : List ℕ) (controller : Controller) (block : ℕ) {look : Option Entry} (found : Option Entry) → look ≡ lookup block table → look ≡ found
    → seen (board_of memory cache table controller) block ≡ block_in memory cache (spot_of controller.geometry block found)
unfolding seen visible
seen_is memory cache table controller block found e q = ap (λ (z : Option Entry). block_in memory cache (spot_of controller.geometry block z)) (sym e ∙ q)

-- ---- the ends of a load

pub load_refused : (board : Board) (block offset : ℕ) (into : List ℕ) {n : Number} → (n ≡ load_number board block offset (length into)) × (number_of n ≢ 0)
    → Loaded board block offset into into n
unfolding filled
load_refused board block offset into {n} (e, ne) =
    let q = load_is 0 board block offset (length into) in
    record { number = rw q e; bytes = rw (q, ← e, ne_eqb (number_of n) 0 ne) }

pub load_done : (memory cache table : List ℕ) (controller : Controller) (block offset : ℕ) (into into' : List ℕ) {look : Option Entry} (found : Option Entry)
    → number_of (load_number (board_of memory cache table controller) block offset (length into)) ≡ 0
    → look ≡ lookup block table → look ≡ found
    → into' ≡ take (length into) (drop offset (block_in memory cache (spot_of controller.geometry block found)))
    → Loaded (board_of memory cache table controller) block offset into into' No.Done
unfolding filled
load_done memory cache table controller block offset into into' found z f g h =
    let board = board_of memory cache table controller in
    let q = load_is 0 board block offset (length into) in
    record {
      number = rw q (sym (done_is _ z));
      bytes = rw (q, eq-eqb (number_of (load_number board block offset (length into))) 0 z, seen_is memory cache table controller block found f g) h;
    }

-- ---- the ends of a peek

-- 64 bytes where the number is 0, else none
pub peek_size : (p : ℕ) (memory cache table : List ℕ) (controller : Controller) (block : ℕ)
    → length (call p (board_of memory cache table controller) (peek block)).gives
    ≡ cond (eqb (number_of (peek_number (board_of memory cache table controller) block)) 0) 64 0
peek_size p memory cache table controller block =
    ap (λ (o : Outcome). length o.gives) (peek_is p board block) ∙ go (eqb (number_of (peek_number board block)) 0) refl
  where
    board : Board
    board = board_of memory cache table controller

    go : (b : Bool) → eqb (number_of (peek_number board block)) 0 ≡ b
        → length (cond (eqb (number_of (peek_number board block)) 0) (seen board block) []) ≡ cond (eqb (number_of (peek_number board block)) 0) 64 0
    go true e =
        let o = peek_passed memory cache table controller block (eqb-true (number_of (peek_number board block)) 0 e) in
        rw e (seen-length board (record { memory = o.0.memory; cache = o.0.cache; table = o.0.table }) block o.1)
    go false e = rw e

pub peek_refused : (r memory cache : Bor (List ℕ)) (table : List ℕ) (controller : Controller) (block : ℕ) {n : Number}
    → (n ≡ peek_number (board_of memory.now cache.now table controller) block) × (number_of n ≢ 0) → PartOf r memory 0 0
    → Peeked r memory cache (board_of memory.now cache.now table controller) block
unfolding PartIf
peek_refused r memory cache table controller block {n} (e, ne) p =
    let board = board_of memory.now cache.now table controller in
    let none = ne_eqb (number_of n) 0 ne in
    let given : r.now ≡ (call 0 board (peek block)).gives = rw (peek_is 0 board block, ← e, none) p.bytes in
    record {
      gives = given;
      part = rw (← e, none) p;
      size = ap (λ (z : List ℕ). length z) given ∙ peek_size 0 memory.now cache.now table controller block;
    }

pub peek_done : (r memory cache : Bor (List ℕ)) (table : List ℕ) (controller : Controller) (block : ℕ) {look : Option Entry} (found : Option Entry)
    → number_of (peek_number (board_of memory.now cache.now table controller) block) ≡ 0
    → look ≡ lookup block table → look ≡ found
    → Shown r memory cache (spot_of controller.geometry block found)
    → Peeked r memory cache (board_of memory.now cache.now table controller) block
unfolding PartIf
peek_done r memory cache table controller block found z f g h =
    let board = board_of memory.now cache.now table controller in
    let some = eq-eqb (number_of (peek_number board block)) 0 z in
    let spot : lookup block table ≡ found = sym f ∙ g in
    let given : r.now ≡ (call 0 board (peek block)).gives =
    rw (peek_is 0 board block, some, seen_is memory.now cache.now table controller block found f g)
    (shown_bytes r memory cache (spot_of controller.geometry block found) h) in
    record {
      gives = given;
      part = rw (some, spot) h;
      size = ap (λ (z : List ℕ). length z) given ∙ peek_size 0 memory.now cache.now table controller block;
    }
