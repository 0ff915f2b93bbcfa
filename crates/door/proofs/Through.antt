-- A call through the door: refused before the table is read, or the board's own call with its outcome as bytes.
use mathlib.Core.Path.{◌≡◌, refl, sym, ap, ◌∙◌}
use mathlib.Core.Logic.{◌≢◌}
use mathlib.Core.Bool.{Bool, true, false, not, cond}
use mathlib.Core.List.{List, [], ◌∷◌}
use Prim.Native.Nat.{ℕ, ◌*◌, ◌/◌, ◌≤◌}
use native.Mathlib.Omega.{arith}
use lib.Dec.{eqb}
use lib.ListN.{length}
use borrow.Author.Tests.{eqb-false, eq-eqb, ne_eqb, not-false}
use Rattle.words.specs.Words.{number_bytes}
use Rattle.rules.specs.declared.Geometry.{Geometry}
use Rattle.rules.specs.declared.Controller.{Controller}
use Rattle.rules.specs.declared.Number.{Number}
use Rattle.rules.specs.declared.Answer.{Answer}
use Rattle.rules.specs.declared.Recovery.{Recovery}
use Rattle.rules.specs.declared.Registers.{Registers}
use Rattle.rules.specs.declared.Registers.TheVariants.{Saved, Absent}
use Rattle.rules.specs.Board.{Board, board_of, cache_of, table_of}
use Rattle.rules.specs.Numbers.{number_of}
use Rattle.rules.specs.Power.{Outcome, outcome_of}
use Rattle.rules.specs.Starts.{registers_of, registers_given}
use Rattle.rules.specs.Calls.{Call, load, call}
use Rattle.loads.specs.Reading.{Loaded, filled}
use Rattle.rules.proofs.Answers as R
use Rattle.rules.proofs.Clashes.{or_false, none_some}
use Rattle.codec.specs.Encoding.{encoded}
use Rattle.codec.specs.Supposed.{supposed, is_record}
use Rattle.tabled.specs.Tabled.{changes, Tabled, TabledRecovery}
use Rattle.door.specs.declared.RostimelyAnswer.{RostimelyAnswer}
use Rattle.door.specs.declared.RostimelyRecovery.{RostimelyRecovery}
use Rattle.door.specs.declared.early.Early.{Early}
use Rattle.door.specs.declared.early.Early.TheVariants as V
use Rattle.door.specs.Early.{number_of_early}
use Rattle.door.specs.Doors as D
use Rattle.door.specs.Answers.{left_of, Loads, registers_flag, flag_of, Recovers}
use Rattle.door.proofs.Sizes.{whole, record_ninety}

-- ---- refused before the table is read

pub early_not_0 : (early : Early) → number_of_early early ≢ 0
early_not_0 V.RecordBytes e = omega (arith, e)
early_not_0 V.Geometry e = omega (arith, e)
early_not_0 V.Buffer e = omega (arith, e)

module _ (p : ℕ) (lent : D.Lent) (x : Call) where
  pub refused_early : {n : ℕ} → n ≡ D.early x lent → n ≢ 0 → D.door p lent x ≡ D.refused n lent
  unfolding D.door
  refused_early e ne = rw (← e, ne_eqb _ 0 ne)

  pub goes_on : {n : ℕ} → n ≡ D.early x lent → n ≡ 0 → D.door p lent x ≡ D.left_by lent (call p (D.board_in lent (supposed lent.record_bytes)) x)
  unfolding D.door
  goes_on e z = rw (← e, eq-eqb _ 0 z)

-- ---- what is known where no record is refused, and then of sizes and lengths that pass

-- 12 comes first
pub passed : (b : Bool) (n : ℕ) → cond b 12 n ≡ 0 → (b ≡ false) × (n ≡ 0)
passed true n e = absurd (omega (arith, e))
passed false n e = (refl, e)

pub kept_ninety : (record-bytes : List ℕ) (n : ℕ) → cond (not (is_record record-bytes)) 12 n ≡ 0 → length record-bytes ≡ 90
kept_ninety record-bytes n e = record_ninety record-bytes (not-false _ (passed (not (is_record record-bytes)) n e).0)

module _ (b : Bool) (g : Geometry) (memory cache table : ℕ) (e : cond b 12 (D.sizes_number g memory cache table) ≡ 0) where
  pub kept_whole : (table ≡ 8 * (table / 8)) × (table ≤ 4096)
  kept_whole = whole g memory cache table (passed b (D.sizes_number g memory cache table) e).1

-- ---- the board's own outcome as bytes

unchanged : (n : Number) → changes n ≡ false → (number_of n ≢ 0) × (number_of n ≢ 20)
unfolding changes
unchanged n e =
    let both = or_false (eqb (number_of n) 0) (eqb (number_of n) 20) e in
    (eqb-false (number_of n) 0 both.0, eqb-false (number_of n) 20 both.1)

-- a refused call leaves the board
pub refused_stays : (p : ℕ) (board : Board) (x : Call) → changes (call p board x).number ≡ false → (call p board x).board ≡ board
refused_stays p board x e = let ne = unchanged (call p board x).number e in (R.refused p board x ne.0 ne.1).same

answered : (lent : D.Lent) (r : Answer) (memory' cache' table' : List ℕ) (b : Bool) → changes r.number ≡ b
    → (b ≡ false → (memory' ≡ lent.memory) × (cache' ≡ lent.cache))
    → D.left_by lent (outcome_of r memory' cache' table')
    ≡ left_of (record { number = number_of r.number; words = r.words }) memory' cache'
    (cond b (number_bytes table') lent.table_bytes) (cond b (encoded r.controller) lent.record_bytes)
unfolding D.left_by D.bytes_of
answered lent r memory' cache' table' true e kept = rw e
answered lent r memory' cache' table' false e kept = rw (e, (kept refl).0, (kept refl).1)

module _ (p : ℕ) (lent : D.Lent) (k : Controller) (x : Call) where
  abbrev o : Outcome
  o = call p (D.board_in lent k) x

  -- store, begin, step and format
  pub left_by_lem : {r : Answer} {a : RostimelyAnswer} {memory' cache' table' record' : List ℕ}
      → Tabled (call p (D.board_in lent k) x) r memory' cache' lent.table_bytes table'
      → a ≡ record { number = number_of r.number; words = r.words }
      → record' ≡ cond (changes r.number) (encoded r.controller) lent.record_bytes
      → D.left_by lent (call p (D.board_in lent k) x) ≡ left_of a memory' cache' table' record'
  left_by_lem {r} {a} {memory'} {cache'} {table'} {record'} t told wrote =
      let is = t.outcome in
      let same : (changes r.number ≡ false) → o.board ≡ D.board_in lent k =
      λ e. refused_stays p (D.board_in lent k) x (ap (λ (z : Outcome). changes z.number) is ∙ e) in
      ap (D.left_by lent) is
      ∙ answered lent r memory' cache' (table_of o.board) (changes r.number) refl
      (λ e. (sym (ap (λ (z : Outcome). z.board.memory) is) ∙ ap (λ (b : Board). b.memory) (same e), sym (ap (λ (z : Outcome). cache_of z.board) is) ∙ ap cache_of (same e)))
      ∙ rw (told, wrote, t.table)

-- ---- recovery

flag_is : (registers : Registers) (bytes gives : List ℕ) → registers_of registers bytes ≡ registers_given gives → flag_of registers ≡ registers_flag gives
unfolding registers_given registers_flag
flag_is Saved bytes [] e = absurd (none_some bytes (sym e))
flag_is Saved bytes (byte ∷ gives) e = refl
flag_is Absent bytes [] e = refl
flag_is Absent bytes (byte ∷ gives) e = absurd (none_some (byte ∷ gives) e)

module _ (p : ℕ) (lent : D.Lent) (k : Controller) (x : Call) where
  abbrev regained : Outcome
  regained = call p (D.board_in lent k) x

  -- the bytes after a recovery: those of the outcome's board, or those lent
  bytes_after : (b : Bool) → changes regained.number ≡ b → {memory' cache' table' : List ℕ} {c : Controller} → board_of memory' cache' table' c ≡ regained.board
      → D.lent_of memory' cache' (cond b (number_bytes table') lent.table_bytes) (cond b (encoded c) lent.record_bytes) ≡ (D.left_by lent regained).lent
  unfolding D.left_by D.bytes_of
  bytes_after true e is = rw (e, ← is)
  bytes_after false e is =
      let same : board_of _ _ _ _ ≡ D.board_in lent k = is ∙ refused_stays p (D.board_in lent k) x e in
      rw (e, ap (λ (b : Board). b.memory) same, ap cache_of same)

  pub recovers_by : {r : Recovery} {a : RostimelyAnswer} {flag : ℕ} {memory' cache' table' record' : List ℕ}
      → TabledRecovery (call p (D.board_in lent k) x) r memory' cache' lent.table_bytes table'
      → a ≡ record { number = number_of r.answer.number; words = r.answer.words }
      → record' ≡ cond (changes r.answer.number) (encoded r.answer.controller) lent.record_bytes
      → flag ≡ flag_of r.registers
      → Recovers (D.left_by lent (call p (D.board_in lent k) x)) memory' cache' table' record' (record { number = a.number; words = a.words; registers = flag })
  unfolding D.left_by
  recovers_by {r} {a} {flag} {memory'} {cache'} {table'} {record'} t told wrote flagged =
      let is = t.outcome in
      let n = is.number in
      record {
        number = ap (λ (z : RostimelyAnswer). z.number) told ∙ ap number_of n;
        words = ap (λ (z : RostimelyAnswer). z.words) told ∙ is.words;
        registers = flagged ∙ flag_is r.registers r.answer.controller.registers regained.gives is.registers;
        lent = rw (t.table, wrote, n) (bytes_after (changes regained.number) refl is.board);
      }

-- refused before the table is read
pub recovers_nothing : (lent : D.Lent) {n : ℕ} {r : RostimelyRecovery} → r ≡ record { number = n; words = 0; registers = 0 }
    → Recovers (D.refused n lent) lent.memory lent.cache lent.table_bytes lent.record_bytes r
unfolding registers_flag
recovers_nothing lent told = record {
  number = ap (λ (z : RostimelyRecovery). z.number) told;
  words = ap (λ (z : RostimelyRecovery). z.words) told;
  registers = ap (λ (z : RostimelyRecovery). z.registers) told;
  lent = refl;
}

-- ---- load

pub loads_by : (lent : D.Lent) (k : Controller) (block offset : ℕ) {into into' : List ℕ} {n : Number} {a : RostimelyAnswer}
    → Loaded (D.board_in lent k) block offset into into' n → a ≡ record { number = number_of n; words = 0 }
    → Loads (D.left_by lent (call 0 (D.board_in lent k) (load block offset (length into)))) into into' a
unfolding D.left_by filled
loads_by lent k block offset l told = record {
  number = ap (λ (z : RostimelyAnswer). z.number) told ∙ ap number_of l.number;
  words = ap (λ (z : RostimelyAnswer). z.words) told;
  bytes = l.bytes;
}

-- refused before the table is read
pub loads_nothing : (lent : D.Lent) (into : List ℕ) {n : ℕ} {a : RostimelyAnswer} → n ≢ 0 → a ≡ record { number = n; words = 0 } → Loads (D.refused n lent) into into a
loads_nothing lent into {n} ne told = record {
  number = ap (λ (z : RostimelyAnswer). z.number) told;
  words = ap (λ (z : RostimelyAnswer). z.words) told;
  bytes = rw (ne_eqb n 0 ne);
}
