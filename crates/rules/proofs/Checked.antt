-- What follows when checks are passed, and when the lent lengths are exact.
use mathlib.Core.Path.{◌≡◌, refl, sym, ap, ◌∙◌, subst}
use mathlib.Core.Logic.{◌≢◌}
use mathlib.Core.Bool.{Bool, true, false, ◌&&◌, ◌||◌}
use mathlib.Core.List.{List, ◌∷◌, ◌++◌}
use Prim.Native.Nat.{ℕ, ◌+◌, ◌*◌, ◌≤◌, ◌<◌}
use native.Mathlib.Omega.{arith}
use native.Mathlib.Nat.{suc-ne-zero}
use lib.Dec.{eqb, leb, ltb}
use lib.ListN.{length}
use borrow.Author.Tests.{eqb-true, eqb-false, eq-eqb, not-false, leb-true, leb-false, ltb-true, ltb-false}
use Rattle.words.proofs.All.{All}
use Rattle.rules.specs.declared.Geometry.{Geometry}
use Rattle.rules.specs.declared.Phase.{Phase}
use Rattle.rules.specs.declared.State.{State}
use Rattle.rules.specs.declared.Number.{Number}
use Rattle.rules.specs.declared.Number.TheVariants as No
use Rattle.rules.specs.Geometry.{memory_words}
use Rattle.rules.specs.TableWords.{names, says, every}
use Rattle.rules.specs.Board.{Board, sizes, phase_of, cache_of, table_of}
use Rattle.rules.specs.Numbers.{number_of, Check, ◌⇒◌, first_of, outside, inexact, over_count, is_off, allows, well_said, well_formed, malformed, common_checks, no_block, out_of_range}
use Rattle.rules.proofs.Clashes.{and_left, and_right, or_false}
use Rattle.rules.proofs.Changing.{every_all}

-- the first of these checks is not the one that applies
pub passed : (applies : Bool) (n : Number) (checks : List Check) → number_of n ≢ 0 → number_of (first_of ((applies ⇒ n) ∷ checks)) ≡ 0
    → (applies ≡ false) × (number_of (first_of checks) ≡ 0)
unfolding first_of
passed true n checks ne e = absurd (ne e)
passed false n checks ne e = (refl, e)

pub record Common (board : Board) (unfit : Bool) : Type 0 where
  pub fine : outside (sizes board) ≡ false
  pub exact : inexact (sizes board) board || unfit ≡ false
  pub count : over_count (sizes board) (phase_of board) ≡ false
  pub awake : is_off (phase_of board) ≡ false
  pub formed : malformed board ≡ false

pub common_passed : (board : Board) (unfit : Bool) (checks : List Check) → number_of (first_of (common_checks board unfit ++ checks)) ≡ 0
    → Common board unfit × (number_of (first_of checks) ≡ 0)
unfolding common_checks number_of
common_passed board unfit checks e =
    let p1 = passed _ No.Geometry _ (suc-ne-zero 0) e in
    let p2 = passed _ No.Buffer _ (suc-ne-zero 1) p1.1 in
    let p3 = passed _ No.Record _ (suc-ne-zero 2) p2.1 in
    let p4 = passed _ No.Off _ (suc-ne-zero 3) p3.1 in
    let p5 = passed _ No.Table _ (suc-ne-zero 4) p4.1 in
    (record { fine = p1.0; exact = p2.0; count = p3.0; awake = p4.0; formed = p5.0 }, p5.1)

-- the checks 1 to 5 passed, the number is that of the others
pub past_common : {board : Board} {unfit : Bool} → Common board unfit → (checks : List Check) → first_of (common_checks board unfit ++ checks) ≡ first_of checks
unfolding common_checks first_of
past_common c checks = rw (c.fine, c.exact, c.count, c.awake, c.formed)

-- ---- table words

-- the check 5 passed, word by word
pub common_formed : {board : Board} {unfit : Bool} → Common board unfit → (phase : Phase) → phase_of board ≡ phase
    → All (λ w. well_formed (allows phase) (sizes board) w ≡ true) (table_of board)
unfolding malformed
common_formed {board} c phase e =
    every_all (well_formed (allows phase) (sizes board)) (table_of board)
    (subst (λ (now : Phase). every (well_formed (allows now) (sizes board)) (table_of board) ≡ true) e (not-false _ c.formed))

pub formed_names : (allowed : State → Bool) (g : Geometry) (word block : ℕ) (state : State) → well_formed allowed g word ≡ true → says word ≡ names block state
    → (block < g.blocks) × (allowed state ≡ true)
unfolding well_formed well_said
formed_names allowed g word block state f e =
    let both = sym (ap (well_said allowed g) e) ∙ f in
    (ltb-true block g.blocks (and_left (ltb block g.blocks) (allowed state) both), and_right (ltb block g.blocks) (allowed state) both)

-- ---- sizes and lengths

pub record Bounds (g : Geometry) : Type 0 where
  pub blocks_low : 1 ≤ g.blocks
  pub blocks_high : g.blocks ≤ 4096
  pub slots_low : 1 ≤ g.slots
  pub slots_high : g.slots ≤ 512

pub bounds : (g : Geometry) → outside g ≡ false → Bounds g
unfolding outside
bounds g e =
    let n = leb 1 g.blocks && leb g.blocks 4096 in
    let a = not-false (n && leb 1 g.slots && leb g.slots 512) e in
    let b = and_left (n && leb 1 g.slots) (leb g.slots 512) a in
    let c = and_left n (leb 1 g.slots) b in
    record {
      blocks_low = leb-true 1 g.blocks (and_left (leb 1 g.blocks) (leb g.blocks 4096) c);
      blocks_high = leb-true g.blocks 4096 (and_right (leb 1 g.blocks) (leb g.blocks 4096) c);
      slots_low = leb-true 1 g.slots (and_right n (leb 1 g.slots) b);
      slots_high = leb-true g.slots 512 (and_right (n && leb 1 g.slots) (leb g.slots 512) a);
    }

pub record Lent (g : Geometry) (board : Board) : Type 0 where
  pub memory : length board.memory ≡ 8 * memory_words g
  pub cache : length (cache_of board) ≡ 64 * g.slots
  pub table : length (table_of board) ≡ g.slots

pub lent_exact : (g : Geometry) (board : Board) → Lent g board → inexact g board ≡ false
unfolding inexact
lent_exact g board l =
    rw (
      eq-eqb (length board.memory) (8 * memory_words g) l.memory,
      eq-eqb (length (cache_of board)) (64 * g.slots) l.cache,
      eq-eqb (length (table_of board)) g.slots l.table,
    )

pub exact_lent : (g : Geometry) (board : Board) → inexact g board ≡ false → Lent g board
unfolding inexact
exact_lent g board e =
    let a = not-false _ e in
    let m = eqb (length board.memory) (8 * memory_words g) in
    let c = eqb (length (cache_of board)) (64 * g.slots) in
    let t = eqb (length (table_of board)) g.slots in
    let l = and_left (m && c) t a in
    record {
      memory = eqb-true (length board.memory) (8 * memory_words g) (and_left m c l);
      cache = eqb-true (length (cache_of board)) (64 * g.slots) (and_right m c l);
      table = eqb-true (length (table_of board)) g.slots (and_right (m && c) t a);
    }

-- the checks 1 and 2 of the sizes that are given
pub sizes_passed : (board : Board) (g : Geometry) (checks : List Check)
    → number_of (first_of ((outside g ⇒ No.Geometry) ∷ (inexact g board ⇒ No.Buffer) ∷ checks)) ≡ 0
    → (outside g ≡ false) × Lent g board × (number_of (first_of checks) ≡ 0)
unfolding number_of
sizes_passed board g checks e =
    let one = passed (outside g) No.Geometry ((inexact g board ⇒ No.Buffer) ∷ checks) (suc-ne-zero 0) e in
    let two = passed (inexact g board) No.Buffer checks (suc-ne-zero 1) one.1 in
    (one.0, exact_lent g board two.0, two.1)

-- exact lengths fix the sizes: no two boards share all three
pub same_sizes : (g h : Geometry) (board : Board) → Lent g board → Lent h board → h ≡ g
same_sizes g h board l k =
    let b : h.slots ≡ g.slots = sym k.table ∙ l.table in
    let n : h.blocks ≡ g.blocks = (let e = sym k.memory ∙ l.memory in omega arith) in
    λ i. record { blocks = n i; slots = b i }

-- ---- a range within its block, and the block within the board

pub record InRange (board : Board) (block offset len : ℕ) : Type 0 where
  pub below : block < (sizes board).blocks
  pub early : offset ≤ 63
  pub some : len ≢ 0
  pub fits : offset + len ≤ 64

pub in_range : (board : Board) (block offset len : ℕ) → out_of_range board block offset len ≡ false → InRange board block offset len
unfolding out_of_range no_block
in_range board block offset len e =
    let a = or_false _ _ e in
    let c = or_false _ _ a.0 in
    let d = or_false _ _ c.0 in
    record {
      below = leb-false (sizes board).blocks block d.0;
      early = ltb-false 63 offset d.1;
      some = eqb-false len 0 c.1;
      fits = ltb-false 64 (offset + len) a.1;
    }
