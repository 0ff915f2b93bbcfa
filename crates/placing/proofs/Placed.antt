-- A block laid at its place: in a part of the memory, or in CACHE.
use mathlib.Core.Path.{◌≡◌, refl, sym, ap, ◌∙◌, subst}
use mathlib.Core.List.{List, []}
use Prim.Native.Nat.{ℕ, ◌+◌, ◌*◌, ◌<◌}
use native.Mathlib.Omega.{arith}
use native.Mathlib.Nat.{not-suc-le-zero}
use lib.ListN.{set}
use Rattle.words.specs.Words.{Store, lay, bytes_to, Lays}
use Rattle.words.proofs.Makers.{take-bytes_to}
use Rattle.words.proofs.Laying.{lays_nothing}
use Rattle.rules.specs.declared.Geometry.{Geometry}
use Rattle.rules.specs.declared.Controller.{Controller}
use Rattle.rules.specs.declared.State.{State}
use Rattle.rules.specs.declared.Window.{Window}
use Rattle.rules.specs.declared.Place.{Place}
use Rattle.rules.specs.declared.Place.TheVariants.{Home, Checkpoint, Cache}
use Rattle.rules.specs.declared.Number.TheVariants as No
use Rattle.rules.specs.declared.Answer.{Answer}
use Rattle.rules.specs.TableWords.{word_of}
use Rattle.rules.specs.Board.{Board, board_of, sizes, table_of}
use Rattle.rules.specs.Power.{Outcome, settle, outcome_of}
use Rattle.rules.specs.Loads.{Spot, in_memory, in_cache, spot_in}
use Rattle.rules.specs.Stores.{all, touched, window_for, window_to, lay_at, moved}
use Rattle.rules.proofs.LaidAt.{memory_cache}
use Rattle.checks.specs.Answers.{refused_of}
use Rattle.checks.proofs.Settled.{cut_is, whole_is}
use Rattle.moves.specs.declared.Move.{Move}
use Rattle.moves.specs.declared.Move.TheVariants.{To, InPlace, NotWellFormed}
use Rattle.placing.specs.Spots.{InMemory, is_in_memory}
use Rattle.placing.specs.Ends.{Ended, cut, whole}
use Rattle.moves.specs.Moves.{move_of, short_of}

-- ---- the ends of a store, by the spot of its block

module _ (p : ℕ) (memory cache table : List ℕ) (controller : Controller) (fresh : List ℕ) (window : Window) (table' : List ℕ) (answer : Answer) where
  abbrev board : Board
  board = board_of memory cache table controller

  -- the table is as the code left it
  left : {memory' cache' old table'' : List ℕ} {o : Outcome} → table'' ≡ old → o ≡ outcome_of answer memory' cache' old → o ≡ outcome_of answer memory' cache' table''
  left {memory'} {cache'} e q = q ∙ ap (outcome_of answer memory' cache') (sym e)

  pub memory_ended : (q : ℕ) {memory' table'' : List ℕ} {words : ℕ} → Lays p (window_to q window fresh) memory memory' words → Ended p words controller table' table answer table''
      → settle p board (lay_at board table' fresh window (in_memory q)) ≡ outcome_of answer memory' cache table''
  unfolding lay_at
  memory_ended q {memory'} {words} laid (cut h a t) =
      left t
      (cut_is p memory cache table controller (window_to q window fresh) memory' words laid answer (record { cache = cache; table = table'; controller = controller }) refl h a)
  memory_ended q {memory'} {words} laid (whole h a t) =
      left t (whole_is p memory cache table controller (window_to q window fresh) memory' words laid answer cache table' controller h a)

  pub cache_ended : (slot : ℕ) {cache' table'' : List ℕ} {words : ℕ} → Lays 8 (bytes_to (8 * slot) 8 fresh) cache cache' words → Ended 0 0 controller table' table answer table''
      → settle p board (lay_at board table' fresh window (in_cache slot)) ≡ outcome_of answer memory cache' table''
  unfolding lay_at
  cache_ended slot laid (cut h a t) = absurd (not-suc-le-zero h)
  cache_ended slot {cache'} laid (whole h a t) =
      let e : lay (bytes_to (8 * slot) 8 fresh) cache ≡ cache' =
      sym (laid.bytes ∙ ap (λ (z : List Store). lay z cache) (take-bytes_to 8 8 (8 * slot) fresh))
      in
      left t (rw e (whole_is p memory cache table controller [] memory 0 (lays_nothing p memory) answer cache' table' controller (omega arith) a))

-- ---- the spot of a place

-- a block of the lent memory or CACHE
abbrev pub Inside : Geometry → Spot → Type 0
Inside g (in_memory q) = q < g.blocks + g.slots
Inside g (in_cache q) = q < g.slots

pub spot_inside : (g : Geometry) (block slot : ℕ) (place : Place) → block < g.blocks → slot < g.slots → Inside g (spot_in g block slot place)
unfolding spot_in
spot_inside g block slot Home b s = omega arith
spot_inside g block slot Checkpoint b s = omega arith
spot_inside g block slot Cache b s = s

pub inside : (g : Geometry) (block slot : ℕ) (place : Place) {spot : Spot} → spot ≡ spot_in g block slot place → block < g.blocks → slot < g.slots → Inside g spot
inside g block slot place e b s = subst (Inside g) (sym e) (spot_inside g block slot place b s)

pub not_cache : (q : ℕ) {spot : Spot} → spot ≡ in_cache q → InMemory spot → ⊥
not_cache q e (is_in_memory index) = memory_cache index q e

-- ---- a move carried out

module _ (p : ℕ) (board : Board) (block slot word : ℕ) (fresh : List ℕ) (offset len : ℕ) {next : Move} {place : Place} {state : State} {spot : Spot} {outcome : Outcome} where
  pub placed : next ≡ To place state → spot_in (sizes board) block slot place ≡ spot → word ≡ word_of block state
      → settle p board (lay_at board (set (table_of board) slot word) fresh all spot) ≡ outcome
      → settle p board (moved board block slot fresh (window_for (short_of next) offset len) (move_of next)) ≡ outcome
  unfolding moved window_for
  placed e s w q = rw (e, s, ← w) q

  pub placed_short : next ≡ InPlace place state → spot_in (sizes board) block slot place ≡ spot → word ≡ word_of block state
      → settle p board (lay_at board (set (table_of board) slot word) fresh (touched offset len) spot) ≡ outcome
      → settle p board (moved board block slot fresh (window_for (short_of next) offset len) (move_of next)) ≡ outcome
  unfolding moved window_for
  placed_short e s w q = rw (e, s, ← w) q

pub not_placed : (p : ℕ) (memory cache table : List ℕ) (controller : Controller) (block slot : ℕ) (fresh : List ℕ) (window : Window) {next : Move} {answer : Answer}
    → next ≡ NotWellFormed → answer ≡ refused_of No.Table controller
    → settle p (board_of memory cache table controller) (moved (board_of memory cache table controller) block slot fresh window (move_of next))
    ≡ outcome_of answer memory cache table
unfolding moved settle
not_placed p memory cache table controller block slot fresh window e a = rw (e, a)
