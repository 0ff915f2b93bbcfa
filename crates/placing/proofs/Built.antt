-- The new block of a store at its spot: from the visible block, or from the bytes alone.
use mathlib.Core.Path.{◌≡◌, refl, sym, ap, ◌∙◌, subst}
use mathlib.Core.Bool.{false, ◌||◌}
use mathlib.Core.List.{List, [], append-nil}
use Prim.Native.Nat.{ℕ, ◌+◌, ◌*◌, ◌-◌, ◌/◌, ◌≤◌, ◌<◌, min}
use native.Mathlib.Omega.{arith}
use lib.Dec.{ltb}
use lib.ListN.{length, drop, drop_of_length-le}
use borrow.Author.Tests.{ltb-false}
use Rattle.words.specs.Words.{block_at, Store, lay, bytes_to, Lays}
use Rattle.words.proofs.Makers.{take-bytes_to}
use Rattle.words.proofs.Blocks.{length_block}
use Rattle.rules.specs.declared.Geometry.{Geometry}
use Rattle.rules.specs.declared.State.{State}
use Rattle.rules.specs.declared.Entry.{Entry}
use Rattle.rules.specs.TableWords.{entry_at}
use Rattle.std.specs.Prelude.{Option, Some, None}
use Rattle.rules.specs.Loads.{Spot, in_memory, in_cache, shows, spot_in, spot_of, block_in}
use Rattle.rules.specs.declared.Window.{Window}
use Rattle.rules.specs.Stores.{replaced, all, touched, window_to}
use Rattle.rules.proofs.Clashes.{or_false}
use Rattle.rules.proofs.Windows.{touched_covers, window_all}
use Rattle.merges.specs.Ranges.{Opens}
use Rattle.placing.specs.Spots.{Fits}
use Rattle.placing.proofs.Placed.{Inside, spot_inside}

-- ---- 64 bytes are the new block, whatever the visible one is

spot_length : (memory cache : List ℕ) (spot : Spot) → Fits memory cache spot → length (block_in memory cache spot) ≡ 64
unfolding block_in
spot_length memory cache (in_memory q) f = length_block memory q f
spot_length memory cache (in_cache q) f = length_block cache q f

all_replaced : (block bytes : List ℕ) (offset : ℕ) → offset ≡ 0 → length bytes ≡ 64 → length block ≡ 64 → bytes ≡ replaced block offset bytes
unfolding replaced
all_replaced block bytes offset e b l =
    let none : drop (0 + length bytes) block ≡ [] = drop_of_length-le block {i = 0 + length bytes} (omega arith) in
    rw (e, none) (sym (append-nil bytes))

pub whole_lays : (memory cache : List ℕ) (spot : Spot) (place offset : ℕ) (bytes : List ℕ) {part part' : List ℕ} {r : ℕ}
    → Fits memory cache spot → length bytes ≡ 64 → offset + length bytes ≤ 64
    → Lays 8 (bytes_to place 8 bytes) part part' r → Lays 8 (bytes_to place 8 (replaced (block_in memory cache spot) offset bytes)) part part' r
whole_lays memory cache spot place offset bytes {part} {part'} {r} f b h l =
    subst (λ (z : List ℕ). Lays 8 (bytes_to place 8 z) part part' r) (all_replaced (block_in memory cache spot) bytes offset (omega arith) b (spot_length memory cache spot f)) l

-- ---- all 8 words

-- a range that touches 8 words touches them all
touched_all : (offset len : ℕ) {window : Window} → offset + len ≤ 64 → window ≡ touched offset len → 8 ≤ window.count → touched offset len ≡ all
unfolding touched
touched_all offset len fits e h =
    let enough : 8 ≤ (offset + len + 7) / 8 - offset / 8 = subst (λ (z : Window). 8 ≤ z.count) e h in
    let first : offset / 8 ≡ 0 = omega arith in
    let count : (offset + len + 7) / 8 - offset / 8 ≡ 8 = omega arith in
    ap (λ (z : ℕ). record { first = z; count = (offset + len + 7) / 8 - offset / 8 }) first ∙ ap (λ (z : ℕ). record { first = 0; count = z }) count

pub all_opens : (offset : ℕ) {window : Window} → window ≡ all → Opens offset window
all_opens offset e = subst (Opens offset) (sym e) (omega arith, omega arith)

pub lays_all : (p to : ℕ) (fresh : List ℕ) {window : Window} {part part' : List ℕ} {r : ℕ} → window ≡ all
    → Lays p (window_to to window fresh) part part' r → Lays p (bytes_to (8 * to) 8 fresh) part part' r
lays_all p to fresh {window} {part} {part'} {r} e l =
    subst (λ (z : List Store). Lays p z part part' r) (ap (λ (z : Window). window_to to z fresh) e ∙ window_all to fresh) l

pub lays_window : (p to : ℕ) (fresh : List ℕ) {window : Window} {part part' : List ℕ} {r : ℕ} → window ≡ all
    → Lays p (bytes_to (8 * to) 8 fresh) part part' r → Lays p (window_to to window fresh) part part' r
lays_window p to fresh {window} {part} {part'} {r} e l =
    subst (λ (z : List Store). Lays p z part part' r) (sym (ap (λ (z : Window). window_to to z fresh) e ∙ window_all to fresh)) l

-- an allowance of 8 words is as good as any above
pub lays_any : (p place : ℕ) (fresh : List ℕ) {part part' : List ℕ} {r : ℕ} → 8 ≤ p → Lays 8 (bytes_to place 8 fresh) part part' r → Lays p (bytes_to place 8 fresh) part part' r
lays_any p place fresh {part} h l =
    let e : min 8 8 ≡ min p 8 = omega arith in
    record {
      words = l.words;
      bytes = l.bytes
          ∙ ap (λ (z : List Store). lay z part) (take-bytes_to 8 8 place fresh ∙ ap (λ (z : ℕ). bytes_to place z fresh) e ∙ sym (take-bytes_to 8 p place fresh));
    }

-- ---- a short store

pub touched_opens : (offset len : ℕ) {window : Window} → offset + len ≤ 64 → window ≡ touched offset len → Opens offset window
touched_opens offset len h e = let c = touched_covers offset len h in subst (Opens offset) (sym e) (c.low, c.few)

-- all 8 words, under an allowance that is enough
pub lays_short : (p to : ℕ) (memory : List ℕ) (offset : ℕ) (bytes : List ℕ) (window : Window) {memory' : List ℕ} {r : ℕ}
    → offset + length bytes ≤ 64 → window ≡ touched offset (length bytes) → ltb window.count 8 || ltb p 8 ≡ false
    → Lays 8 (bytes_to (8 * to) 8 (replaced (block_at memory to) offset bytes)) memory memory' r
    → Lays p (window_to to (touched offset (length bytes)) (replaced (block_at memory to) offset bytes)) memory memory' r
lays_short p to memory offset bytes window fits e h l =
    let many = or_false (ltb window.count 8) (ltb p 8) h in
    let new : List ℕ = replaced (block_at memory to) offset bytes in
    lays_window p to new (touched_all offset (length bytes) fits e (ltb-false window.count 8 many.0)) (lays_any p (8 * to) new (ltb-false p 8 many.1) l)

-- 64 bytes are the new block here too
pub whole_short : (to : ℕ) (memory : List ℕ) (offset : ℕ) (bytes : List ℕ) {memory' : List ℕ} {r : ℕ} → 64 * to + 64 ≤ length memory → offset + length bytes ≤ 64 → length bytes ≡ 64
    → Lays 8 (bytes_to (8 * to) 8 bytes) memory memory' r → Lays 8 (bytes_to (8 * to) 8 (replaced (block_at memory to) offset bytes)) memory memory' r
unfolding block_in
whole_short to memory offset bytes room fits e l = whole_lays memory [] (in_memory to) (8 * to) offset bytes room e fits l

-- ---- the visible block lies inside

pub inside_fits : (g : Geometry) (memory cache : List ℕ) (spot : Spot) → 64 * (g.blocks + g.slots) ≤ length memory → 64 * g.slots ≤ length cache → Inside g spot → Fits memory cache spot
inside_fits g memory cache (in_memory q) m c i = omega arith
inside_fits g memory cache (in_cache q) m c i = omega arith

pub visible_inside : (g : Geometry) (block : ℕ) (found : Option Entry) → block < g.blocks → ((slot : ℕ) (state : State) → found ≡ entry_at slot state → slot < g.slots) → Inside g (spot_of g block found)
unfolding spot_of spot_in
visible_inside g block None b s = omega arith
visible_inside g block (Some entry) b s = spot_inside g block entry.slot (shows entry.state) b (s entry.slot entry.state refl)
