-- The board's way of saving, the words that it protects, and what a finished backup keeps.
use mathlib.Core.Path.{◌≡◌, refl, sym, ap, ◌∙◌, subst}
use mathlib.Core.Logic.{◌≢◌}
use mathlib.Core.Bool.{Bool, true, false, not, cond}
use mathlib.Core.List.{List, [], ◌∷◌}
use Prim.Native.Nat.{ℕ, ◌+◌, ◌*◌, ◌≤◌, ◌<◌}
use native.Mathlib.Omega.{arith}
use lib.Dec.{eqb}
use lib.ListN.{length, take}
use lib.Seq.{take-length}
use borrow.Author.Tests.{eqb-true}
use Rattle.std.specs.Prelude.{Option, Some, None}
use Rattle.words.specs.Words.{word, words, block_at, Store, lay, number}
use Rattle.words.proofs.All.{All, all_map}
use Rattle.words.proofs.Lists.{Fit, Harmless}
use Rattle.words.proofs.Rising.{Below}
use Rattle.words.proofs.Makers.{words_agree, numbers_agree, length-words, length-numbers}
use Rattle.rules.specs.declared.Geometry.{Geometry}
use Rattle.rules.specs.declared.Backup.{Backup}
use Rattle.rules.specs.declared.Backup.TheVariants.{A, B}
use Rattle.rules.specs.declared.Entry.{Entry}
use Rattle.rules.specs.Geometry.{backup_start, backup_words, mark_start, memory_words}
use Rattle.rules.specs.TableWords.{lookup}
use Rattle.rules.specs.Stores.{stores}
use Rattle.rules.specs.Checkpoints.{other}
use Rattle.rules.specs.Starts.{finished_by, has_registers, mark_in, finished_in, registers_in, saved_registers, handed_out, registers_given, table_in, sound, saved_by, saved_block}
use Rattle.rules.specs.PlainMachine.{Picture}
use Rattle.rules.proofs.Clashes.{none_some}
use Rattle.rules.proofs.Finding.{Finds, finds, found_lt}
use Rattle.rules.proofs.Protection.{Scheme, Protected, reading, saving, SameImage, every_prefix}

-- what a recovery reads first
pub record Head : Type 0 where
  pub finished : Option Backup
  pub registers : Option (List ℕ)
  pub table : List ℕ

unfoldable pub head_from : Geometry → List ℕ → Option Backup → Head
head_from g memory None = record { finished = None; registers = None; table = [] }
head_from g memory (Some backup) = record { finished = Some backup; registers = saved_registers g memory backup; table = table_in g memory backup }

unfoldable pub head_of : Geometry → List ℕ → Head
head_of g memory = head_from g memory (finished_in g memory)

-- whether there are registers, by the mark
pub registers_by : (g : Geometry) (memory : List ℕ) (backup : Backup) (mark : ℕ) → mark_in g memory ≡ mark
    → saved_registers g memory backup ≡ cond (has_registers mark) (Some (registers_in g memory backup)) None
unfolding saved_registers
registers_by g memory backup mark e = ap (λ (z : ℕ). cond (has_registers z) (Some (registers_in g memory backup)) None) e

pub data Reads (g : Geometry) (h : Head) (j : ℕ) : Type 0 where
  the_mark : j ≡ mark_start g → Reads g h j
  the_backup : (backup : Backup) → h.finished ≡ Some backup → backup_start g backup ≤ j → j < backup_start g backup + backup_words g → Reads g h j

pub head_local : (g : Geometry) (memory memory' : List ℕ) → ((j : ℕ) → Reads g (head_of g memory) j → word memory' j ≡ word memory j)
    → head_of g memory' ≡ head_of g memory
unfolding head_of head_from finished_in saved_registers registers_in table_in
head_local g memory memory' h = rw (h (mark_start g) (the_mark refl)) (go (finished_by (number (word memory (mark_start g)))) refl)
  where
    go : (o : Option Backup) → finished_by (number (word memory (mark_start g))) ≡ o → head_from g memory' o ≡ head_from g memory o
    go None e = refl
    go (Some x) e =
        let w : (head_of g memory).finished ≡ Some x = ap (λ (z : Option Backup). (head_from g memory z).finished) e in
        rw (
          h (mark_start g) (the_mark refl),
          words_agree memory memory' 8 (backup_start g x) (λ j a b. h j (the_backup x w a (omega arith))),
          numbers_agree memory memory' g.slots (backup_start g x + 8) (λ j a b. h j (the_backup x w (omega arith) (omega arith))),
        )

unfoldable pub scheme : Geometry → Scheme
scheme g = record {
  Head = Head;
  head = head_of g;
  Reads = Reads g;
  place = λ h block. 8 * saved_block g h.table block;
  count = g.blocks;
  local = head_local g;
}

-- the parts lie one behind the other
pub blocks_low : (g : Geometry) (x : Backup) → 8 * g.blocks + 8 * g.slots ≤ backup_start g x
blocks_low g A = omega arith
blocks_low g B = omega arith

pub mark_high : (g : Geometry) (x : Backup) → backup_start g x + backup_words g ≤ mark_start g
mark_high g A = omega arith
mark_high g B = omega arith

-- ---- a finished backup and the picture that it keeps

pub record Kept (g : Geometry) (memory : List ℕ) (finished : Backup) (registers : Option (List ℕ)) (table : List ℕ) (picture : Picture) : Type 0 where
  pub reads : head_of g memory ≡ record { finished = Some finished; registers = registers; table = table }
  pub good : sound g table ≡ true
  pub image : (block : ℕ) → block < g.blocks → block_at memory (saved_block g table block) ≡ picture.blocks block
  pub given : registers ≡ picture.registers

pub saved_lt : (g : Geometry) (table : List ℕ) (block : ℕ) → block < g.blocks → length table ≡ g.slots → saved_block g table block < g.blocks + g.slots
unfolding saved_block saved_by
saved_lt g table block h e = go (lookup block table) (finds block table)
  where
    go : (r : Option Entry) → Finds block table r → saved_by g block r < g.blocks + g.slots
    go None l = omega arith
    go (Some entry) l = let lt = found_lt l in omega arith

pub kept_length : {g : Geometry} {memory : List ℕ} {x : Backup} {registers : Option (List ℕ)} {table : List ℕ} {picture : Picture}
    → Kept g memory x registers table picture → length table ≡ g.slots
unfolding head_of head_from table_in
kept_length {g} {memory} {x} {registers} {table} k = go (finished_in g memory) k.reads
  where
    go : (o : Option Backup) → head_from g memory o ≡ record { finished = Some x; registers = registers; table = table } → length table ≡ g.slots
    go None e = absurd (none_some x (ap (λ (h : Head). h.finished) e))
    go (Some y) e = ap length (sym (ap (λ (h : Head). h.table) e)) ∙ length-numbers memory g.slots (backup_start g y + 8)

-- registers that exist are 64 bytes, so those handed out say which they are, and none say that there are none
pub given_saved : (g : Geometry) (memory : List ℕ) (backup : Backup) → length memory ≡ 8 * memory_words g
    → registers_given (handed_out (saved_registers g memory backup)) ≡ saved_registers g memory backup
unfolding saved_registers registers_in registers_given handed_out
given_saved g memory backup size = go (has_registers (mark_in g memory))
  where
    some_bytes : (bytes : List ℕ) → length bytes ≡ 64 → registers_given bytes ≡ Some bytes
    some_bytes [] e = absurd (omega arith)
    some_bytes (byte ∷ bytes) e = refl

    go : (has : Bool)
        → registers_given (handed_out (cond has (Some (registers_in g memory backup)) None)) ≡ cond has (Some (registers_in g memory backup)) None
    go true = some_bytes (registers_in g memory backup) (length-words memory 8 (backup_start g backup) (omega (arith, mark_high g backup, size)))
    go false = refl

pub given_back : {g : Geometry} {memory : List ℕ} {x : Backup} {registers : Option (List ℕ)} {table : List ℕ} {picture : Picture}
    → Kept g memory x registers table picture → length memory ≡ 8 * memory_words g → registers_given (handed_out registers) ≡ registers
unfolding head_of head_from
given_back {g} {memory} {x} {registers} {table} k size = go (finished_in g memory) k.reads
  where
    go : (o : Option Backup) → head_from g memory o ≡ record { finished = Some x; registers = registers; table = table } → registers_given (handed_out registers) ≡ registers
    go None e = absurd (none_some x (ap (λ (h : Head). h.finished) e))
    go (Some y) e = subst (λ (z : Option (List ℕ)). registers_given (handed_out z) ≡ z) (ap (λ (h : Head). h.registers) e) (given_saved g memory y size)

-- only the mark 3 says that there are none, and it names A
absent_marked : (g : Geometry) (memory : List ℕ) (backup : Backup) → saved_registers g memory backup ≡ None → finished_in g memory ≡ Some A
unfolding saved_registers has_registers finished_in finished_by
absent_marked g memory backup = go (eqb mark 3) refl
  where
    mark : ℕ
    mark = mark_in g memory

    go : (three : Bool) → eqb mark 3 ≡ three → cond (not three) (Some (registers_in g memory backup)) None ≡ None → finished_by mark ≡ Some A
    go true e q = ap finished_by (eqb-true mark 3 e)
    go false e q = absurd (none_some (registers_in g memory backup) (sym q))

pub absent_is_A : {g : Geometry} {memory : List ℕ} {x : Backup} {table : List ℕ} {picture : Picture} → Kept g memory x None table picture → x ≡ A
unfolding head_of head_from
absent_is_A {g} {memory} {x} {table} k = go (finished_in g memory) refl k.reads
  where
    go : (o : Option Backup) → finished_in g memory ≡ o → head_from g memory o ≡ record { finished = Some x; registers = None; table = table } → x ≡ A
    go None f e = absurd (none_some x (ap (λ (h : Head). h.finished) e))
    go (Some y) f e =
        let same : Some y ≡ Some x = ap (λ (h : Head). h.finished) e in
        let named : Some y ≡ Some A = sym f ∙ absent_marked g memory y (ap (λ (h : Head). h.registers) e) in
        cc

-- ---- stores that no finished backup minds

-- a store in a block where no block is saved, or in the other backup
pub data Loose (g : Geometry) (finished : Backup) (table : List ℕ) (s : Store) : Type 0 where
  in_block : (q : ℕ) → q < g.blocks + g.slots → ((block : ℕ) → block < g.blocks → saved_block g table block ≢ q) → 8 * q ≤ s.place → s.place < 8 * q + 8
      → Loose g finished table s
  in_other : backup_start g (other finished) ≤ s.place → s.place < backup_start g (other finished) + backup_words g → Loose g finished table s

backups_apart : (g : Geometry) (x : Backup) (j : ℕ)
    → backup_start g (other x) ≤ j → j < backup_start g (other x) + backup_words g → backup_start g x ≤ j → j < backup_start g x + backup_words g → ⊥
backups_apart g A j a b c d = omega arith
backups_apart g B j a b c d = omega arith

-- none of them is the mark
pub loose_below : (g : Geometry) (x : Backup) (table : List ℕ) (s : Store) → Loose g x table s → Below (mark_start g) s
loose_below g x table s (in_block q a b c d) = record { under = omega arith }
loose_below g x table s (in_other c d) = record { under = omega (arith, mark_high g (other x)) }

module _ {g : Geometry} {memory : List ℕ} {x : Backup} {registers : Option (List ℕ)} {table : List ℕ} {picture : Picture} (k : Kept g memory x registers table picture) where
  head_is : Head
  head_is = record { finished = Some x; registers = registers; table = table }

  pub loose_free : (s : Store) → Loose g x table s → Protected (scheme g) memory s.place → ⊥
  unfolding scheme head_is
  loose_free s l (reading r) = go l (subst (λ (h : Head). Reads g h s.place) k.reads r)
    where
      go : Loose g x table s → Reads g head_is s.place → ⊥
      go (in_block q a b c d) (the_mark e) = omega arith
      go (in_block q a b c d) (the_backup y e lo hi) = omega (arith, blocks_low g y)
      go (in_other c d) (the_mark e) = omega (arith, mark_high g (other x))
      go (in_other c d) (the_backup y e lo hi) =
          let z : y ≡ x = cc in
          backups_apart g x s.place c d (subst (λ (w : Backup). backup_start g w ≤ s.place) z lo)
          (subst (λ (w : Backup). s.place < backup_start g w + backup_words g) z hi)
  loose_free s l (saving block lt lo hi) =
      let e : (head_of g memory).table ≡ table = ap (λ (h : Head). h.table) k.reads in
      go l (subst (λ (t : List ℕ). 8 * saved_block g t block ≤ s.place) e lo) (subst (λ (t : List ℕ). s.place < 8 * saved_block g t block + 8) e hi)
    where
      go : Loose g x table s → 8 * saved_block g table block ≤ s.place → s.place < 8 * saved_block g table block + 8 → ⊥
      go (in_block q a b c d) lo' hi' = b block lt (omega arith)
      go (in_other c d) lo' hi' = omega (arith, blocks_low g (other x), saved_lt g table block lt (kept_length k))

  -- a list of such stores, stopped after any of them
  pub kept_stays : (stores : List Store) (p : ℕ) → All (Fit (length memory)) stores → All (Loose g x table) stores
      → Kept g (lay (take p stores) memory) x registers table picture
  unfolding scheme block_at Harmless head_is
  kept_stays stores p f l =
      let memory' : List ℕ = lay (take p stores) memory in
      let same : SameImage (scheme g) memory memory' = every_prefix (scheme g) memory stores p f (all_map (λ s h q. absurd (loose_free s h q)) l) in
      let r : head_of g memory' ≡ head_is = same.heads ∙ k.reads in
      let e : (head_of g memory).table ≡ table = ap (λ (h : Head). h.table) k.reads in
      let e' : (head_of g memory').table ≡ table = ap (λ (h : Head). h.table) r in
      record {
        reads = r;
        good = k.good;
        image = λ block lt.
            ap (λ (t : List ℕ). words memory' (8 * saved_block g t block) 8) (sym e')
            ∙ same.blocks block lt
            ∙ ap (λ (t : List ℕ). words memory (8 * saved_block g t block) 8) e
            ∙ k.image block lt;
        given = k.given;
      }

  pub kept_whole : (stores : List Store) → All (Fit (length memory)) stores → All (Loose g x table) stores → Kept g (lay stores memory) x registers table picture
  kept_whole stores f l = subst (λ (z : List Store). Kept g (lay z memory) x registers table picture) (take-length stores) (kept_stays stores (length stores) f l)
