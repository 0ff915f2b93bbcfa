-- Laws that pin the tables: the parts of the memory, lookup, the free word, the mark's place, what is saved.
use mathlib.Core.Path.{◌≡◌, refl, sym, ap, ◌∙◌, subst}
use mathlib.Core.Logic.{◌≢◌}
use mathlib.Core.List.{List, [], ◌∷◌, ◌++◌}
use Prim.Native.Nat.{ℕ, ◌+◌, ◌*◌, ◌≤◌, ◌<◌}
use native.Mathlib.Omega.{arith}
use native.Mathlib.Nat.{le_refl}
use lib.ListN.{length, get_or}
use Rattle.std.specs.Prelude.{None}
use Rattle.words.specs.Words.{numbers_to}
use Rattle.words.proofs.All.{All, done, also, all_map}
use Rattle.words.proofs.Rising.{Below, in_below}
use Rattle.rules.specs.declared.Geometry.{Geometry}
use Rattle.rules.specs.declared.Backup.{Backup}
use Rattle.rules.specs.declared.Backup.TheVariants.{A, B}
use Rattle.rules.specs.declared.State.{State}
use Rattle.rules.specs.declared.State.TheVariants.{Clean, Dirty, Hidden, PreHidden, PreDirty}
use Rattle.rules.specs.Geometry.{home_start, home_words, checkpoint_start, checkpoint_words, backup_start, backup_words, mark_start, memory_words, home_block, checkpoint_block}
use Rattle.rules.specs.TableWords.{entry_at, word_of, says, lookup, entry_or, changed}
use Rattle.rules.specs.Checkpoints.{begun, saved, mark_of, checkpoint_list}
use Rattle.rules.proofs.Clashes.{free_names}
use Rattle.rules.proofs.TableWordLaws.{says_word, says_zero, names_word}
use Rattle.rules.proofs.Finding.{Finds, finds, found_at, found_lowest, not_found}
use Rattle.rules.proofs.Changing.{changed_zero, changed_entry}
use Rattle.rules.proofs.Saving.{mark_high}
use Rattle.rules.proofs.KeepsStep.{front, front_run}

-- ---- the parts of the memory

pub record Part : Type 0 where
  pub start : ℕ
  pub words : ℕ

-- each part starts where the one before it ends
pub data Consecutive : ℕ → List Part → ℕ → Type 0 where
  no_part : {end : ℕ} → Consecutive end [] end
  then : {start words end : ℕ} {parts : List Part} → Consecutive (start + words) parts end → Consecutive start (record { start = start; words = words } ∷ parts) end

-- HOME, CHECKPOINT, backup A, backup B and the mark, by their starts and sizes
abbrev pub parts : Geometry → List Part
parts g =
    record { start = home_start g; words = home_words g }
    ∷ record { start = checkpoint_start g; words = checkpoint_words g }
    ∷ record { start = backup_start g A; words = backup_words g }
    ∷ record { start = backup_start g B; words = backup_words g }
    ∷ record { start = mark_start g; words = 1 }
    ∷ []

-- they follow one another and fill exactly 8N + 10B + 17 words
pub parts_fill : (g : Geometry) → Consecutive 0 (parts g) (8 * g.blocks + 10 * g.slots + 17)
parts_fill g = subst (Consecutive 0 (parts g)) (let e : mark_start g + 1 ≡ 8 * g.blocks + 10 * g.slots + 17 = omega arith in e) (then (then (then (then (then no_part)))))

-- a later part starts where an earlier one ends, or after it: no word is in two parts
pub parts_apart : {start end : ℕ} {ps : List Part} → Consecutive start ps end → All (λ p. (start ≤ p.start) × (p.start + p.words ≤ end)) ps × (start ≤ end)
parts_apart {start} no_part = (done, le_refl start)
parts_apart {start} {end} (then {words = n} c) =
    let r = parts_apart c in
    (also {x = record { start = start; words = n }} (le_refl start, omega (arith, r.1)) (all_map (λ p h. (omega (arith, h.0), h.1)) r.0), omega (arith, r.1))

-- a block of HOME or CHECKPOINT starts at the part's start and 8 words for each block before it
pub block_starts : (g : Geometry) (block slot : ℕ) → (8 * home_block g block ≡ home_start g + 8 * block) × (8 * checkpoint_block g slot ≡ checkpoint_start g + 8 * slot)
block_starts g block slot = (omega arith, omega arith)

-- ---- lookup takes the lowest slot

-- the slot that lookup gives holds the entry's word, and no slot below it names the block
pub lookup_lowest : (block : ℕ) (table : List ℕ) (slot : ℕ) (state : State) → lookup block table ≡ entry_at slot state
    → (get_or table slot 0 ≡ word_of block state) × ((i : ℕ) → i < slot → (other : State) → get_or table i 0 ≢ word_of block other)
lookup_lowest block table slot state e =
    let f : Finds block table (entry_at slot state) = subst (Finds block table) e (finds block table) in
    (names_word (get_or table slot 0) block state (found_at f), λ i h other q. (found_lowest f i h).never other (ap says q ∙ says_word block other))

-- where it gives nothing, no slot names the block
pub lookup_nothing : (block : ℕ) (table : List ℕ) → lookup block table ≡ None → (slot : ℕ) (state : State) → get_or table slot 0 ≢ word_of block state
lookup_nothing block table e slot state q = (not_found slot (subst (Finds block table) e (finds block table))).never state (ap says q ∙ says_word block state)

-- the word 0 names no block, block 0 least of all
pub zero_names_nothing : (block : ℕ) (state : State) → word_of block state ≢ 0
zero_names_nothing block state e = free_names block state (sym says_zero ∙ ap says (sym e) ∙ says_word block state)

-- block 0 clean is the word 1
pub block_zero_clean : word_of 0 Clean ≡ 1
unfolding word_of
block_zero_clean = refl

-- ---- what is saved: 256 x block + 1 for clean and pre-hidden, else 0

pub saved_words : (block : ℕ) → (changed saved (word_of block Clean) ≡ 256 * block + 1) × (changed saved (word_of block PreHidden) ≡ 256 * block + 1)
unfolding saved entry_or word_of
saved_words block =
    (changed_entry saved (word_of block Clean) block Clean (says_word block Clean), changed_entry saved (word_of block PreHidden) block PreHidden (says_word block PreHidden))

pub unsaved_words : (block : ℕ)
    → (changed saved (word_of block Dirty) ≡ 0) × (changed saved (word_of block Hidden) ≡ 0) × (changed saved (word_of block PreDirty) ≡ 0) × (changed saved 0 ≡ 0)
unfolding saved entry_or
unsaved_words block = (
  changed_entry saved (word_of block Dirty) block Dirty (says_word block Dirty),
  changed_entry saved (word_of block Hidden) block Hidden (says_word block Hidden),
  changed_entry saved (word_of block PreDirty) block PreDirty (says_word block PreDirty),
  changed_zero saved,
)

-- ---- what begin leaves: pre-dirty and dirty become clean, pre-hidden and hidden become free

pub begun_clean : (block : ℕ)
    → (changed begun (256 * block + 1) ≡ 256 * block + 1) × (changed begun (256 * block + 2) ≡ 256 * block + 1) × (changed begun (256 * block + 5) ≡ 256 * block + 1)
unfolding begun entry_or word_of
begun_clean block = (
  changed_entry begun (word_of block Clean) block Clean (says_word block Clean),
  changed_entry begun (word_of block Dirty) block Dirty (says_word block Dirty),
  changed_entry begun (word_of block PreDirty) block PreDirty (says_word block PreDirty),
)

pub begun_free : (block : ℕ) → (changed begun (256 * block + 3) ≡ 0) × (changed begun (256 * block + 4) ≡ 0) × (changed begun 0 ≡ 0)
unfolding begun entry_or word_of
begun_free block = (
  changed_entry begun (word_of block Hidden) block Hidden (says_word block Hidden),
  changed_entry begun (word_of block PreHidden) block PreHidden (says_word block PreHidden),
  changed_zero begun,
)

-- ---- the mark is the last store of a checkpoint's list, and no other store of it is to the mark

pub mark_last : (g : Geometry) (backup : Backup) (registers table : List ℕ) (eight : length registers ≡ 64) (exact : length table ≡ g.slots)
    → (checkpoint_list g backup registers table ≡ front g backup registers table eight exact ++ numbers_to (mark_start g) (mark_of backup ∷ []))
    × All (Below (mark_start g)) (front g backup registers table eight exact)
unfolding checkpoint_list front
mark_last g backup registers table eight exact =
    (refl, in_below (mark_high g backup) (front_run g backup registers table eight exact (8 * memory_words g) refl).inside)
