-- The mark, the finished backup as a part of the memory, and what going back to it leaves.
use mathlib.Core.Path.{◌≡◌, sym, ap, ◌∙◌}
use mathlib.Core.Logic.{◌≢◌}
use mathlib.Core.Bool.{Bool, true, false, cond}
use mathlib.Core.List.{List}
use Rattle.std.specs.Prelude.{Option, None, Some}
use Prim.Native.Nat.{ℕ, ◌+◌, ◌*◌, ◌-◌, ◌≤◌}
use native.Mathlib.Omega.{arith}
use native.Mathlib.Nat.{add-zero}
use lib.ListN.{length, take, drop, replicate}
use borrow.Author.Tests.{ne_eqb}
use Rattle.words.specs.Words.{word, words, number, numbers}
use Rattle.words.proofs.Parts.{tail_part, word_part, words_of_part, numbers_of_part}
use Rattle.rules.specs.declared.Geometry.{Geometry}
use Rattle.rules.specs.declared.Backup.{Backup}
use Rattle.rules.specs.declared.Backup.TheVariants.{A, B}
use Rattle.rules.specs.declared.Controller.{Controller}
use Rattle.rules.specs.declared.Number.TheVariants as No
use Rattle.rules.specs.declared.Registers.{Registers}
use Rattle.rules.specs.declared.Registers.TheVariants.{Saved, Absent}
use Rattle.rules.specs.declared.Recovery.{Recovery}
use Rattle.rules.specs.Geometry.{backup_start, backup_words, mark_start, memory_words}
use Rattle.rules.specs.Starts.{finished_by, has_registers, mark_in, finished_in, registers_in, saved_registers, table_in, sound, recorded, registers_of}
use Rattle.backups.specs.Records.{started_of, opened_of, opened_recovery, refused_recovery, Opens}

-- ---- what a mark says

pub marked_1 : (mark : ℕ) → mark ≡ 1 → Some A ≡ finished_by mark
unfolding finished_by
marked_1 mark e = rw e

pub marked_2 : (mark : ℕ) → mark ≡ 2 → Some B ≡ finished_by mark
unfolding finished_by
marked_2 mark e = rw e

pub marked_3 : (mark : ℕ) → mark ≡ 3 → Some A ≡ finished_by mark
unfolding finished_by
marked_3 mark e = rw e

pub marked_else : (mark : ℕ) → mark ≢ 1 → mark ≢ 2 → mark ≢ 3 → None ≡ finished_by mark
unfolding finished_by
marked_else mark a b c = rw (ne_eqb mark 1 a, ne_eqb mark 2 b, ne_eqb mark 3 c)

pub without_registers : (mark : ℕ) (bytes : List ℕ) → mark ≡ 3 → registers_of Absent bytes ≡ cond (has_registers mark) (Some bytes) None
unfolding has_registers
without_registers mark bytes e = rw e

pub with_registers : (mark : ℕ) (bytes : List ℕ) → mark ≢ 3 → registers_of Saved bytes ≡ cond (has_registers mark) (Some bytes) None
unfolding has_registers
with_registers mark bytes ne = rw (ne_eqb mark 3 ne)

-- the mark of a memory names what the test of it finds
pub finished_is : (g : Geometry) (m : List ℕ) {mark : ℕ} (found found' : Option Backup) → mark ≡ mark_in g m → found ≡ finished_by mark → found ≡ found' → finished_in g m ≡ found'
unfolding finished_in
finished_is g m found found' e q y = ap finished_by (sym e) ∙ sym q ∙ y

-- ---- parts of the memory

module _ (m : List ℕ) (a : ℕ) where
  abbrev pub from : List ℕ
  from = take (length m - 8 * a) (drop (8 * a) m)

  pub mark_is : (g : Geometry) (mark : ℕ) → a ≡ mark_start g → mark ≡ number (word from 0) → mark ≡ mark_in g m
  mark_is g mark e q =
      q ∙ ap number (ap (λ (z : List ℕ). word z 0) (tail_part (8 * a) m) ∙ word_part a 0 m) ∙ ap (λ (z : ℕ). number (word m z)) (add-zero a ∙ e)

  module _ (g : Geometry) (backup : Backup) (e : a ≡ backup_start g backup) where
    pub table_in_lem : numbers from 8 g.slots ≡ table_in g m backup
    unfolding table_in
    table_in_lem = ap (λ (z : List ℕ). numbers z 8 g.slots) (tail_part (8 * a) m) ∙ numbers_of_part a g.slots 8 m ∙ ap (λ (z : ℕ). numbers m (z + 8) g.slots) e

    pub registers_in_lem : (registers : Registers) → ((bytes : List ℕ) → registers_of registers bytes ≡ cond (has_registers (mark_in g m)) (Some bytes) None)
        → registers_of registers (words from 0 8) ≡ saved_registers g m backup
    unfolding saved_registers registers_in
    registers_in_lem registers x =
        ap (registers_of registers) (ap (λ (z : List ℕ). words z 0 8) (tail_part (8 * a) m) ∙ words_of_part a 8 0 m ∙ ap (λ (z : ℕ). words m z 8) (add-zero a ∙ e))
        ∙ x (words m (backup_start g backup) 8)

-- a backup is inside the memory
pub backup_inside : (g : Geometry) (m : List ℕ) {a : ℕ} (backup : Backup) → length m ≡ 8 * memory_words g → a ≡ backup_start g backup → 8 * a + 8 * backup_words g ≤ length m
backup_inside g m A l e = omega arith
backup_inside g m B l e = omega arith

-- ---- what going back to a backup leaves

-- the record with the registers, and with zeros where there are none
pub opened_saved : (g : Geometry) (backup : Backup) (registers : Registers) (bytes bytes' : List ℕ) → registers ≡ Saved → bytes ≡ bytes'
    → started_of g backup bytes ≡ opened_of g backup (registers_of registers bytes')
unfolding recorded
opened_saved g backup registers bytes bytes' e q = rw (e, q)

pub opened_absent : (g : Geometry) (backup : Backup) (registers : Registers) (bytes : List ℕ) → registers ≡ Absent
    → started_of g backup (replicate 64 0) ≡ opened_of g backup (registers_of registers bytes)
unfolding recorded
opened_absent g backup registers bytes e = rw e

module _ (g : Geometry) (backup : Backup) (registers : Registers) (k : Controller) (part t : List ℕ) {r : Recovery} {s : Bool} (e : s ≡ sound g (numbers part 8 g.slots)) where
  pub opens_not : s ≡ false → r ≡ refused_recovery No.Backup k → Opens g backup registers k part t t r
  opens_not f q =
      let h : sound g (numbers part 8 g.slots) ≡ false = sym e ∙ f in
      record { table_is = rw h; recovery_is = rw h q }

  pub opens_sound : {t' : List ℕ} → s ≡ true → t' ≡ numbers part 8 g.slots → r ≡ opened_recovery g backup registers part → Opens g backup registers k part t t' r
  opens_sound f y q =
      let h : sound g (numbers part 8 g.slots) ≡ true = sym e ∙ f in
      record { table_is = rw h y; recovery_is = rw h q }
