-- A recovery: what its answer says of the call's outcome.
use mathlib.Core.Path.{◌≡◌, refl, sym, ap, ◌∙◌, subst}
use mathlib.Core.Logic.{◌≢◌}
use mathlib.Core.Bool.{Bool, true, false, not, cond}
use mathlib.Core.List.{List, [], ◌∷◌}
use Rattle.std.specs.Prelude.{Option, None, Some}
use Prim.Native.Nat.{ℕ, ◌*◌}
use native.Mathlib.Nat.{suc-ne-zero}
use lib.ListN.{length}
use Rattle.words.specs.Words.{words, lay, numbers}
use Rattle.words.proofs.All.{All, done, also}
use Rattle.rules.specs.declared.Geometry.{Geometry}
use Rattle.rules.specs.declared.Backup.{Backup}
use Rattle.rules.specs.declared.Controller.{Controller}
use Rattle.rules.specs.declared.Number.{Number}
use Rattle.rules.specs.declared.Number.TheVariants as No
use Rattle.rules.specs.declared.Registers.{Registers}
use Rattle.rules.specs.declared.Registers.TheVariants.{Saved, Absent}
use Rattle.rules.specs.declared.Recovery.{Recovery}
use Rattle.rules.specs.Geometry.{backup_start, memory_words}
use Rattle.rules.specs.Board.{Board, Volatile, board_of}
use Rattle.rules.specs.Numbers.{number_of, Check, ◌⇒◌, first_of, outside, inexact}
use Rattle.rules.specs.Power.{guard, Outcome, whole, settle, outcome_of}
use Rattle.rules.specs.Starts.{format_number, has_registers, mark_in, finished_in, saved_registers, table_in, sound, no_checkpoint, unsound, recover_number, handed_out, recorded, recover_from, recover_plan, registers_given, registers_of, Recovered}
use Rattle.rules.specs.Calls.{plan, call, recover}
use Rattle.rules.proofs.Saving.{given_saved}
use Rattle.rules.proofs.Answers.{carry_nothing}
use Rattle.checks.specs.Ready.{Ready}
use Rattle.checks.specs.Answers.{answer_of, refused_of}
use Rattle.checks.proofs.Passed.{hit, miss, none_applies, stopped, Refuses, refuses, go_on, sizes_checks_lem}
use Rattle.checks.proofs.Settled.{refused_is, guard_on}
use Rattle.backups.specs.Records.{opened_of, opened_recovery, refused_recovery, Opens}
use Rattle.backups.proofs.Opening.{from, table_in_lem, registers_in_lem}

-- ---- what a recovery says of an outcome

-- a refusal hands out nothing, and says that there are no registers
pub refused_says : {m c t : List ℕ} {k : Controller} {outcome : Outcome} {r : Recovery} (refusal : Number)
    → r ≡ refused_recovery refusal k → outcome ≡ outcome_of (refused_of refusal k) m c t → Recovered outcome r m c t
unfolding registers_given
refused_says {m} {c} {t} {k} {outcome} refusal q o =
    subst (λ (z : Recovery). Recovered outcome z m c t) (sym q)
    (subst (λ (z : Outcome). Recovered z (refused_recovery refusal k) m c t) (sym o) (record { number = refl; words = refl; registers = refl; board = refl }))

-- what the record has, the answer says
says_recorded : (registers : Registers) (bytes : List ℕ) → registers_of registers (recorded (registers_of registers bytes)) ≡ registers_of registers bytes
unfolding recorded
says_recorded Saved bytes = refl
says_recorded Absent bytes = refl

-- ---- the call

module _ (m c t : List ℕ) (k : Controller) (g : Geometry) (n : Number) (e : n ≡ format_number (board_of m c t k) g) where
  abbrev board : Board
  board = board_of m c t k

  abbrev first : List Check
  first = (outside g ⇒ No.Geometry) ∷ (inexact g board ⇒ No.Buffer) ∷ []

  abbrev later : Option Backup → List Check
  later f = (no_checkpoint f ⇒ No.NoCheckpoint) ∷ (unsound g m f ⇒ No.Backup) ∷ []

  stops : (f : Option Backup) → number_of n ≢ 0 → n ≡ recover_number board g f
  unfolding recover_number
  stops f ne = stopped first (later f) (e ∙ sym (sizes_checks_lem board g)) ne

  call_is : (p : ℕ) (f : Option Backup) → finished_in g m ≡ f → call p board (recover g) ≡ settle p board (guard (recover_number board g f) (recover_from board g f))
  unfolding call plan recover_plan
  call_is p f q = ap (λ (z : Option Backup). settle p board (guard (recover_number board g z) (recover_from board g z))) q

  pub recover_refused : (p : ℕ) {r : Recovery} → number_of n ≢ 0 → r ≡ refused_recovery n k → Recovered (call p board (recover g)) r m c t
  recover_refused p ne q = refused_says n q (call_is p (finished_in g m) refl ∙ refused_is p m c t k _ n _ _ (stops (finished_in g m) ne) ne refl)

  module _ (z : number_of n ≡ 0) where
    refuse_first : All Refuses first
    unfolding number_of
    refuse_first = also (refuses (suc-ne-zero 0)) (also (refuses (suc-ne-zero 1)) done)

    goes : (f : Option Backup) {r : Number} → r ≡ first_of (later f) → r ≡ recover_number board g f
    unfolding recover_number
    goes f q = q ∙ sym (go_on {xs = first} (later f) refuse_first (ap number_of (sizes_checks_lem board g ∙ sym e) ∙ z))

    pub no_checkpoint_lem : (p : ℕ) {r : Recovery} → finished_in g m ≡ None → r ≡ refused_recovery No.NoCheckpoint k → Recovered (call p board (recover g)) r m c t
    unfolding no_checkpoint number_of
    no_checkpoint_lem p f q =
        refused_says No.NoCheckpoint q (call_is p None f ∙ refused_is p m c t k _ No.NoCheckpoint _ _ (goes None (hit _ refl)) (suc-ne-zero 9) refl)

    module _ (p : ℕ) (backup : Backup) (f : finished_in g m ≡ Some backup) where
      not_sound : {r : Recovery} → sound g (table_in g m backup) ≡ false → r ≡ refused_recovery No.Backup k → Recovered (call p board (recover g)) r m c t
      unfolding no_checkpoint unsound number_of
      not_sound s q =
          refused_says No.Backup q
          (call_is p (Some backup) f
          ∙ refused_is p m c t k _ No.Backup _ _ (goes (Some backup) (miss No.NoCheckpoint _ refl (hit _ (ap not s)))) (suc-ne-zero 10) refl)

      after : Volatile
      after = record { cache = c; table = table_in g m backup; controller = opened_of g backup (saved_registers g m backup) }

      goes_back : sound g (table_in g m backup) ≡ true → call p board (recover g) ≡ whole board [] after (handed_out (saved_registers g m backup))
      unfolding no_checkpoint unsound number_of recover_from after
      goes_back s =
          call_is p (Some backup) f
          ∙ guard_on p board (recover_from board g (Some backup)) No.Done _ (goes (Some backup) (miss No.NoCheckpoint _ refl (miss No.Backup _ (ap not s) none_applies))) refl
          ∙ carry_nothing p board _ _

      is_sound : (registers : Registers) (bytes : List ℕ) → registers_of registers bytes ≡ saved_registers g m backup → length m ≡ 8 * memory_words g → sound g (table_in g m backup) ≡ true
          → Recovered (call p board (recover g)) (record { answer = answer_of No.Done 0 (opened_of g backup (registers_of registers bytes)); registers = registers }) m c (table_in g m backup)
      unfolding after lay
      is_sound registers bytes x size s =
          subst (λ (o : Outcome). Recovered o (record { answer = answer_of No.Done 0 (opened_of g backup (registers_of registers bytes)); registers = registers }) m c (table_in g m backup)) (sym (goes_back s))
          (record {
            number = refl;
            words = refl;
            registers = says_recorded registers bytes ∙ x ∙ sym (given_saved g m backup size);
            board = ap (λ (z : Option (List ℕ)). board_of m c (table_in g m backup) (opened_of g backup z)) x;
          })

    pub recovered : (p : ℕ) (backup : Backup) (a : ℕ) (registers : Registers) {t' : List ℕ} {r : Recovery} → Ready g m c t → finished_in g m ≡ Some backup → a ≡ backup_start g backup
        → ((bytes : List ℕ) → registers_of registers bytes ≡ cond (has_registers (mark_in g m)) (Some bytes) None)
        → Opens g backup registers k (from m a) t t' r → Recovered (call p board (recover g)) r m c t'
    recovered p backup a registers {t'} {r} l f y x o = go (sound g (table_in g m backup)) refl
      where
        table : numbers (from m a) 8 g.slots ≡ table_in g m backup
        table = table_in_lem m a g backup y

        at_part : {s : Bool} → sound g (table_in g m backup) ≡ s → sound g (numbers (from m a) 8 g.slots) ≡ s
        at_part s = ap (sound g) table ∙ s

        go : (s : Bool) → sound g (table_in g m backup) ≡ s → Recovered (call p board (recover g)) r m c t'
        go true s =
            let q : r ≡ opened_recovery g backup registers (from m a) = rw (at_part s) at o.recovery_is in
            let w : t' ≡ numbers (from m a) 8 g.slots = rw (at_part s) at o.table_is in
            subst (λ (z : Recovery). Recovered (call p board (recover g)) z m c t') (sym q)
            (subst (Recovered (call p board (recover g)) (opened_recovery g backup registers (from m a)) m c) (sym (w ∙ table))
            (is_sound p backup f registers (words (from m a) 0 8) (registers_in_lem m a g backup y registers x) l.memory s))
        go false s =
            let q : r ≡ refused_recovery No.Backup k = rw (at_part s) at o.recovery_is in
            let w : t' ≡ t = rw (at_part s) at o.table_is in
            subst (Recovered (call p board (recover g)) r m c) (sym w) (not_sound p backup f s q)
