-- An accepted format, and an accepted recovery of any memory, set up the invariant.
use mathlib.Core.Path.{◌≡◌, refl, sym, ap, ◌∙◌, subst}
use mathlib.Core.Bool.{true, false, not}
use mathlib.Core.List.{List, [], ◌∷◌}
use Rattle.std.specs.Prelude.{Option, None, Some}
use Prim.Native.Nat.{ℕ}
use native.Mathlib.Nat.{suc-ne-zero}
use borrow.Author.Tests.{not-false}
use Rattle.words.specs.Words.{lay}
use Rattle.rules.specs.declared.Geometry.{Geometry}
use Rattle.rules.specs.declared.Backup.{Backup}
use Rattle.rules.specs.declared.Number.TheVariants as No
use Rattle.rules.specs.Board.{Board, sizes, cache_of}
use Rattle.rules.specs.Numbers.{number_of, ◌⇒◌, first_of, outside}
use Rattle.rules.specs.Power.{carry, Outcome, whole, settle}
use Rattle.rules.specs.Starts.{format_list, format_number, format_plan, finished_in, saved_registers, handed_out, recorded, table_in, sound, no_checkpoint, unsound, recover_number, recover_from, recover_plan}
use Rattle.rules.specs.Calls.{format, recover, plan, call}
use Rattle.rules.specs.PlainMachine.{Picture, Plain, formatted, saved_in, opened_from, opened}
use Rattle.rules.proofs.Saving.{head_from, head_of, Kept}
use Rattle.rules.proofs.Checked.{passed, sizes_passed, Lent}
use Rattle.rules.proofs.Invariant.{Inv}
use Rattle.rules.proofs.KeepsRest.{recovered, recover_carries, recovered_inv, made_length, made_kept}
use Rattle.rules.proofs.Answers.{guard_accepted, carry_accepted, carry_nothing}

-- an accepted recovery with a finished backup: what it answers, and what it leaves
pub recover_is : (g : Geometry) (p : ℕ) (board : Board) {x : Backup} {registers : Option (List ℕ)} {table : List ℕ} {picture : Picture}
    → outside g ≡ false → Lent g board → Kept g board.memory x registers table picture
    → call p board (recover g) ≡ whole board [] (recovered g board.memory (cache_of board) x registers table).volatile (handed_out registers)
unfolding call plan
recover_is g p board f l k = ap (settle p board) (recover_carries g board k f l) ∙ carry_nothing p board _ _

-- an accepted format
pub format_inv : (g : Geometry) (fill p : ℕ) (board : Board) → number_of (call p board (format g fill)).number ≡ 0
    → Inv (call p board (format g fill)).board (formatted fill) × (sizes (call p board (format g fill)).board ≡ g)
unfolding call plan format_plan format_number formatted recorded
format_inv g fill p board e =
    let a = guard_accepted p board (format_number board g) (carry (format_list g fill) _ []) e in
    let q = sizes_passed board g [] a.0 in
    let o = a.1 ∙ carry_accepted p board (format_list g fill) _ [] (ap (λ (z : Outcome). number_of z.number) (sym a.1) ∙ e) in
    subst (λ (z : Outcome). Inv z.board (formatted fill) × (sizes z.board ≡ g)) (sym o) (
      recovered_inv g (record { memory = lay (format_list g fill) board.memory; volatile = board.volatile }) (formatted fill) q.0
          (record { memory = made_length g fill board.memory q.1.memory; cache = q.1.cache; table = q.1.table }) (made_kept g fill board.memory q.1.memory)
          (λ block lt. refl),
      refl,
    )

-- an accepted recovery of any memory at all: every block comes from where the finished backup saves it
pub opened_inv : (g : Geometry) (p : ℕ) (board : Board) → number_of (call p board (recover g)).number ≡ 0
    → (plain : Plain) → opened g (call p board (recover g)).board.memory ≡ Some plain → Inv (call p board (recover g)).board plain
unfolding call plan recover_plan recover_number recover_from no_checkpoint unsound head_of head_from opened opened_from saved_in number_of lay
opened_inv g p board e plain o =
    let finished = finished_in g board.memory in
    let a = guard_accepted p board (recover_number board g finished) (recover_from board g finished) e in
    let q = sizes_passed board g ((no_checkpoint finished ⇒ No.NoCheckpoint) ∷ (unsound g board.memory finished ⇒ No.Backup) ∷ []) a.0 in
    subst (λ (z : Outcome). Inv z.board plain) (sym a.1)
    (from (finished_in g board.memory) refl q.0 q.1 q.2 (ap (λ (z : Outcome). opened_from g z.board.memory (finished_in g z.board.memory)) (sym a.1) ∙ o))
  where
    from : (x : Option Backup) → finished_in g board.memory ≡ x → outside g ≡ false → Lent g board
        → number_of (first_of ((no_checkpoint x ⇒ No.NoCheckpoint) ∷ (unsound g board.memory x ⇒ No.Backup) ∷ [])) ≡ 0
        → opened_from g (settle p board (recover_from board g x)).board.memory (finished_in g (settle p board (recover_from board g x)).board.memory) ≡ Some plain
        → Inv (settle p board (recover_from board g x)).board plain
    from None f fine lent h o = absurd (suc-ne-zero 9 h)
    from (Some x) f fine lent h o =
        let table : List ℕ = table_in g board.memory x in
        let good : sound g table ≡ true = not-false (sound g table) (passed (not (sound g table)) No.Backup [] (suc-ne-zero 10) h).0 in
        let after : Board = recovered g board.memory (cache_of board) x (saved_registers g board.memory x) table in
        let found : Plain = record { live = (saved_in g board.memory x).blocks; kept = saved_in g board.memory x; on_its_way = None } in
        let is = carry_nothing p board after.volatile (handed_out (saved_registers g board.memory x)) in
        let same : Some found ≡ Some plain =
        ap (opened_from g board.memory) (sym f) ∙ ap (λ (z : Outcome). opened_from g z.board.memory (finished_in g z.board.memory)) (sym is) ∙ o
        in
        let q : found ≡ plain = cc in
        subst (λ (z : Outcome). Inv z.board plain) (sym is)
        (subst (Inv after) q
        (recovered_inv g board found fine lent
        (record { reads = ap (head_from g board.memory) f; good = good; image = λ block lt. refl; given = refl }) (λ block lt. refl)))
