-- A door's contract allows one outcome for one input (document 01, What every contract settles).
use mathlib.Core.Path.{◌≡◌, sym, ap, ◌∙◌}
use Prim.Native.Nat.{ℕ}
use Rattle.door.specs.declared.RostimelyAnswer.{RostimelyAnswer}
use Rattle.door.specs.declared.RostimelyRecovery.{RostimelyRecovery}
use Rattle.door.specs.Doors.{Lent, Left, lent_of}
use Rattle.door.specs.Answers.{left_of}
use Rattle.door.specs.Promises.{OneLeft, OneLoad, OneRecovery}

answer_fields : {n n' w w' : ℕ} → n ≡ n' → w ≡ w' → ◌≡◌ {A = RostimelyAnswer} (record { number = n; words = w }) (record { number = n'; words = w' })
answer_fields n w = cc

same_answer : {a a' : RostimelyAnswer} → a.number ≡ a'.number → a.words ≡ a'.words → a ≡ a'
same_answer n w = answer_fields n w

recovery_fields : {n n' w w' f f' : ℕ} → n ≡ n' → w ≡ w' → f ≡ f'
    → ◌≡◌ {A = RostimelyRecovery} (record { number = n; words = w; registers = f }) (record { number = n'; words = w'; registers = f' })
recovery_fields n w f = cc

same_recovery : {r r' : RostimelyRecovery} → r.number ≡ r'.number → r.words ≡ r'.words → r.registers ≡ r'.registers → r ≡ r'
same_recovery n w f = recovery_fields n w f

pub one_left : OneLeft
unfolding OneLeft
one_left left a a' memory memory' cache cache' table table' record-bytes record-bytes' e e' =
    let both : left_of a memory cache table record-bytes ≡ left_of a' memory' cache' table' record-bytes' = sym e ∙ e' in
    record {
      answers = same_answer (ap (λ (z : Left). z.number) both) (ap (λ (z : Left). z.words) both);
      bytes = ap (λ (z : Left). z.lent) both;
    }

pub one_load : OneLoad
unfolding OneLoad
one_load left into into' into'' a a' l l' = (same_answer (l.number ∙ sym l'.number) (l.words ∙ sym l'.words), l.bytes ∙ sym l'.bytes)

pub one_recovery : OneRecovery
unfolding OneRecovery
one_recovery left memory cache table table' record-bytes record-bytes' r r' l l' =
    let both : lent_of memory cache table record-bytes ≡ lent_of memory cache table' record-bytes' = l.lent ∙ sym l'.lent in
    (same_recovery (l.number ∙ sym l'.number) (l.words ∙ sym l'.words) (l.registers ∙ sym l'.registers), ap (λ (z : Lent). z.table_bytes) both, ap (λ (z : Lent). z.record_bytes) both)
