-- A format: its list laid run by run, and the call's outcome.
use mathlib.Core.Path.{◌≡◌, refl, sym, ap, ◌∙◌, subst}
use mathlib.Core.Logic.{◌≢◌}
use mathlib.Core.List.{List, [], ◌∷◌, ◌++◌, append-nil}
use Prim.Native.Nat.{ℕ, zero, suc, ◌+◌, ◌*◌, ◌-◌, ◌≤◌, ◌<◌}
use native.Mathlib.Omega.{arith}
use native.Mathlib.Nat.{add-zero, le_refl}
use lib.ListN.{length, take, drop, set, replicate, length-append, length-replicate}
use lib.Seq.{drop-length}
use Rattle.words.specs.Words.{Store, bytes_to, fill_to, number_bytes, numbers_to, Lays}
use Rattle.words.proofs.Makers.{bytes_to_laid, fill_to_laid, numbers_to_laid, length-number_bytes}
use Rattle.words.proofs.Parts.{shifted_bytes_to, lays_part}
use Rattle.words.proofs.Laying.{lays_then}
use Rattle.rules.specs.declared.Geometry.{Geometry}
use Rattle.rules.specs.declared.Backup.TheVariants.{A}
use Rattle.rules.specs.declared.Controller.{Controller}
use Rattle.rules.specs.declared.Number.{Number}
use Rattle.rules.specs.declared.Number.TheVariants as No
use Rattle.rules.specs.declared.Answer.{Answer}
use Rattle.rules.specs.Geometry.{home_start, home_words, backup_start, backup_words, mark_start}
use Rattle.rules.specs.Board.{board_of}
use Rattle.rules.specs.Numbers.{number_of}
use Rattle.rules.specs.Power.{carry, settle, outcome_of}
use Rattle.rules.specs.Starts.{format_list, format_number, formatted_side, format_plan}
use Rattle.rules.specs.Calls.{plan, call, format}
use Rattle.checks.specs.Answers.{answer_of, refused_of}
use Rattle.checks.proofs.Settled.{refused_is, guard_on, cut_sized, whole_is}
use Rattle.backups.specs.Records.{started_of}
use Rattle.starts.specs.Records.{cut_short_of}

-- ---- a run laid in the part that starts at its place

-- the memory, where the part from `start` on is left as part'
abbrev back : List ℕ → ℕ → List ℕ → List ℕ
back memory start part' = take start memory ++ (part' ++ drop (length memory - start) (drop start memory))

module _ {p : ℕ} (memory : List ℕ) (start place : ℕ) {part' : List ℕ} {r : ℕ} (s : start ≡ 8 * place) where
  run_in_part : (n : ℕ) (bytes : List ℕ) → 8 * n ≤ length bytes → start + 8 * n ≤ length memory
      → Lays p (bytes_to 0 n bytes) (take (length memory - start) (drop start memory)) part' r → Lays p (bytes_to place n bytes) memory (back memory start part') r
  run_in_part n bytes e h l =
      subst (λ (stores : List Store). Lays p stores memory (back memory start part') r)
      (shifted_bytes_to place n 0 bytes ∙ ap (λ (z : ℕ). bytes_to z n bytes) (add-zero place))
      (lays_part memory start place (length memory - start) s (omega arith) (bytes_to_laid n 0 bytes (length memory - start) e (omega arith)).fits l)

  pub mark_in_part : (x : ℕ) → start + 8 ≤ length memory
      → Lays p (numbers_to 0 (x ∷ [])) (take (length memory - start) (drop start memory)) part' r → Lays p (numbers_to place (x ∷ [])) memory (back memory start part') r
  unfolding numbers_to
  mark_in_part x h l = run_in_part 1 (number_bytes (x ∷ [])) (omega (arith, length-number_bytes (x ∷ []))) (omega arith) l

  pub fill_in_part : (n fill : ℕ) → start + 8 * n ≤ length memory
      → Lays p (fill_to 0 n fill) (take (length memory - start) (drop start memory)) part' r → Lays p (fill_to place n fill) memory (back memory start part') r
  unfolding fill_to
  fill_in_part n fill h l = run_in_part n (replicate (8 * n) fill) (omega (arith, length-replicate (8 * n) fill)) h l

-- ---- lengths

length_mark : (place x : ℕ) → length (numbers_to place (x ∷ [])) ≡ 1
length_mark place x = (numbers_to_laid (x ∷ []) place (8 * (place + 1)) (le_refl (8 * (place + 1)))).count

length_fill : (place n fill : ℕ) → length (fill_to place n fill) ≡ n
length_fill place n fill = (fill_to_laid n place fill (8 * (place + n)) (le_refl (8 * (place + n)))).count

pub mark_words : {p : ℕ} (place x : ℕ) {r : ℕ} {m m' : List ℕ} → Lays p (numbers_to place (x ∷ [])) m m' r → r ≡ 1
mark_words place x l = l.words ∙ length_mark place x

pub fill_words : {p : ℕ} (place n fill : ℕ) {r : ℕ} {m m' : List ℕ} → Lays p (fill_to place n fill) m m' r → r ≡ n
fill_words place n fill l = l.words ∙ length_fill place n fill

pub format_length : (g : Geometry) (fill r : ℕ) → r ≡ home_words g + backup_words g + 2 → r ≡ length (format_list g fill)
unfolding format_list
format_length g fill r e =
    simp (length-append, length_mark (mark_start g) 0, length_fill (home_start g) (home_words g) fill, length_fill (backup_start g A) (backup_words g) 0)
    (omega arith)

-- ---- four runs, one after another under one allowance

module _ (g : Geometry) (fill : ℕ) {p p1 p2 p3 home homes back backs r1 r2 r3 r4 : ℕ} {m m1 m2 m3 m4 : List ℕ} where
  pub format_lays : home ≡ home_start g → homes ≡ home_words g → back ≡ backup_start g A → backs ≡ backup_words g
      → Lays p (numbers_to (mark_start g) (0 ∷ [])) m m1 r1 → p1 ≡ p - r1
      → Lays p1 (fill_to home homes fill) m1 m2 r2 → p2 ≡ p1 - r2
      → Lays p2 (fill_to back backs 0) m2 m3 r3 → p3 ≡ p2 - r3
      → Lays p3 (numbers_to (mark_start g) (3 ∷ [])) m3 m4 r4
      → Lays p (format_list g fill) m m4 (r1 + (r2 + (r3 + r4)))
  unfolding format_list
  format_lays a b c d l1 q1 l2 q2 l3 q3 l4 =
      let run2 : Lays p1 (fill_to (home_start g) (home_words g) fill) m1 m2 r2 = rw (a, b) at l2 in
      let run3 : Lays p2 (fill_to (backup_start g A) (backup_words g) 0) m2 m3 r3 = rw (c, d) at l3 in
      let from3 = lays_then run3 (rw q3 at l4) in
      let from2 = lays_then run2 (rw q2 at from3) in
      lays_then l1 (rw q1 at from2)

-- ---- the table cleared

pub clear_turn : (t : List ℕ) (i : ℕ) → i < length t → set (replicate i 0 ++ drop i t) i 0 ≡ replicate (suc i) 0 ++ drop (suc i) t
clear_turn [] i h = absurd (omega arith)
clear_turn (x ∷ xs) zero h = refl
clear_turn (x ∷ xs) (suc i) h = ap (λ (z : List ℕ). 0 ∷ z) (clear_turn xs i (omega arith))

pub cleared : (t : List ℕ) (i : ℕ) → i ≡ length t → replicate i 0 ++ drop i t ≡ replicate (length t) 0
cleared t i e = rw (e, drop-length t) (append-nil (replicate (length t) 0))

-- ---- the call

-- how a format ends whose list has so many words: the answer, and the table after it
pub data FormatEnds (p words : ℕ) (controller : Controller) (g : Geometry) (table : List ℕ) (answer : Answer) (table' : List ℕ) : Type 0 where
  cut : p < words → answer ≡ answer_of No.Cut p (cut_short_of controller g) → table' ≡ table → FormatEnds p words controller g table answer table'
  done :
      words ≤ p → answer ≡ answer_of No.Done words (started_of g A (replicate 64 0)) → table' ≡ replicate (length table) 0
      → FormatEnds p words controller g table answer table'

-- a format of any list that was laid and counted, its checks passed
pub format_settles : (p : ℕ) (m c t : List ℕ) (k : Controller) (g : Geometry) (stores : List Store) {m' t' : List ℕ} {r words : ℕ} {answer : Answer}
    → Lays p stores m m' r → words ≡ length stores → length t ≡ g.slots → FormatEnds p words k g t answer t'
    → settle p (board_of m c t k) (carry stores (formatted_side (board_of m c t k) g) []) ≡ outcome_of answer m' c t'
format_settles p m c t k g stores {m'} {words = words} {answer = answer} laid w l (cut h q e) =
    cut_sized p m c t k stores m' words (record { words = w; bytes = laid.bytes }) answer _ h q ∙ ap (outcome_of answer m' c) (sym e)
format_settles p m c t k g stores {m'} {words = words} {answer = answer} laid w l (done h q e) =
    whole_is p m c t k stores m' words (record { words = w; bytes = laid.bytes }) answer c (replicate g.slots 0) (started_of g A (replicate 64 0)) h q
    ∙ ap (outcome_of answer m' c) (sym (e ∙ ap (λ (n : ℕ). replicate n 0) l))

module _ (p : ℕ) (m c t : List ℕ) (k : Controller) (g : Geometry) (fill : ℕ) (n : Number) (e : n ≡ format_number (board_of m c t k) g) where
  pub format_refused : {answer : Answer} → number_of n ≢ 0 → answer ≡ refused_of n k → call p (board_of m c t k) (format g fill) ≡ outcome_of answer m c t
  unfolding call plan format_plan
  format_refused ne q = refused_is p m c t k _ n _ _ e ne q

  pub format_goes : {m' t' : List ℕ} {r words : ℕ} {answer : Answer} → number_of n ≡ 0 → Lays p (format_list g fill) m m' r → words ≡ length (format_list g fill)
      → length t ≡ g.slots → FormatEnds p words k g t answer t' → call p (board_of m c t k) (format g fill) ≡ outcome_of answer m' c t'
  unfolding call plan format_plan
  format_goes z laid w l ends = guard_on p (board_of m c t k) _ n _ e z ∙ format_settles p m c t k g (format_list g fill) laid w l ends
