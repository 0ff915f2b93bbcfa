-- The calls of the new form: what their code finds, laid and answered, is their outcome.
use mathlib.Core.Path.{◌≡◌, refl, sym, ap, ◌∙◌}
use mathlib.Core.Logic.{◌≢◌}
use mathlib.Core.Bool.{Bool, true, false, cond}
use mathlib.Core.List.{List, []}
use Prim.Native.Nat.{ℕ, ◌*◌}
use lib.Dec.{leb}
use lib.ListN.{length, take}
use borrow.Author.Tests.{leb-true, leb-false}
use Rattle.words.specs.Words.{Store, Lays}
use Rattle.rules.specs.declared.Geometry.{Geometry}
use Rattle.rules.specs.declared.Controller.{Controller}
use Rattle.rules.specs.declared.Number.{Number}
use Rattle.rules.specs.declared.Answer.{Answer}
use Rattle.rules.specs.Board.{Board, board_of}
use Rattle.rules.specs.Numbers.{number_of, first_of}
use Rattle.rules.specs.Power.{carry, settle, outcome_of, Outcome}
use Rattle.checks.specs.Answers.{off_of, answer_of, refused_of, ended_of}
use Rattle.checks.proofs.Settled.{refused_is, guard_on, cut_is, whole_is}
use Rattle.starts.proofs.Formatting.{FormatEnds, format_settles}
use Rattle.forms.specs.declared.Header.{Header}
use Rattle.forms.specs.Stored.{header_of, zeros_to, long_words, without}
use Rattle.forms.specs.Calls.{sizes_checks, headed_number, long_format_list, format_plan, up_list, up_plan, back_plan, format, up, back, call, header_checks, recover_plan, recover}
use Rattle.rules.specs.declared.Recovery.{Recovery}
use Rattle.rules.specs.Geometry.{memory_words}
use Rattle.rules.specs.Starts.{registers_given, Recovered}
use Rattle.checks.proofs.Passed.{front_passed}
use Rattle.backups.specs.Records.{refused_recovery}
use Rattle.starts.proofs.Recovering.{refused_says}
use Rattle.forms.specs.Runs.{shortened}
use Rattle.forms.proofs.Checking.{named_checks, sizes_refuse, headed_stops, without_is}
use Rattle.forms.proofs.Recovering.{recover_memory, recover_same}
use Rattle.rules.specs.declared.Number.TheVariants as No
use Rattle.rules.specs.Calls as Old

-- a list that was laid, and leaves the volatile side as it was
settles : (p : ℕ) (m c t : List ℕ) (k : Controller) (stores : List Store) {m' : List ℕ} {words : ℕ} {answer : Answer}
    → Lays p stores m m' words → answer ≡ ended_of p words k
    → settle p (board_of m c t k) (carry stores (board_of m c t k).volatile []) ≡ outcome_of answer m' c t
unfolding ended_of
settles p m c t k stores {m'} {words} {answer} laid = go (leb words p) refl
  where
    go : (b : Bool) → leb words p ≡ b → answer ≡ cond b (answer_of No.Done words k) (answer_of No.Cut p (off_of k))
        → settle p (board_of m c t k) (carry stores (board_of m c t k).volatile []) ≡ outcome_of answer m' c t
    go true h q = whole_is p m c t k stores m' words laid answer c t k (leb-true words p h) q
    go false h q = cut_is p m c t k stores m' words laid answer _ refl (leb-false words p h) q

module _ (p : ℕ) (m c t : List ℕ) (k : Controller) (g : Geometry) where
  abbrev board : Board
  board = board_of m c t k

  -- ---- moves

  pub up_refused : (n : Number) {answer : Answer} → n ≡ headed_number false board g → number_of n ≢ 0 → answer ≡ refused_of n k → call p board (up g) ≡ outcome_of answer m c t
  unfolding call up_plan
  up_refused n {answer} e ne q = refused_is p m c t k _ n _ answer e ne q

  pub up_goes : (n : Number) {answer : Answer} {m' : List ℕ} {words : ℕ} {header : Header} → n ≡ headed_number false board g → number_of n ≡ 0 → header ≡ header_of g m
      → Lays p (up_list g header) m m' words → answer ≡ ended_of p words k → call p board (up g) ≡ outcome_of answer m' c t
  unfolding call up_plan
  up_goes n e z h laid q =
      guard_on p board _ n _ e z
      ∙ ap (λ (header : Header). settle p board (carry (up_list g header) board.volatile [])) (sym h)
      ∙ settles p m c t k _ laid q

  pub back_refused : (n : Number) {answer : Answer} → n ≡ headed_number true board g → number_of n ≢ 0 → answer ≡ refused_of n k → call p board (back g) ≡ outcome_of answer m c t
  unfolding call back_plan
  back_refused n {answer} e ne q = refused_is p m c t k _ n _ answer e ne q

  pub back_goes : (n : Number) {answer : Answer} {m' : List ℕ} {words : ℕ} → n ≡ headed_number true board g → number_of n ≡ 0 → Lays p (zeros_to g) m m' words → answer ≡ ended_of p words k
      → call p board (back g) ≡ outcome_of answer m' c t
  unfolding call back_plan
  back_goes n e z laid q = guard_on p board _ n _ e z ∙ settles p m c t k (zeros_to g) laid q

  -- ---- format

  pub format_refused : (n : Number) (fill : ℕ) {answer : Answer} → n ≡ first_of (sizes_checks board g) → number_of n ≢ 0 → answer ≡ refused_of n k → call p board (format g fill) ≡ outcome_of answer m c t
  unfolding call format_plan
  format_refused n fill {answer} e ne q = refused_is p m c t k _ n _ answer e ne q

  pub format_goes : (n : Number) (fill : ℕ) {answer : Answer} {m' t' : List ℕ} {r words : ℕ} → n ≡ first_of (sizes_checks board g) → number_of n ≡ 0 → Lays p (long_format_list g fill) m m' r
      → words ≡ length (long_format_list g fill) → length t ≡ g.slots → FormatEnds p words k g t answer t' → call p board (format g fill) ≡ outcome_of answer m' c t'
  unfolding call format_plan
  format_goes n fill e z laid w l ends = guard_on p board _ n _ e z ∙ format_settles p m c t k g (long_format_list g fill) laid w l ends

  -- ---- recovery

  pub recover_refused : (n : Number) {r : Recovery} → n ≡ first_of (named_checks true board g) → number_of n ≢ 0 → r ≡ refused_recovery n k → Recovered (call p board (recover g)) r m c t
  unfolding call recover_plan
  recover_refused n e ne q = refused_says n q (refused_is p m c t k _ n _ _ (headed_stops true board g (e, ne)).0 ne refl)

  pub recover_goes : (n : Number) {r : Recovery} {words : ℕ} {t' : List ℕ} → n ≡ first_of (named_checks true board g) → number_of n ≡ 0 → length m ≡ 8 * long_words g → words ≡ memory_words g
      → Recovered (Old.call p (board_of (take (8 * words) m) c t k) (Old.recover g)) r (take (8 * words) m) c t' → Recovered (call p board (recover g)) r m c t'
  recover_goes n {r} {words} {t'} e z size w said =
      let header = (front_passed (header_checks true (header_of g m)) (sizes_refuse board g) (ap number_of (sym e) ∙ z)).1 in
      let old : take (8 * words) m ≡ without m = ap (λ (count : ℕ). take (8 * count) m) w ∙ sym (without_is g m size) in
      let is : Old.call p (board_of (take (8 * words) m) c t k) (Old.recover g) ≡ shortened (call p board (recover g)) =
      ap (λ (part : List ℕ). Old.call p (board_of part c t k) (Old.recover g)) old ∙ sym (recover_same p board g header)
      in
      let side : (board_of (take (8 * words) m) c t' r.answer.controller).volatile ≡ (call p board (recover g)).board.volatile =
      ap (λ (z : Board). z.volatile) said.board ∙ ap (λ (o : Outcome). o.board.volatile) is
      in
      let memory : m ≡ (call p board (recover g)).board.memory = sym (recover_memory p board g) in
      record {
        number = said.number ∙ ap (λ (o : Outcome). o.number) is;
        words = said.words ∙ ap (λ (o : Outcome). o.words) is;
        registers = said.registers ∙ ap (λ (o : Outcome). registers_given o.gives) is;
        board = λ i. record { memory = memory i; volatile = side i };
      }
