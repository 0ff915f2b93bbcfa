-- Begin and step as calls: the number that their checks give, what they know once accepted, and how they end.
use mathlib.Core.Path.{◌≡◌, refl, sym, ap, ◌∙◌}
use mathlib.Core.Logic.{◌≢◌}
use mathlib.Core.Bool.{Bool, true, false, not}
use mathlib.Core.List.{List, [], ◌∷◌, ◌++◌, map}
use Prim.Native.Nat.{ℕ, ◌+◌, ◌-◌, ◌≤◌, ◌<◌, min}
use native.Mathlib.Omega.{arith}
use native.Mathlib.Nat.{suc-ne-zero}
use lib.Dec.{eqb}
use lib.ListN.{length, take, drop, length-take, length-drop, length-map}
use borrow.Author.Tests.{eqb-true, not-false}
use Rattle.words.specs.Words.{Store, Lays, lay}
use Rattle.words.proofs.Laying.{take_most, relaid, laid_whole}
use Rattle.rules.specs.declared.Phase.{Phase}
use Rattle.rules.specs.declared.Phase.TheVariants.{Running, Writing, Off}
use Rattle.rules.specs.declared.Controller.{Controller}
use Rattle.rules.specs.declared.Number.{Number}
use Rattle.rules.specs.declared.Number.TheVariants as No
use Rattle.rules.specs.declared.Answer.{Answer}
use Rattle.rules.specs.TableWords.{every, changed}
use Rattle.rules.specs.Board.{Board, board_of}
use Rattle.rules.specs.Numbers.{number_of, ◌⇒◌, first_of, is_off, allows, well_formed, common_checks, is_writing, is_running}
use Rattle.rules.specs.Power.{Outcome, carry, settle, outcome_of}
use Rattle.rules.specs.Checkpoints as R
use Rattle.rules.specs.Calls.{call, plan, begin, step}
use Rattle.rules.proofs.Clashes.{false_true}
use Rattle.checks.specs.Ready.{Ready}
use Rattle.checks.specs.Answers.{off_of, answer_of, refused_of}
use Rattle.checks.proofs.Passed.{by_common, by_last, by_none, Passed, common_passed}
use Rattle.checks.proofs.Settled.{guard_on, refused_is, cut_is, whole_is}
use Rattle.copies.specs.Records.{begun_record}
use Rattle.checkpoints.specs.Records.{stepped_record}
use Rattle.checkpoints.proofs.Lists.{length_checkpoint}

pub idle_refuses : number_of No.Idle ≢ 0
unfolding number_of
idle_refuses = suc-ne-zero 8

-- ---- begin

module _ (memory cache table : List ℕ) (controller : Controller) (registers : List ℕ) where
  abbrev Board₁ : Board
  Board₁ = board_of memory cache table controller

  abbrev unfitting : Bool
  unfitting = not (eqb (length registers) 64)

  begin_number_lem : first_of (common_checks Board₁ unfitting ++ (is_writing controller.phase ⇒ No.Busy) ∷ []) ≡ R.begin_number Board₁ registers
  unfolding R.begin_number
  begin_number_lem = refl

  pub begin_stops : {n : Number} → (n ≡ first_of (common_checks Board₁ unfitting)) × (number_of n ≢ 0) → n ≡ R.begin_number Board₁ registers
  begin_stops h = by_common Board₁ unfitting (is_writing controller.phase) No.Busy h ∙ begin_number_lem

  -- once the checks 1 to 5 pass
  module _ (z : number_of (first_of (common_checks Board₁ unfitting)) ≡ 0) where
    pub begin_busy : {held : Bool} → held ≡ is_writing controller.phase → held ≡ true → No.Busy ≡ R.begin_number Board₁ registers
    begin_busy h q = by_last Board₁ unfitting (is_writing controller.phase) No.Busy z (sym h ∙ q) ∙ begin_number_lem

    pub begin_accepted : {held : Bool} → held ≡ is_writing controller.phase → held ≡ false → No.Done ≡ R.begin_number Board₁ registers
    begin_accepted h q = by_none Board₁ unfitting (is_writing controller.phase) No.Busy z (sym h ∙ q) ∙ begin_number_lem

  -- what an accepted begin knows
  pub record Begins : Type 0 where
    pub ready : Ready controller.geometry memory cache table
    pub formed : every (well_formed (allows Running) controller.geometry) table ≡ true
    pub eight : length registers ≡ 64

  running_only : (phase : Phase) → is_writing phase ≡ false → is_off phase ≡ false
      → every (well_formed (allows phase) controller.geometry) table ≡ true → every (well_formed (allows Running) controller.geometry) table ≡ true
  running_only Running w o f = f
  running_only (Writing count) w o f = absurd (false_true (sym w))
  running_only Off w o f = absurd (false_true (sym o))

  pub begins : No.Done ≡ R.begin_number Board₁ registers → is_writing controller.phase ≡ false → Begins
  unfolding number_of
  begins e w =
      let passed = (common_passed memory cache table controller unfitting ((is_writing controller.phase ⇒ No.Busy) ∷ []) (ap number_of (begin_number_lem ∙ sym e))).0 in
      record {
        ready = passed.ready;
        formed = running_only controller.phase w passed.awake passed.formed;
        eight = eqb-true (length registers) 64 (not-false (eqb (length registers) 64) passed.fit);
      }

  -- what a begin knows behind its last check
  pub begin_known : number_of (first_of (common_checks Board₁ unfitting)) ≡ 0 → {held : Bool} → held ≡ is_writing controller.phase → held ≡ false → Begins
  begin_known z h q = begins (begin_accepted z h q) (sym h ∙ q)

  module _ (p : ℕ) where
    pub begin_refused : (n : Number) (answer : Answer) → n ≡ R.begin_number Board₁ registers → number_of n ≢ 0 → answer ≡ refused_of n controller
        → call p Board₁ (begin registers) ≡ outcome_of answer memory cache table
    unfolding call plan R.begin_plan
    begin_refused n answer e ne q = refused_is p memory cache table controller _ n (R.begin_number Board₁ registers) answer e ne q

    pub begin_goes : No.Done ≡ R.begin_number Board₁ registers
        → call p Board₁ (begin registers)
        ≡ settle p Board₁
        (carry (R.copies controller.geometry cache 0 table)
        (record { cache = cache; table = map (changed R.begun) table; controller = begun_record controller registers }) [])
    unfolding call plan R.begin_plan number_of
    begin_goes e = guard_on p Board₁ _ No.Done (R.begin_number Board₁ registers) e refl

    module _ (e : No.Done ≡ R.begin_number Board₁ registers) (words : ℕ) (w : words ≡ length (R.copies controller.geometry cache 0 table))
        (memory' : List ℕ) (answer : Answer) (after : Controller) where
      pub begin_cut : {r : ℕ} → p < words → Lays p (R.copies controller.geometry cache 0 table) memory memory' r
          → answer ≡ answer_of No.Cut p after → after ≡ off_of controller → call p Board₁ (begin registers) ≡ outcome_of answer memory' cache table
      begin_cut h l q off =
          begin_goes e ∙ cut_is p memory cache table controller _ memory' words (relaid words w l) answer _ refl h (q ∙ ap (answer_of No.Cut p) off)

      pub begin_whole : (table' : List ℕ) → words ≤ p → memory' ≡ lay (R.copies controller.geometry cache 0 table) memory
          → table' ≡ map (changed R.begun) table → answer ≡ answer_of No.Done words after → after ≡ begun_record controller registers
          → call p Board₁ (begin registers) ≡ outcome_of answer memory' cache table'
      begin_whole table' h l t q a =
          begin_goes e
          ∙ whole_is p memory cache table controller _ memory' words (laid_whole p words _ memory w h l) answer cache (map (changed R.begun) table)
          (begun_record controller registers) h (q ∙ ap (answer_of No.Done words) a)
          ∙ ap (outcome_of answer memory' cache) (sym t)

-- ---- step

module _ (memory cache table : List ℕ) (controller : Controller) where
  abbrev Board₂ : Board
  Board₂ = board_of memory cache table controller

  step_number_lem : first_of (common_checks Board₂ false ++ (is_running controller.phase ⇒ No.Idle) ∷ []) ≡ R.step_number Board₂
  unfolding R.step_number
  step_number_lem = refl

  pub step_stops : {n : Number} → (n ≡ first_of (common_checks Board₂ false)) × (number_of n ≢ 0) → n ≡ R.step_number Board₂
  step_stops h = by_common Board₂ false (is_running controller.phase) No.Idle h ∙ step_number_lem

  module _ (z : number_of (first_of (common_checks Board₂ false)) ≡ 0) where
    pub step_idle : {held : Bool} → held ≡ is_running controller.phase → held ≡ true → No.Idle ≡ R.step_number Board₂
    step_idle h q = by_last Board₂ false (is_running controller.phase) No.Idle z (sym h ∙ q) ∙ step_number_lem

    pub step_accepted : {held : Bool} → held ≡ is_running controller.phase → held ≡ false → No.Done ≡ R.step_number Board₂
    step_accepted h q = by_none Board₂ false (is_running controller.phase) No.Idle z (sym h ∙ q) ∙ step_number_lem

  -- what an accepted step knows
  pub steps : No.Done ≡ R.step_number Board₂ → Passed memory cache table controller false
  unfolding number_of
  steps e = (common_passed memory cache table controller false ((is_running controller.phase ⇒ No.Idle) ∷ []) (ap number_of (step_number_lem ∙ sym e))).0

  -- what a step knows behind its last check: its number, and the board
  pub step_known : number_of (first_of (common_checks Board₂ false)) ≡ 0 → {held : Bool} → held ≡ is_running controller.phase → held ≡ false
      → (No.Done ≡ R.step_number Board₂) × Passed memory cache table controller false
  step_known z h q = let d = step_accepted z h q in (d, steps d)

  module _ (p most : ℕ) where
    pub step_refused : (n : Number) (answer : Answer) → n ≡ R.step_number Board₂ → number_of n ≢ 0 → answer ≡ refused_of n controller
        → call p Board₂ (step most) ≡ outcome_of answer memory cache table
    unfolding call plan R.step_plan
    step_refused n answer e ne q = refused_is p memory cache table controller _ n (R.step_number Board₂) answer e ne q

    abbrev stepsTo : List Store → ℕ → Outcome
    stepsTo stores count = settle p Board₂ (carry stores (record { cache = cache; table = table; controller = stepped_record controller count }) [])

    step_planned : No.Done ≡ R.step_number Board₂
        → call p Board₂ (step most) ≡ stepsTo (R.next_words Board₂ most) (R.count_of controller.phase + length (R.next_words Board₂ most))
    unfolding call plan R.step_plan number_of
    step_planned e = guard_on p Board₂ _ No.Done (R.step_number Board₂) e refl

    -- the next words, by the count and the number of words that the code works out
    module _ (count words : ℕ) (slots : length table ≡ controller.geometry.slots) (c : count ≡ R.count_of controller.phase)
        (w : words ≡ min most (controller.geometry.slots + 9 - count)) where
      abbrev pub list : List Store
      list = R.checkpoint_list controller.geometry (R.other controller.finished) controller.registers (map (changed R.saved) table)

      length_left : length (drop count list) ≡ controller.geometry.slots + 9 - count
      length_left =
          length-drop count list
          ∙ ap (λ (z : ℕ). z - count) (length_checkpoint _ _ _ _ ∙ ap (λ (z : ℕ). z + 9) (length-map table (changed R.saved) ∙ slots))

      pub length_next : words ≡ length (take words (drop count list))
      length_next = sym (length-take words (drop count list) ∙ ap (min words) length_left ∙ omega arith)

      next_is : R.next_words Board₂ most ≡ take words (drop count list)
      unfolding R.next_words
      next_is =
          ap (λ (z : ℕ). take most (drop z list)) (sym c)
          ∙ sym (take_most most words (drop count list) (w ∙ ap (min most) (sym length_left)))

      pub step_goes : No.Done ≡ R.step_number Board₂ → call p Board₂ (step most) ≡ stepsTo (take words (drop count list)) (count + words)
      step_goes e =
          step_planned e
          ∙ ap (λ (z : List Store). stepsTo z (R.count_of controller.phase + length z)) next_is
          ∙ ap (λ (z : ℕ). stepsTo (take words (drop count list)) (z + length (take words (drop count list)))) (sym c)
          ∙ ap (λ (z : ℕ). stepsTo (take words (drop count list)) (count + z)) (sym length_next)

      module _ (e : No.Done ≡ R.step_number Board₂) {r : ℕ} (memory' : List ℕ) (l : Lays p (take words (drop count list)) memory memory' r)
          (answer : Answer) (after : Controller) where
        pub step_cut : p < words → answer ≡ answer_of No.Cut p after → after ≡ off_of controller → call p Board₂ (step most) ≡ outcome_of answer memory' cache table
        step_cut h q off =
            step_goes e ∙ cut_is p memory cache table controller _ memory' words (relaid words length_next l) answer _ refl h (q ∙ ap (answer_of No.Cut p) off)

        pub step_whole : words ≤ p → answer ≡ answer_of No.Done words after → after ≡ stepped_record controller (count + words)
            → call p Board₂ (step most) ≡ outcome_of answer memory' cache table
        step_whole h q a =
            step_goes e
            ∙ whole_is p memory cache table controller _ memory' words (relaid words length_next l) answer cache table (stepped_record controller (count + words)) h
            (q ∙ ap (answer_of No.Done words) a)
