-- Sweep as a call: the number that its checks give, what it knows once accepted, and how it ends.
use mathlib.Core.Path.{◌≡◌, refl, sym, ap, ◌∙◌}
use mathlib.Core.Logic.{◌≢◌}
use mathlib.Core.Bool.{Bool, true, false}
use mathlib.Core.List.{List, [], ◌∷◌, ◌++◌}
use Prim.Native.Nat.{ℕ, ◌*◌, ◌≤◌, ◌<◌, min}
use native.Mathlib.Omega.{arith}
use lib.ListN.{length, take, length-take}
use Rattle.words.specs.Words.{Lays, lay}
use Rattle.words.proofs.Laying.{take_most, laid_whole}
use Rattle.rules.specs.declared.Controller.{Controller}
use Rattle.rules.specs.declared.Number.{Number}
use Rattle.rules.specs.declared.Number.TheVariants as No
use Rattle.rules.specs.declared.Answer.{Answer}
use Rattle.rules.specs.Board.{Board, board_of}
use Rattle.rules.specs.Numbers.{number_of, ◌⇒◌, first_of, common_checks, is_writing}
use Rattle.rules.specs.Power.{Outcome, carry, settle, outcome_of}
use Rattle.rules.specs.Sweeps as S
use Rattle.rules.specs.Calls.{call, plan, sweep}
use Rattle.rules.proofs.Changing.{all_every}
use Rattle.rules.proofs.Sweeping.{sweep_open, open_lent, open_formed}
use Rattle.rules.proofs.SweepMoves.{copies_count}
use Rattle.rules.proofs.Checked.{bounds}
use Rattle.checks.specs.Answers.{off_of, answer_of, refused_of}
use Rattle.checks.proofs.Passed.{by_common, by_last, by_none}
use Rattle.checks.proofs.Settled.{guard_on, refused_is, cut_is, whole_is}
use Rattle.sweeps.specs.Entries.{Sweepable}

-- the lowest entries, by how many there are
lowest_is : (limit entries : ℕ) (table : List ℕ) → entries ≡ min limit (length (S.clean_from 0 table)) → take entries (S.clean_from 0 table) ≡ S.lowest_clean limit table
unfolding S.lowest_clean
lowest_is limit entries table e = take_most limit entries (S.clean_from 0 table) e

module _ (memory cache table : List ℕ) (controller : Controller) where
  abbrev board : Board
  board = board_of memory cache table controller

  sweep_number_lem : first_of (common_checks board false ++ (is_writing controller.phase ⇒ No.Busy) ∷ []) ≡ S.sweep_number board
  unfolding S.sweep_number
  sweep_number_lem = refl

  pub sweep_stops : {n : Number} → (n ≡ first_of (common_checks board false)) × (number_of n ≢ 0) → n ≡ S.sweep_number board
  sweep_stops h = by_common board false (is_writing controller.phase) No.Busy h ∙ sweep_number_lem

  -- once the checks 1 to 5 pass
  module _ (z : number_of (first_of (common_checks board false)) ≡ 0) {held : Bool} (h : held ≡ is_writing controller.phase) where
    pub sweep_busy : held ≡ true → No.Busy ≡ S.sweep_number board
    sweep_busy q = by_last board false (is_writing controller.phase) No.Busy z (sym h ∙ q) ∙ sweep_number_lem

    pub sweep_accepted : held ≡ false → No.Done ≡ S.sweep_number board
    sweep_accepted q = by_none board false (is_writing controller.phase) No.Busy z (sym h ∙ q) ∙ sweep_number_lem

  -- what an accepted sweep knows
  pub sweep_known : No.Done ≡ S.sweep_number board → Sweepable controller.geometry memory table
  unfolding number_of
  sweep_known d =
      let o = sweep_open board (ap number_of (sym d)) in
      let b = bounds controller.geometry o.common.fine in
      record {
        blocks = b.blocks_high;
        slots = b.slots_high;
        memory = (open_lent o).memory;
        table = (open_lent o).table;
        formed = all_every _ table (open_formed o);
      }

  module _ (p limit : ℕ) where
    pub sweep_refused : (n : Number) (answer : Answer) → n ≡ S.sweep_number board → number_of n ≢ 0 → answer ≡ refused_of n controller
        → call p board (sweep limit) ≡ outcome_of answer memory cache table
    unfolding call plan S.sweep_plan
    sweep_refused n answer e ne q = refused_is p memory cache table controller _ n (S.sweep_number board) answer e ne q

    abbrev swept_by : List S.CleanEntry → Outcome
    swept_by entries = settle p board (carry (S.home_copies controller.geometry memory entries) (record { cache = cache; table = S.hidden entries table; controller = controller }) [])

    module _ (d : No.Done ≡ S.sweep_number board) (entries : ℕ) (few : entries ≡ min limit (length (S.clean_from 0 table))) where
      sweep_goes : call p board (sweep limit) ≡ swept_by (take entries (S.clean_from 0 table))
      unfolding call plan S.sweep_plan number_of
      sweep_goes = guard_on p board _ No.Done (S.sweep_number board) d refl ∙ ap swept_by (sym (lowest_is limit entries table few))

      -- 8 words an entry
      listed : length (S.home_copies controller.geometry memory (take entries (S.clean_from 0 table))) ≡ 8 * entries
      listed =
          copies_count controller.geometry memory (take entries (S.clean_from 0 table))
          ∙ ap (λ (k : ℕ). 8 * k) (length-take entries (S.clean_from 0 table) ∙ omega arith)

      pub sweep_cut : (words : ℕ) {memory' : List ℕ} (answer : Answer) (after : Controller) → words ≡ 8 * entries
          → Lays p (S.home_copies controller.geometry memory (take entries (S.clean_from 0 table))) memory memory' (8 * entries)
          → p < words → answer ≡ answer_of No.Cut p after → after ≡ off_of controller → call p board (sweep limit) ≡ outcome_of answer memory' cache table
      sweep_cut words {memory'} answer after e l h q off =
          sweep_goes ∙ cut_is p memory cache table controller _ memory' (8 * entries) l answer _ refl (omega arith) (q ∙ ap (answer_of No.Cut p) off)

      pub sweep_whole : (words : ℕ) {memory' table' : List ℕ} (answer : Answer) → words ≡ 8 * entries → words ≤ p
          → memory' ≡ lay (S.home_copies controller.geometry memory (take entries (S.clean_from 0 table))) memory
          → table' ≡ S.hidden (take entries (S.clean_from 0 table)) table → answer ≡ answer_of No.Done words controller
          → call p board (sweep limit) ≡ outcome_of answer memory' cache table'
      sweep_whole words {memory'} {table'} answer e h m t q =
          sweep_goes
          ∙ whole_is p memory cache table controller _ memory' words (laid_whole p words _ memory (e ∙ sym listed) h m) answer cache (S.hidden (take entries (S.clean_from 0 table)) table) controller h q
          ∙ ap (outcome_of answer memory' cache) (sym t)
