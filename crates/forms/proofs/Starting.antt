-- The runs of demand 3 in both forms begin well: after a format of either form, and after one of the new form that is cut from its mark on.
use mathlib.Core.Path.{◌≡◌, refl, sym, ap, ◌∙◌, subst}
use mathlib.Core.List.{List, []}
use Rattle.std.specs.Prelude.{Some}
use Prim.Native.Nat.{ℕ, zero, suc, ◌+◌, ◌*◌, ◌≤◌, ◌<◌}
use native.Mathlib.Omega.{arith}
use native.Mathlib.Nat.{suc-ne-zero, le_refl}
use lib.ListN.{length, take}
use Rattle.words.specs.Words.{lay}
use Rattle.rules.specs.declared.Geometry.{Geometry}
use Rattle.rules.specs.Geometry.{home_words, backup_words}
use Rattle.rules.specs.Board.{Board, Volatile}
use Rattle.rules.specs.Numbers.{number_of, first_of}
use Rattle.rules.specs.Power.{carry, Outcome, whole}
use Rattle.rules.specs.Starts.{format_list, format_number, formatted_side}
use Rattle.rules.specs.Starts as Starts
use Rattle.rules.specs.Calls as Old
use Rattle.rules.specs.PlainMachine.{formatted}
use Rattle.rules.specs.Runs as OldRuns
use Rattle.rules.specs.Runs.{Lengths}
use Rattle.rules.proofs.Checked.{Lent, sizes_passed}
use Rattle.rules.proofs.Answers.{guard_accepted}
use Rattle.rules.proofs.Started.{format_inv}
use Rattle.rules.proofs.Demand3.{Good, stop_good}
use Rattle.starts.proofs.Formatting.{format_length}
use Rattle.forms.specs.Stored.{long_words, without, old_board}
use Rattle.forms.specs.Calls.{sizes_checks, long_format_list, format_plan, old, format, call}
use Rattle.forms.specs.Runs.{lost, Clear, Formatted, by_old, by_new, by_cut, formatted_run}
use Rattle.forms.proofs.Checking.{without-length, sizes_are, sizes_uncut}
use Rattle.forms.proofs.Lists.{long_length}
use Rattle.forms.proofs.Moving.{Left}
use Rattle.forms.proofs.Following.{Ends, refused, finished, stopped, ends, carried}
use Rattle.forms.proofs.Formats.{format_left, all_laid}
use Rattle.forms.proofs.Invariant.{Well, beside_well}

-- 8N + B + 10
pub old_words : (g : Geometry) (fill : ℕ) → length (format_list g fill) ≡ 8 * g.blocks + g.slots + 10
old_words g fill =
    let e : home_words g + backup_words g + 2 ≡ length (format_list g fill) = format_length g fill (home_words g + backup_words g + 2) refl in
    omega (arith, e)

-- ---- the old form's format, whole, on the memory without the two words

-- the board that it leaves
abbrev pub afresh : Board → Geometry → ℕ → Board
afresh board g fill = record { memory = lay (format_list g fill) (without board.memory); volatile = formatted_side board g }

pub sizes_lent : (board : Board) (g : Geometry) → number_of (first_of (sizes_checks board g)) ≡ 0 → Lent g (old_board board)
unfolding format_number
sizes_lent board g z = (sizes_passed (old_board board) g [] (ap number_of (sym (sizes_are board g)) ∙ z)).1

pub long_size : (board : Board) (g : Geometry) → Lent g (old_board board) → length board.memory ≡ 8 * long_words g
long_size board g l = let e = l.memory in omega (arith, without-length board.memory, e)

pub afresh_good : (board : Board) (g : Geometry) (fill : ℕ) → number_of (first_of (sizes_checks board g)) ≡ 0
    → Good g (record { board = afresh board g fill; promise = Some (formatted fill) }) (formatted fill)
unfolding Old.call Old.plan Starts.format_plan number_of
afresh_good board g fill z =
    let enough = length (format_list g fill) in
    let passed = ap number_of (sym (sizes_are board g)) ∙ z in
    let is : Old.call enough (old_board board) (Old.format g fill) ≡ whole (old_board board) (format_list g fill) (formatted_side board g) [] =
    carried enough (old_board board) (format_number (old_board board) g) (format_list g fill) (formatted_side board g) passed (le_refl enough)
    in
    let i = format_inv g fill enough (old_board board) (ap (λ (o : Outcome). number_of o.number) is) in
    subst (λ (b : Board). Good g (record { board = b; promise = Some (formatted fill) }) (formatted fill)) (ap (λ (o : Outcome). o.board) is)
    (record { stands = refl; inv = i.0; same = i.1 })

-- the new form's, from its mark on
pub left_from_mark : (board : Board) (g : Geometry) (fill p : ℕ) → number_of (first_of (sizes_checks board g)) ≡ 0 → length (format_list g fill) < p
    → Left g (lay (format_list g fill) (without board.memory)) (lay (take p (long_format_list g fill)) board.memory)
left_from_mark board g fill zero z h = absurd (omega (arith, h))
left_from_mark board g fill (suc q) z h =
    let size = long_size board g (sizes_lent board g z) in
    subst (λ (part : List ℕ). Left g part (lay (take (suc q) (long_format_list g fill)) board.memory)) (all_laid g fill board.memory size q (omega (arith, h)))
    (format_left g fill board.memory size q)

-- how it ends
pub format_ends : (p : ℕ) (board : Board) (g : Geometry) (fill : ℕ)
    → Ends p board (first_of (sizes_checks board g)) (long_format_list g fill) (formatted_side board g) (call p board (format g fill))
unfolding call format_plan
format_ends p board g fill = ends p board (first_of (sizes_checks board g)) (long_format_list g fill) (formatted_side board g)

-- ---- three beginnings

module _ (g : Geometry) (fill : ℕ) where
  abbrev pub Begins : Board → Type 0
  Begins board = Well g (formatted_run fill board) (formatted fill)

  old_begins : (p : ℕ) (before : Board) → number_of (call p before (old (Old.format g fill))).number ≡ 0 → Clear g before.memory
      → Begins (call p before (old (Old.format g fill))).board
  unfolding call Old.call Old.plan Starts.format_plan format_number
  old_begins p before e clear =
      let i = format_inv g fill p (old_board before) e in
      let a = guard_accepted p (old_board before) (format_number (old_board before) g) (carry (format_list g fill) (formatted_side before g) []) e in
      let l = (sizes_passed (old_board before) g [] a.0).1 in
      beside_well g before.memory (record { board = (Old.call p (old_board before) (Old.format g fill)).board; promise = Some (formatted fill) }) (formatted fill)
      (long_size before g l) clear (record { stands = refl; inv = i.0; same = i.1 })

  pub new_begins : (p : ℕ) (before : Board) → number_of (call p before (format g fill)).number ≡ 0 → Begins (call p before (format g fill)).board
  unfolding number_of
  new_begins p before = go (call p before (format g fill)) (format_ends p before g fill)
    where
      go : (o : Outcome) → Ends p before (first_of (sizes_checks before g)) (long_format_list g fill) (formatted_side before g) o → number_of o.number ≡ 0 → Begins o.board
      go o (refused ne) e = absurd (ne e)
      go o (finished z enough) e =
          let l = left_from_mark before g fill p z (omega (arith, long_length g fill, enough)) in
          record {
            good =
                subst (λ (part : List ℕ). Good g (record { board = record { memory = part; volatile = formatted_side before g }; promise = Some (formatted fill) }) (formatted fill))
                (sym l.same) (afresh_good before g fill z);
            size = l.size;
            clear = l.clear;
          }
      go o (stopped z h) e = absurd (suc-ne-zero 19 e)

  -- after the recovery that follows, an old board beside what is stored of the header
  recovered_good : (before : Board) (volatile : Volatile) → number_of (first_of (sizes_checks before g)) ≡ 0 → Lengths g volatile
      → Good g
      (record {
        board = (Old.call 0 (record { memory = lay (format_list g fill) (without before.memory); volatile = volatile }) (Old.recover g)).board;
        promise = Some (formatted fill);
      })
      (formatted fill)
  unfolding OldRuns.stopping formatted
  recovered_good before volatile z l =
      let good = stop_good g volatile (record { board = afresh before g fill; promise = Some (formatted fill) }) (formatted fill) l (afresh_good before g fill z) in
      record { stands = refl; inv = good.inv; same = good.same }

  cut_begins : (p : ℕ) (before : Board) (volatile : Volatile) → number_of (call p before (format g fill)).number ≡ 20 → 8 * g.blocks + g.slots + 11 ≤ p → Lengths g volatile
      → Begins (call 0 (lost (call p before (format g fill)).board volatile) (old (Old.recover g))).board
  unfolding number_of call
  cut_begins p before volatile e marked l = go (call p before (format g fill)) (format_ends p before g fill) e
    where
      go : (o : Outcome) → Ends p before (first_of (sizes_checks before g)) (long_format_list g fill) (formatted_side before g) o → number_of o.number ≡ 20
          → Begins (call 0 (lost o.board volatile) (old (Old.recover g))).board
      go o (refused ne) e = absurd (sizes_uncut before g e)
      go o (finished z enough) e = absurd (suc-ne-zero 19 (sym e))
      go o (stopped z h) e =
          let left = left_from_mark before g fill p z (omega (arith, old_words g fill, marked)) in
          let memory : List ℕ = lay (take p (long_format_list g fill)) before.memory in
          beside_well g memory
          (record { board = (Old.call 0 (record { memory = without memory; volatile = volatile }) (Old.recover g)).board; promise = Some (formatted fill) })
          (formatted fill) left.size left.clear
          (subst
          (λ (part : List ℕ). Good g (record { board = (Old.call 0 (record { memory = part; volatile = volatile }) (Old.recover g)).board; promise = Some (formatted fill) }) (formatted fill))
          (sym left.same) (recovered_good before volatile z l))

  begins : (board : Board) → Formatted g fill board → Begins board
  begins board (by_old p before e clear) = old_begins p before e clear
  begins board (by_new p before e) = new_begins p before e
  begins board (by_cut p before volatile e marked l) = cut_begins p before volatile e marked l

  pub formatted_well : (board : Board) → Formatted g fill board → Well g (formatted_run fill board) (formatted fill)
  formatted_well board f = begins board f
