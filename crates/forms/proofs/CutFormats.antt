-- A format of the new form that is cut: the old board, no board from its second word to its mark, then the new board in the old form.
use mathlib.Core.Path.{◌≡◌, refl, sym, ap, ◌∙◌, subst}
use mathlib.Core.Bool.{true, false}
use mathlib.Core.List.{List, []}
use Prim.Native.Nat.{ℕ, zero, suc, ◌+◌, ◌*◌, ◌-◌, ◌≤◌, ◌<◌}
use native.Mathlib.Omega.{arith}
use native.Mathlib.Nat.{suc-ne-zero}
use lib.ListN.{length, take}
use Rattle.words.specs.Words.{word, lay, number}
use Rattle.rules.specs.declared.Geometry.{Geometry}
use Rattle.rules.specs.Geometry.{mark_start, memory_words}
use Rattle.rules.specs.Board.{Board}
use Rattle.rules.specs.Numbers.{number_of, first_of, outside}
use Rattle.rules.specs.Power.{Outcome, cut}
use Rattle.rules.specs.Starts.{format_number, formatted_side, finished_by, finished_in, no_checkpoint, recover_number, recover_from}
use Rattle.rules.specs.Starts as Starts
use Rattle.rules.specs.Calls as Old
use Rattle.rules.specs.PlainMachine.{formatted}
use Rattle.rules.specs.Promises.{RecoversTo}
use Rattle.rules.proofs.Checked.{Lent, lent_exact, sizes_passed}
use Rattle.rules.proofs.KeepsRest.{cut_mark}
use Rattle.rules.proofs.Demand3.{good_recovers}
use Rattle.forms.specs.Stored.{header_start, long_words, zero_word, without, old_board}
use Rattle.forms.specs.Calls.{sizes_checks, headed_number, long_format_list, recover_plan, format, call}
use Rattle.forms.specs.Promises.{OldAnswers, NewAnswers, CutAfter, CutFormat}
use Rattle.forms.proofs.Checking.{sizes_uncut, sizes_are, without-length, long_inexact_lem}
use Rattle.forms.proofs.Long.{parts_of}
use Rattle.forms.proofs.Lists.{long_length}
use Rattle.forms.proofs.Moving.{old_part}
use Rattle.forms.proofs.Following.{guard_refuses, Ends, refused, finished, stopped}
use Rattle.forms.proofs.Formats.{format_left, format_missing}
use Rattle.forms.proofs.Fitting.{missing_number}
use Rattle.forms.proofs.Starting.{old_words, sizes_lent, long_size, afresh_good, left_from_mark, format_ends}

-- ---- what the recoveries answer

-- a memory whose mark names no backup: NO CHECKPOINT
no_checkpoint_lem : (g : Geometry) (memory : List ℕ) → outside g ≡ false → length (without memory) ≡ 8 * memory_words g → number (word (without memory) (mark_start g)) ≡ 0 → OldAnswers g memory 10
unfolding OldAnswers Old.call Old.plan Starts.recover_plan recover_number finished_in finished_by no_checkpoint first_of number_of
no_checkpoint_lem g memory fine size mark volatile l p =
    let board : Board = record { memory = without memory; volatile = volatile } in
    let lent : Lent g board = record { memory = size; cache = l.cache; table = l.table } in
    rw (fine, lent_exact g board lent, mark)

-- a memory whose first header word is zero: NO HEADER
no_header : (g : Geometry) (memory : List ℕ) → outside g ≡ false → length memory ≡ 8 * long_words g → word memory (header_start g) ≡ zero_word → NewAnswers g memory 13
unfolding NewAnswers call recover_plan number_of first_of
no_header g memory fine size first volatile l p =
    let board : Board = record { memory = memory; volatile = volatile } in
    let lent : Lent g (old_board board) = record { memory = without-length memory ∙ (let e : length memory - 16 ≡ 8 * memory_words g = omega (arith, size) in e); cache = l.cache; table = l.table } in
    let z : number_of (first_of (sizes_checks board g)) ≡ 0 = rw (fine, long_inexact_lem g board, lent_exact g (old_board board) lent) in
    let n = missing_number board g z first in
    ap (λ (o : Outcome). number_of o.number)
    (guard_refuses p board (headed_number true board g) (recover_from (old_board board) g (finished_in g (without memory))) (λ e. suc-ne-zero 12 (sym (ap number_of n) ∙ e)))
    ∙ ap number_of n

-- ---- cut after p words

module _ (board : Board) (g : Geometry) (fill : ℕ) (z : number_of (first_of (sizes_checks board g)) ≡ 0) where
  lent : Lent g (old_board board)
  lent = sizes_lent board g z

  size : length board.memory ≡ 8 * long_words g
  size = long_size board g lent

  fine : outside g ≡ false
  unfolding format_number
  fine = (sizes_passed (old_board board) g [] (ap number_of (sym (sizes_are board g)) ∙ z)).0

  abbrev after : ℕ → List ℕ
  after p = lay (take p (long_format_list g fill)) board.memory

  -- one word: only the first header word is touched
  after_one : without (after 1) ≡ without board.memory
  unfolding lay
  after_one = (format_left g fill board.memory size 0).same ∙ sym (old_part g board.memory size)

  until_mark : (p : ℕ) → 2 ≤ p → p < 8 * g.blocks + g.slots + 11 → OldAnswers g (after p) 10
  until_mark zero h k = absurd (omega (arith, h))
  until_mark (suc zero) h k = absurd (omega (arith, h))
  until_mark (suc (suc q)) h k =
      let left = format_left g fill board.memory size (suc q) in
      let parts = parts_of g board.memory size in
      no_checkpoint_lem g (after (suc (suc q))) fine (without-length (after (suc (suc q))) ∙ (let e : length (after (suc (suc q))) - 16 ≡ 8 * memory_words g = omega (arith, left.size) in e))
      (ap (λ (part : List ℕ). number (word part (mark_start g))) left.same ∙ cut_mark g fill parts.old parts.old_length q (omega (arith, old_words g fill, k)))

  from_mark : (p : ℕ) → 8 * g.blocks + g.slots + 11 ≤ p → RecoversTo g (formatted fill).kept (without (after p))
  from_mark p h =
      let left = left_from_mark board g fill p z (omega (arith, old_words g fill, h)) in
      subst (RecoversTo g (formatted fill).kept) (sym left.same) (good_recovers g _ (formatted fill) (afresh_good board g fill z))

  headless : (p : ℕ) → p < length (long_format_list g fill) → 1 ≤ p → NewAnswers g (after p) 13
  headless zero k h = absurd (omega (arith, h))
  headless (suc q) k h =
      no_header g (after (suc q)) fine (format_left g fill board.memory size q).size (format_missing g fill board.memory size q (omega (arith, long_length g fill, k)))

  pub cut_after_lem : (p : ℕ) → p < length (long_format_list g fill) → CutAfter p g fill board (cut p board (long_format_list g fill) (formatted_side board g)).board
  unfolding lay
  cut_after_lem p h = record {
    at_0 = λ e. ap after e;
    at_1 = λ e. ap (λ (n : ℕ). without (after n)) e ∙ after_one;
    until_mark = until_mark p;
    from_mark = from_mark p;
    no_header = headless p h;
    off = refl;
    new_sizes = refl;
    cache = refl;
    table = refl;
  }

pub cut_format : CutFormat
unfolding CutFormat number_of
cut_format p board g fill = go (call p board (format g fill)) (format_ends p board g fill)
  where
    go : (o : Outcome) → Ends p board (first_of (sizes_checks board g)) (long_format_list g fill) (formatted_side board g) o → number_of o.number ≡ 20 → CutAfter p g fill board o.board
    go o (refused ne) e = absurd (sizes_uncut board g e)
    go o (finished z enough) e = absurd (suc-ne-zero 19 (sym e))
    go o (stopped z h) e = cut_after_lem board g fill z p h
