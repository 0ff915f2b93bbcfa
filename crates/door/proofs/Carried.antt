-- The door adds nothing to the board: lent a board's bytes, it leaves the bytes of what the board's own call leaves.
use mathlib.Core.Path.{◌≡◌, refl, sym, ap, ◌∙◌}
use mathlib.Core.Bool.{Bool, true, false, cond}
use mathlib.Core.List.{[]}
use Prim.Native.Nat.{ℕ, ◌*◌}
use native.Mathlib.Omega.{arith}
use lib.Dec.{eqb}
use lib.ListN.{length}
use borrow.Author.Tests.{eqb-true, eqb-false, eq-eqb, ne_eqb}
use Rattle.words.specs.Words.{number_bytes}
use Rattle.words.proofs.Makers.{length-number_bytes}
use Rattle.rules.specs.declared.Geometry.{Geometry}
use Rattle.rules.specs.declared.Number.{Number}
use Rattle.rules.specs.declared.Number.TheVariants as No
use Rattle.rules.specs.Board.{Board, cache_of, table_of}
use Rattle.rules.specs.Numbers as N
use Rattle.rules.specs.Power.{guard, settle, Outcome}
use Rattle.rules.specs.Loads as L
use Rattle.rules.specs.Stores as S
use Rattle.rules.specs.Checkpoints as K
use Rattle.rules.specs.Sweeps as W
use Rattle.rules.specs.Starts as B
use Rattle.rules.specs.Calls as C
use Rattle.codec.specs.Encoding.{encoded}
use Rattle.codec.specs.Supposed.{supposed, is_record}
use Rattle.codec.specs.Promises.{DecodesBack, Ninety, TableBack}
use Rattle.codec.proofs.Inverse.{decodes_back, ninety}
use Rattle.codec.proofs.WordBytes.{table_back}
use Rattle.tabled.specs.Tabled.{table_words, changes}
use Rattle.door.specs.Doors as D
use Rattle.door.specs.Promises.{Fitting, as_bytes, Carried}
use Rattle.tabled.proofs.Tables.{words_are}
use Rattle.door.proofs.Through.{goes_on, refused_early, refused_stays}

-- ---- every call of the board begins with 1 GEOMETRY and 2 BUFFER

-- what a refusal leaves
abbrev refusal : Number → Board → Outcome
refusal n board = record { number = n; words = 0; gives = []; board = board }

abbrev sizes : Board → C.Call → Geometry
sizes board x = D.sizes_for x board.volatile.controller

geometry_refused : (p : ℕ) (board : Board) (x : C.Call) → N.outside (sizes board x) ≡ true → C.call p board x ≡ refusal No.Geometry board
unfolding C.call C.plan settle guard D.sizes_for N.first_of N.number_of N.common_checks L.load_plan L.load_number L.peek_plan L.peek_number S.store_plan S.store_by S.store_number K.begin_plan K.begin_number K.step_plan K.step_number B.format_plan B.format_number B.recover_plan B.recover_number W.sweep_plan W.sweep_number
geometry_refused p board (C.load block offset len) e = rw e
geometry_refused p board (C.peek block) e = rw e
geometry_refused p board (C.store block offset bytes) e = rw e
geometry_refused p board (C.begin registers) e = rw e
geometry_refused p board (C.step n) e = rw e
geometry_refused p board (C.format g fill) e = rw e
geometry_refused p board (C.recover g) e = rw e
geometry_refused p board (C.sweep limit) e = rw e

buffer_refused : (p : ℕ) (board : Board) (x : C.Call) → N.outside (sizes board x) ≡ false → N.inexact (sizes board x) board ≡ true → C.call p board x ≡ refusal No.Buffer board
unfolding C.call C.plan settle guard D.sizes_for N.first_of N.number_of N.common_checks L.load_plan L.load_number L.peek_plan L.peek_number S.store_plan S.store_by S.store_number K.begin_plan K.begin_number K.step_plan K.step_number B.format_plan B.format_number B.recover_plan B.recover_number W.sweep_plan W.sweep_number
buffer_refused p board (C.load block offset len) o e = rw (o, e)
buffer_refused p board (C.peek block) o e = rw (o, e)
buffer_refused p board (C.store block offset bytes) o e = rw (o, e)
buffer_refused p board (C.begin registers) o e = rw (o, e)
buffer_refused p board (C.step n) o e = rw (o, e)
buffer_refused p board (C.format g fill) o e = rw (o, e)
buffer_refused p board (C.recover g) o e = rw (o, e)
buffer_refused p board (C.sweep limit) o e = rw (o, e)

-- ---- a board's bytes

eight : (a b : ℕ) → eqb (8 * a) (8 * b) ≡ eqb a b
eight a b = go (eqb a b) refl
  where
    go : (t : Bool) → eqb a b ≡ t → eqb (8 * a) (8 * b) ≡ eqb a b
    go true e = eq-eqb (8 * a) (8 * b) (ap (λ (k : ℕ). 8 * k) (eqb-true a b e)) ∙ sym e
    go false e = ne_eqb (8 * a) (8 * b) (λ z. eqb-false a b e (omega (arith, z))) ∙ sym e

module _ (board : Board) (g : Geometry) where
  exact_alike : D.inexact g (length board.memory) (length (cache_of board)) (length (number_bytes (table_of board))) ≡ N.inexact g board
  unfolding D.inexact N.inexact
  exact_alike =
      let t : eqb (length (number_bytes (table_of board))) (8 * g.slots) ≡ eqb (length (table_of board)) g.slots =
      ap (λ (k : ℕ). eqb k (8 * g.slots)) (length-number_bytes (table_of board)) ∙ eight (length (table_of board)) g.slots in
      rw t

module _ (p : ℕ) (board : Board) (x : C.Call) (fit : Fitting board) where
  record_back : (is_record (encoded board.volatile.controller) ≡ true) × (supposed (encoded board.volatile.controller) ≡ board.volatile.controller)
  unfolding DecodesBack
  record_back = decodes_back board.volatile.controller fit.controller

  words_back : table_words (number_bytes (table_of board)) ≡ table_of board
  unfolding TableBack
  words_back = sym (words_are (number_bytes (table_of board)) (length (table_of board)) (length-number_bytes (table_of board))) ∙ table_back (table_of board) fit.words

  board_back : D.board_in (D.bytes_of board) (supposed (D.bytes_of board).record_bytes) ≡ board
  unfolding D.bytes_of
  board_back = rw (record_back.1, words_back)

  recorded : (y : C.Call) → D.no_record y (encoded board.volatile.controller) ≡ false
  unfolding D.no_record Ninety
  recorded (C.load block offset len) = rw record_back.0
  recorded (C.peek block) = rw record_back.0
  recorded (C.store block offset bytes) = rw record_back.0
  recorded (C.begin registers) = rw record_back.0
  recorded (C.step n) = rw record_back.0
  recorded (C.format g fill) = rw record_back.0
  recorded (C.recover g) = rw (ninety board.volatile.controller fit.controller)
  recorded (C.sweep limit) = rw record_back.0

  abbrev sized : Geometry
  sized = D.sizes_for x board.volatile.controller

  early_is : D.early x (D.bytes_of board) ≡ cond (N.outside sized) 1 (cond (N.inexact sized board) 2 0)
  unfolding D.early D.sizes_number N.number_of D.bytes_of
  early_is = rw (recorded x, record_back.1, exact_alike board sized)

  -- the board's own outcome as bytes
  left_is : (b : Bool) → changes (C.call p board x).number ≡ b → D.left_by (D.bytes_of board) (C.call p board x) ≡ as_bytes (C.call p board x)
  unfolding D.left_by
  left_is true e = rw e
  left_is false e = rw (e, refused_stays p board x e)

  cases : (o i : Bool) → N.outside sized ≡ o → N.inexact sized board ≡ i → D.door p (D.bytes_of board) x ≡ as_bytes (C.call p board x)
  unfolding N.number_of
  cases true i eo ei =
      refused_early p (D.bytes_of board) x {n = 1} (sym (early_is ∙ (rw eo))) (λ z. omega (arith, z)) ∙ sym (ap as_bytes (geometry_refused p board x eo))
  cases false true eo ei =
      refused_early p (D.bytes_of board) x {n = 2} (sym (early_is ∙ (rw (eo, ei)))) (λ z. omega (arith, z)) ∙ sym (ap as_bytes (buffer_refused p board x eo ei))
  cases false false eo ei =
      goes_on p (D.bytes_of board) x {n = 0} (sym (early_is ∙ (rw (eo, ei)))) refl
      ∙ ap (λ (b : Board). D.left_by (D.bytes_of board) (C.call p b x)) board_back
      ∙ left_is (changes (C.call p board x).number) refl

pub carried : Carried
unfolding Carried
carried p board x fit = cases p board x fit (N.outside (D.sizes_for x board.volatile.controller)) (N.inexact (D.sizes_for x board.volatile.controller) board) refl refl
