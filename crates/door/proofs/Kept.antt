-- What a refused and a cut call keep of what was lent.
use mathlib.Core.Path.{◌≡◌, refl, sym, ap, ◌∙◌}
use mathlib.Core.Logic.{◌≢◌}
use mathlib.Core.Bool.{Bool, true, false, ◌||◌, cond}
use Prim.Native.Nat.{ℕ, ◌*◌}
use native.Mathlib.Omega.{arith}
use lib.Dec.{eqb, leb}
use lib.ListN.{length}
use borrow.Author.Tests.{eqb-true, eqb-false, ne_eqb}
use Rattle.words.specs.Words.{number_bytes}
use Rattle.rules.specs.Board.{Board, cache_of, table_of}
use Rattle.rules.specs.Numbers.{number_of}
use Rattle.rules.specs.Power.{Plan, refuse, carry, settle, Outcome, whole, cut}
use Rattle.rules.specs.Calls.{Call, plan, call}
use Rattle.rules.proofs.Answers as R
use Rattle.codec.specs.Supposed.{supposed}
use Rattle.codec.specs.Promises.{Bytes, TableBytesBack}
use Rattle.codec.proofs.WordBytes.{table_bytes_back}
use Rattle.tabled.specs.Tabled.{table_words, changes}
use Rattle.door.specs.Doors as D
use Rattle.door.specs.Promises.{RefusedKeeps, CutKeeps}
use Rattle.door.proofs.Sizes.{whole_table}
use Rattle.tabled.proofs.Tables.{words_are}
use Rattle.door.proofs.Through.{goes_on, refused_early}

-- ---- refused

not_changing : (n : ℕ) → n ≢ 0 → n ≢ 20 → eqb n 0 || eqb n 20 ≡ false
not_changing n a b = rw (ne_eqb n 0 a, ne_eqb n 20 b)

module _ (p : ℕ) (lent : D.Lent) (x : Call) where
  abbrev o : Outcome
  o = call p (D.board_in lent (supposed lent.record_bytes)) x

  pub refused_left : number_of o.number ≢ 0 → number_of o.number ≢ 20 → D.left_by lent o ≡ D.refused (number_of o.number) lent
  unfolding D.left_by changes
  refused_left a b =
      let same = R.refused p (D.board_in lent (supposed lent.record_bytes)) x a b in
      rw (not_changing (number_of o.number) a b, same.no_words, same.no_bytes)

  keeps : (b : Bool) → eqb (D.early x lent) 0 ≡ b → (D.door p lent x).number ≢ 0 → (D.door p lent x).number ≢ 20
      → D.door p lent x ≡ D.refused (D.door p lent x).number lent
  unfolding D.left_by
  keeps true e a b =
      let is = goes_on p lent x refl (eqb-true (D.early x lent) 0 e) in
      let n : (D.door p lent x).number ≡ number_of o.number = ap (λ (z : D.Left). z.number) is in
      is ∙ refused_left (λ z. a (n ∙ z)) (λ z. b (n ∙ z)) ∙ ap (λ (k : ℕ). D.refused k lent) (sym n)
  keeps false e a b =
      let is = refused_early p lent x refl (eqb-false (D.early x lent) 0 e) in
      is ∙ ap (λ (k : ℕ). D.refused k lent) (sym (ap (λ (z : D.Left). z.number) is))

pub refused_keeps : RefusedKeeps
unfolding RefusedKeeps
refused_keeps p lent x a b =
    let is = keeps p lent x (eqb (D.early x lent) 0) refl a b in
    (ap (λ (z : D.Left). z.lent) is, ap (λ (z : D.Left). z.words) is, ap (λ (z : D.Left). z.gives) is)

-- ---- cut

-- a call of the board that is cut leaves CACHE and the table
pub record Volatile_kept (board after : Board) : Type 0 where
  pub cache : cache_of after ≡ cache_of board
  pub table : table_of after ≡ table_of board

cut_plan : (p : ℕ) (board : Board) (q : Plan) → number_of (settle p board q).number ≡ 20 → Volatile_kept board (settle p board q).board
unfolding settle number_of
cut_plan p board (refuse n) e = record { cache = refl; table = refl }
cut_plan p board (carry stores after gives) e = either (leb (length stores) p) e
  where
    out : Bool → Outcome
    out t = cond t (whole board stores after gives) (cut p board stores after)

    either : (t : Bool) → number_of (out t).number ≡ 20 → Volatile_kept board (out t).board
    either true z = absurd (omega (arith, z))
    either false z = record { cache = refl; table = refl }

cut_keeps_board : (p : ℕ) (board : Board) (x : Call) → number_of (call p board x).number ≡ 20 → Volatile_kept board (call p board x).board
unfolding call
cut_keeps_board p board x e = cut_plan p board (plan board x) e

-- sizes and lengths that pass
early_passed : (x : Call) (lent : D.Lent) → D.early x lent ≡ 0
    → D.sizes_number (D.sizes_for x (supposed lent.record_bytes)) (length lent.memory) (length lent.cache) (length lent.table_bytes) ≡ 0
unfolding D.early
early_passed x lent e = go (D.no_record x lent.record_bytes) e
  where
    n : ℕ
    n = D.sizes_number (D.sizes_for x (supposed lent.record_bytes)) (length lent.memory) (length lent.cache) (length lent.table_bytes)

    go : (b : Bool) → cond b 12 n ≡ 0 → n ≡ 0
    go true z = absurd (omega (arith, z))
    go false z = z

module _ (p : ℕ) (lent : D.Lent) (x : Call) (below : Bytes lent.table_bytes) where
  table_back : D.early x lent ≡ 0 → number_bytes (table_words lent.table_bytes) ≡ lent.table_bytes
  unfolding TableBytesBack
  table_back e =
      let g = D.sizes_for x (supposed lent.record_bytes) in
      let size : length lent.table_bytes ≡ 8 * g.slots = whole_table g (length lent.memory) (length lent.cache) (length lent.table_bytes) (early_passed x lent e) in
      ap number_bytes (sym (words_are lent.table_bytes g.slots size)) ∙ table_bytes_back lent.table_bytes g.slots below size

  cut_cases : (b : Bool) → eqb (D.early x lent) 0 ≡ b → (D.door p lent x).number ≡ 20
      → ((D.door p lent x).lent.cache ≡ lent.cache) × ((D.door p lent x).lent.table_bytes ≡ lent.table_bytes)
  unfolding D.left_by changes D.bytes_of
  cut_cases true e z =
      let none = eqb-true (D.early x lent) 0 e in
      let is = goes_on p lent x refl none in
      let out : Outcome = call p (D.board_in lent (supposed lent.record_bytes)) x in
      let n : number_of out.number ≡ 20 = sym (ap (λ (l : D.Left). l.number) is) ∙ z in
      let changing : eqb (number_of out.number) 0 || eqb (number_of out.number) 20 ≡ true = rw n in
      let left : (D.left_by lent out).lent ≡ D.bytes_of out.board = rw changing in
      let kept = cut_keeps_board p (D.board_in lent (supposed lent.record_bytes)) x n in
      let bytes : (D.door p lent x).lent ≡ D.bytes_of out.board = ap (λ (l : D.Left). l.lent) is ∙ left in
      (ap (λ (l : D.Lent). l.cache) bytes ∙ kept.cache, ap (λ (l : D.Lent). l.table_bytes) bytes ∙ ap number_bytes kept.table ∙ table_back none)
  cut_cases false e z =
      let is = refused_early p lent x refl (eqb-false (D.early x lent) 0 e) in
      (ap (λ (l : D.Left). l.lent.cache) is, ap (λ (l : D.Left). l.lent.table_bytes) is)

pub cut_keeps : CutKeeps
unfolding CutKeeps
cut_keeps p lent x below z = cut_cases p lent x below (eqb (D.early x lent) 0) refl z
