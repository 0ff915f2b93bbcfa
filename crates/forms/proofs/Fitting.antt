-- A board fitted in the wrong panel is refused; a recovery is accepted exactly where the header fits and the old form's is; a refusal changes nothing.
use mathlib.Core.Path.{◌≡◌, refl, sym, ap, ◌∙◌, subst}
use mathlib.Core.Logic.{◌≢◌, ◌↔◌, ◌⊎◌, inl, inr}
use mathlib.Core.Bool.{Bool, true, false}
use mathlib.Core.List.{List, [], ◌∷◌, ◌++◌}
use Prim.Native.Nat.{ℕ, ◌*◌, ◌-◌}
use native.Mathlib.Omega.{arith}
use native.Mathlib.Nat.{suc-ne-zero}
use lib.ListN.{length, take, drop}
use lib.Seq.{take_all}
use Rattle.words.specs.Words.{word, words}
use Rattle.words.proofs.Makers.{words_part}
use Rattle.rules.specs.declared.Geometry.{Geometry}
use Rattle.rules.specs.declared.Number.{Number}
use Rattle.rules.specs.declared.Number.TheVariants as No
use Rattle.rules.specs.Board.{Board}
use Rattle.rules.specs.Numbers.{number_of, Check, ◌⇒◌, first_of, outside}
use Rattle.rules.specs.Power.{Plan, carry, guard, Outcome, settle}
use Rattle.rules.specs.Starts.{formatted_side, finished_in, recover_from}
use Rattle.rules.specs.Calls as Old
use Rattle.rules.proofs.Answers.{Nothing_changed, settled_refused, guard_accepted}
use Rattle.rules.proofs.Answers as Answers
use Rattle.rules.proofs.Checked.{bounds}
use Rattle.checks.proofs.Passed.{stop_front, go_on}
use Rattle.forms.specs.declared.Header.{Header}
use Rattle.forms.specs.declared.Header.TheVariants.{Missing, Fits, Other}
use Rattle.forms.specs.Stored.{header_bytes, header_start, long_words, zero_word, header_of, without, last_two, old_board, zeros_to}
use Rattle.forms.specs.Calls.{long_inexact, sizes_checks, header_checks, headed_number, long_format_list, format_plan, recover_plan, up_list, up_plan, back_plan, Call, old, format, recover, up, back, call}
use Rattle.forms.specs.Runs.{shortened}
use Rattle.forms.specs.Promises.{TwoBytes, OneHeader, Reads, recovers, moves_up, moves_back, OnlyItsPanel, HeaderNumbers, RecoversExactly, RefusedKeeps}
use Rattle.forms.proofs.HeaderBytes.{says_missing, first_not_zero, one_header, word_of_two, says_fits, says_other, Says, missing, fits, other, says, header_length}
use Rattle.forms.proofs.Checking.{header_passes, missing_stops, other_stops, sizes_refuse, last_checks, headed_is, headed}
use Rattle.forms.proofs.Recovering.{recover_same}
use Rattle.forms.proofs.Following.{split, guard_refuses}
use Rattle.forms.proofs.Starting.{sizes_lent, long_size}

-- ---- the wrong panel

-- the header of a memory that ends in another board's
other_header : (g h : Geometry) (memory : List ℕ) → TwoBytes g → TwoBytes h → last_two memory ≡ header_bytes g → h ≢ g → length memory ≡ 8 * long_words h → header_of h memory ≡ Other
unfolding last_two OneHeader
other_header g h memory two two' last ne size =
    let place : length memory - 16 ≡ 8 * header_start h = omega (arith, size) in
    let found : words memory (header_start h) 2 ≡ header_bytes g =
    words_part memory 2 (header_start h)
    ∙ ap (λ (n : ℕ). take 16 (drop n memory)) (sym place)
    ∙ ap (take 16) last
    ∙ sixteen g
    in
    says_other h memory
    (λ zero. first_not_zero g (sym (word_of_two memory (header_start h) ∙ ap (take 8) found) ∙ zero))
    (λ these. ne (sym (one_header g h two two' (sym found ∙ these))))
  where
    sixteen : (g : Geometry) → take 16 (header_bytes g) ≡ header_bytes g
    sixteen g = take_all 16 (header_bytes g) (omega (arith, header_length g))

wrong_board : (needed : Bool) (board : Board) (h : Geometry) → header_of h board.memory ≡ Other
    → number_of (first_of (header_checks needed (header_of h board.memory) ++ last_checks board h)) ≡ 14
unfolding number_of
wrong_board needed board h e =
    ap (λ (header : Header). number_of (first_of (header_checks needed header ++ last_checks board h))) e
    ∙ ap number_of (stop_front (header_checks needed Other) (last_checks board h) (λ z. suc-ne-zero 13 (ap number_of (other_stops needed) ∙ z)) ∙ sym (other_stops needed))

-- GEOMETRY, BUFFER or WRONG BOARD: the checks that come before any other
wrong_number : (needed : Bool) (board : Board) (g h : Geometry) → TwoBytes g → last_two board.memory ≡ header_bytes g → h ≢ g
    → let n = number_of (headed_number needed board h) in (n ≡ 1) ⊎ ((n ≡ 2) ⊎ (n ≡ 14))
unfolding headed_number first_of number_of
wrong_number needed board g h two last ne = go (outside h) refl (long_inexact h board) refl
  where
    rest : List Check
    rest = header_checks needed (header_of h board.memory) ++ last_checks board h

    go : (a : Bool) → outside h ≡ a → (b : Bool) → long_inexact h board ≡ b
        → let n = number_of (first_of ((outside h ⇒ No.Geometry) ∷ (long_inexact h board ⇒ No.Buffer) ∷ rest)) in (n ≡ 1) ⊎ ((n ≡ 2) ⊎ (n ≡ 14))
    go true e b f = inl (rw e)
    go false e true f = inr (inl (rw (e, f)))
    go false e false f =
        let z : number_of (first_of (sizes_checks board h)) ≡ 0 = rw (e, f) in
        let small = bounds h e in
        let two' : TwoBytes h = record { blocks = (let k = small.blocks_high in omega (arith, k)); slots = (let k = small.slots_high in omega (arith, k)) } in
        let q = wrong_board needed board h (other_header g h board.memory two two' last ne (long_size board h (sizes_lent board h z))) in
        inr (inr (rw (e, f) q))

-- a refusal is the answer
refused_number : (p : ℕ) (board : Board) (n : Number) (q : Plan) → number_of n ≢ 0 → (settle p board (guard n q)).number ≡ n
refused_number p board n q ne = ap (λ (o : Outcome). o.number) (guard_refuses p board n q ne)

module _ (p : ℕ) (board : Board) (g h : Geometry) (two : TwoBytes g) (last : last_two board.memory ≡ header_bytes g) (ne : h ≢ g) where
  behind : (needed : Bool) (q : Plan) → let n = number_of (settle p board (guard (headed_number needed board h) q)).number in (n ≡ 1) ⊎ ((n ≡ 2) ⊎ (n ≡ 14))
  behind needed q =
      let w = wrong_number needed board g h two last ne in
      subst (λ (n : Number). (number_of n ≡ 1) ⊎ ((number_of n ≡ 2) ⊎ (number_of n ≡ 14))) (sym (refused_number p board (headed_number needed board h) q (not_zero w))) w
    where
      not_zero : {n : ℕ} → (n ≡ 1) ⊎ ((n ≡ 2) ⊎ (n ≡ 14)) → n ≢ 0
      not_zero (inl e) z = omega (arith, e, z)
      not_zero (inr (inl e)) z = omega (arith, e, z)
      not_zero (inr (inr e)) z = omega (arith, e, z)

  pub wrong_panel : (c : Call) → Reads h c → let n = number_of (call p board c).number in (n ≡ 1) ⊎ ((n ≡ 2) ⊎ (n ≡ 14))
  unfolding call recover_plan up_plan back_plan
  wrong_panel c recovers = behind true (recover_from (old_board board) h (finished_in h (without board.memory)))
  wrong_panel c moves_up = behind false (carry (up_list h (header_of h board.memory)) board.volatile [])
  wrong_panel c moves_back = behind true (carry (zeros_to h) board.volatile [])

pub only_its_panel : OnlyItsPanel
unfolding OnlyItsPanel
only_its_panel p board g h c two last ne r = wrong_panel p board g h two last ne c r

-- ---- 13 and 14

-- a format has the checks of sizes and lengths and no others
format_number_lem : (p : ℕ) (board : Board) (g : Geometry) (n : Number) → first_of (sizes_checks board g) ≡ n → number_of n ≢ 0 → (call p board (format g 0)).number ≡ n
unfolding call format_plan
format_number_lem p board g n e ne =
    let list = carry (long_format_list g 0) (formatted_side board g) [] in
    ap (λ (z : Number). (settle p board (guard z list)).number) e ∙ refused_number p board n list ne

sizes_pass : (p : ℕ) (board : Board) (g : Geometry) → number_of (call p board (format g 0)).number ≢ 1 → number_of (call p board (format g 0)).number ≢ 2
    → number_of (first_of (sizes_checks board g)) ≡ 0
unfolding first_of number_of
sizes_pass p board g a b = go (outside g) refl (long_inexact g board) refl
  where
    go : (x : Bool) → outside g ≡ x → (y : Bool) → long_inexact g board ≡ y → number_of (first_of (sizes_checks board g)) ≡ 0
    go true e y f = absurd (a (ap number_of (format_number_lem p board g No.Geometry (rw e) (suc-ne-zero 0))))
    go false e true f = absurd (b (ap number_of (format_number_lem p board g No.Buffer (rw (e, f)) (suc-ne-zero 1))))
    go false e false f = rw (e, f)

pub missing_number : (board : Board) (g : Geometry) → number_of (first_of (sizes_checks board g)) ≡ 0 → word board.memory (header_start g) ≡ zero_word → headed_number true board g ≡ No.NoHeader
unfolding number_of
missing_number board g z first =
    let last = last_checks board g in
    headed_is true board g
    ∙ go_on (header_checks true (header_of g board.memory) ++ last) (sizes_refuse board g) z
    ∙ ap (λ (header : Header). first_of (header_checks true header ++ last)) (says_missing g board.memory first)
    ∙ stop_front (header_checks true Missing) last (λ e. suc-ne-zero 12 (ap number_of missing_stops ∙ e))
    ∙ sym missing_stops

other_number : (needed : Bool) (board : Board) (g : Geometry) → number_of (first_of (sizes_checks board g)) ≡ 0 → header_of g board.memory ≡ Other
    → number_of (headed_number needed board g) ≡ 14
other_number needed board g z e =
    ap number_of (headed_is needed board g ∙ go_on (header_checks needed (header_of g board.memory) ++ last_checks board g) (sizes_refuse board g) z) ∙ wrong_board needed board g e

module _ (p : ℕ) (board : Board) (g : Geometry) (z : number_of (first_of (sizes_checks board g)) ≡ 0) where
  answers : (needed : Bool) (q : Plan) (n : ℕ) → number_of (headed_number needed board g) ≡ n → n ≢ 0 → number_of (settle p board (guard (headed_number needed board g) q)).number ≡ n
  answers needed q n e ne = ap number_of (refused_number p board (headed_number needed board g) q (λ none. ne (sym e ∙ none))) ∙ e

  pub answers_13 : word board.memory (header_start g) ≡ zero_word → (number_of (call p board (recover g)).number ≡ 13) × (number_of (call p board (back g)).number ≡ 13)
  unfolding call recover_plan back_plan number_of
  answers_13 first =
      let e = ap number_of (missing_number board g z first) in (
        answers true (recover_from (old_board board) g (finished_in g (without board.memory))) 13 e (suc-ne-zero 12),
        answers true (carry (zeros_to g) board.volatile []) 13 e (suc-ne-zero 12),
      )

  pub answers_14 : header_of g board.memory ≡ Other → (c : Call) → Reads g c → number_of (call p board c).number ≡ 14
  unfolding call recover_plan up_plan back_plan
  answers_14 o c recovers = answers true (recover_from (old_board board) g (finished_in g (without board.memory))) 14 (other_number true board g z o) (suc-ne-zero 13)
  answers_14 o c moves_up = answers false (carry (up_list g (header_of g board.memory)) board.volatile []) 14 (other_number false board g z o) (suc-ne-zero 13)
  answers_14 o c moves_back = answers true (carry (zeros_to g) board.volatile []) 14 (other_number true board g z o) (suc-ne-zero 13)

pub header_numbers : HeaderNumbers
unfolding HeaderNumbers
header_numbers p board g a b =
    let z = sizes_pass p board g a b in
    (answers_13 p board g z, λ ne ne' c r. answers_14 p board g z (says_other g board.memory ne ne') c r)

-- ---- exactly where

module _ (p : ℕ) (board : Board) (g : Geometry) where
  -- 13 and 14 passed, the header fits
  header_found : number_of (first_of (header_checks true (header_of g board.memory))) ≡ 0 → words board.memory (header_start g) 2 ≡ header_bytes g
  unfolding number_of
  header_found = go (header_of g board.memory) (says g board.memory)
    where
      go : (header : Header) → Says g board.memory header → number_of (first_of (header_checks true header)) ≡ 0 → words board.memory (header_start g) 2 ≡ header_bytes g
      go Missing (missing z) e = absurd (suc-ne-zero 12 (ap number_of missing_stops ∙ e))
      go Fits (fits h) e = h
      go Other (other a b) e = absurd (suc-ne-zero 13 (ap number_of (other_stops true) ∙ e))

  pub header_of_lem : number_of (call p board (recover g)).number ≡ 0 → number_of (first_of (header_checks true (header_of g board.memory))) ≡ 0
  unfolding call recover_plan
  header_of_lem e =
      (headed true board g (guard_accepted p board (headed_number true board g) (recover_from (old_board board) g (finished_in g (without board.memory))) e).0).header

  pub exactly : ((number_of (call p board (recover g)).number ≡ 0)
      ↔ ((words board.memory (header_start g) 2 ≡ header_bytes g) × (number_of (Old.call p (old_board board) (Old.recover g)).number ≡ 0)))
      × (number_of (call p board (recover g)).number ≡ 0 → shortened (call p board (recover g)) ≡ Old.call p (old_board board) (Old.recover g))
  exactly = (
    (
      λ e. (header_found (header_of_lem e), ap (λ (o : Outcome). number_of o.number) (sym (recover_same p board g (header_of_lem e))) ∙ e),
      λ t. ap (λ (o : Outcome). number_of o.number) (recover_same p board g (header_passes true g board.memory (says_fits g board.memory t.0))) ∙ t.1,
    ),
    λ e. recover_same p board g (header_of_lem e),
  )

pub recovers_exactly : RecoversExactly
unfolding RecoversExactly
recovers_exactly p board g = exactly p board g

-- ---- refusals

beside_same : (p : ℕ) (board : Board) (c : Old.Call) → Nothing_changed (old_board board) (Old.call p (old_board board) c) → (call p board (old c)).board ≡ board
unfolding call
beside_same p board c same =
    ap (λ (b : Board). record { memory = b.memory ++ last_two board.memory; volatile = b.volatile }) same.same
    ∙ ap (λ (memory : List ℕ). record { memory = memory; volatile = board.volatile }) (split board.memory)

pub refused_keeps : RefusedKeeps
unfolding RefusedKeeps call
refused_keeps p board (old c) a b = let s = Answers.refused p (old_board board) c a b in (beside_same p board c s, s.no_words, s.no_bytes)
refused_keeps p board (format g fill) a b = let s = settled_refused p board (format_plan board g fill) a b in (s.same, s.no_words, s.no_bytes)
refused_keeps p board (recover g) a b = let s = settled_refused p board (recover_plan board g) a b in (s.same, s.no_words, s.no_bytes)
refused_keeps p board (up g) a b = let s = settled_refused p board (up_plan board g) a b in (s.same, s.no_words, s.no_bytes)
refused_keeps p board (back g) a b = let s = settled_refused p board (back_plan board g) a b in (s.same, s.no_words, s.no_bytes)
