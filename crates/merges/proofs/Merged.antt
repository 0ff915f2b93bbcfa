-- The words of a new block, from the visible one and the bytes of the range.
use mathlib.Core.Path.{◌≡◌, sym, ap, ◌∙◌}
use mathlib.Core.List.{List, ◌++◌, append_assoc}
use Prim.Native.Nat.{ℕ, ◌+◌, ◌*◌, ◌-◌, ◌≤◌, ◌<◌, min}
use native.Mathlib.Omega.{arith}
use native.Mathlib.Decide.{dec_lt}
use lib.ListN.{length, get_or, take, drop, length-take, length-drop}
use lib.Seq.{take_all, drop-drop, get_or-take, get_or-drop, ext_get_or, paste}
use Rattle.words.specs.Words.{word, put}
use Rattle.rules.specs.Stores.{replaced}
use Rattle.rules.proofs.Replaced.{before_range, in_range, behind_range, length-replaced}
use Rattle.merges.proofs.Reaching.{Outside, before, behind, Reached}

-- ---- a word of a block

pub length-word : (block : List ℕ) (k : ℕ) → 8 * k + 8 ≤ length block → length (word block k) ≡ 8
unfolding word
length-word block k h = simp (length-take, length-drop) (omega arith)

pub byte_of_word : (block : List ℕ) (k i : ℕ) → i < 8 → get_or (word block k) i 0 ≡ get_or block (8 * k + i) 0
unfolding word
byte_of_word block k i h = get_or-take 8 (drop (8 * k) block) i 0 h ∙ get_or-drop (8 * k) block i 0

-- eight bytes are a word of a block where each of them is
pub same_word : (bytes block : List ℕ) (k : ℕ) → length bytes ≡ 8 → 8 * k + 8 ≤ length block
    → ((i : ℕ) → i < 8 → get_or bytes i 0 ≡ get_or block (8 * k + i) 0) → bytes ≡ word block k
same_word bytes block k e h same =
    ext_get_or 0 bytes (word block k) (e ∙ sym (length-word block k h)) (λ i l. same i (omega arith) ∙ sym (byte_of_word block k i (omega arith)))

-- ---- a word of the new block

module _ (block : List ℕ) (offset : ℕ) (bytes : List ℕ) (k : ℕ) (sized : length block ≡ 64) (fits : offset + length bytes ≤ 64) (below : k < 8) where
  abbrev fresh : List ℕ
  fresh = replaced block offset bytes

  inside : offset + length bytes ≤ length block
  inside = omega arith

  room : 8 * k + 8 ≤ length fresh
  room = omega (arith, length-replaced block offset bytes inside)

  -- the range lies behind the word, or before it
  pub word_ahead : 8 * k + 8 ≤ offset → word block k ≡ word fresh k
  word_ahead h =
      same_word (word block k) fresh k (length-word block k (omega arith)) room
      (λ i l. byte_of_word block k i l ∙ sym (before_range block offset bytes inside (8 * k + i) (omega arith)))

  pub word_past : offset + length bytes ≤ 8 * k → word block k ≡ word fresh k
  word_past h =
      same_word (word block k) fresh k (length-word block k (omega arith)) room
      (λ i l. byte_of_word block k i l ∙ sym (behind_range block offset bytes inside (8 * k + i) (omega arith)))

  -- the range covers the word
  pub word_covered : offset ≤ 8 * k → 8 * k + 8 ≤ offset + length bytes → take 8 (drop (8 * k - offset) bytes) ≡ word fresh k
  word_covered h l =
      same_word (take 8 (drop (8 * k - offset) bytes)) fresh k (simp (length-take, length-drop) (omega arith)) room
      (λ i b.
      let e : 8 * k - offset + i ≡ 8 * k + i - offset = omega arith in
      get_or-take 8 (drop (8 * k - offset) bytes) i 0 b
      ∙ get_or-drop (8 * k - offset) bytes i 0
      ∙ ap (λ (z : ℕ). get_or bytes z 0) e
      ∙ sym (in_range block offset bytes inside (8 * k + i) (omega arith) (omega arith)))

  -- the range reaches into the word, from its byte next - 8k to its byte stop - 8k
  module _ (next stop : ℕ) (from : 8 * k ≤ next) (starts : offset ≤ next) (order : next ≤ stop) (ends : stop ≤ 8 * k + 8) (reached : stop ≤ offset + length bytes)
      (first : 8 * k < next → next ≡ offset) (last : stop < 8 * k + 8 → stop ≡ offset + length bytes) where
    abbrev piece : List ℕ
    piece = take (stop - offset - (next - offset)) (drop (next - offset) bytes)

    piece_length : length piece ≡ stop - next
    piece_length = simp (length-take, length-drop) (omega arith)

    old_length : length (word block k) ≡ 8
    old_length = length-word block k (omega arith)

    piece_fits : (next - 8 * k) + length piece ≤ length (word block k)
    piece_fits = omega (arith, piece_length, old_length)

    byte_merged : (i : ℕ) → i < 8 → get_or (replaced (word block k) (next - 8 * k) piece) i 0 ≡ get_or fresh (8 * k + i) 0
    byte_merged i h = elim (dec_lt (8 * k + i) next) [ yes b ↦ front b | no b ↦ elim (dec_lt (8 * k + i) stop) [ yes s ↦ middle (omega arith) s | no s ↦ back (omega arith) ] ]
      where
        front : 8 * k + i < next → get_or (replaced (word block k) (next - 8 * k) piece) i 0 ≡ get_or fresh (8 * k + i) 0
        front b =
            let e : next ≡ offset = first (omega arith) in
            before_range (word block k) (next - 8 * k) piece piece_fits i (omega arith)
            ∙ byte_of_word block k i h
            ∙ sym (before_range block offset bytes inside (8 * k + i) (omega (arith, e)))

        middle : next ≤ 8 * k + i → 8 * k + i < stop → get_or (replaced (word block k) (next - 8 * k) piece) i 0 ≡ get_or fresh (8 * k + i) 0
        middle b s =
            let e : next - offset + (i - (next - 8 * k)) ≡ 8 * k + i - offset = omega arith in
            in_range (word block k) (next - 8 * k) piece piece_fits i (omega arith) (omega (arith, piece_length))
            ∙ get_or-take (stop - offset - (next - offset)) (drop (next - offset) bytes) (i - (next - 8 * k)) 0 (omega arith)
            ∙ get_or-drop (next - offset) bytes (i - (next - 8 * k)) 0
            ∙ ap (λ (z : ℕ). get_or bytes z 0) e
            ∙ sym (in_range block offset bytes inside (8 * k + i) (omega arith) (omega arith))

        back : stop ≤ 8 * k + i → get_or (replaced (word block k) (next - 8 * k) piece) i 0 ≡ get_or fresh (8 * k + i) 0
        back s =
            let e : stop ≡ offset + length bytes = last (omega arith) in
            behind_range (word block k) (next - 8 * k) piece piece_fits i (omega (arith, piece_length))
            ∙ byte_of_word block k i h
            ∙ sym (behind_range block offset bytes inside (8 * k + i) (omega (arith, e)))

    pub word_merged : replaced (word block k) (next - 8 * k) piece ≡ word fresh k
    word_merged =
        same_word (replaced (word block k) (next - 8 * k) piece) fresh k (length-replaced (word block k) (next - 8 * k) piece piece_fits ∙ old_length) room byte_merged

  -- the same, as the function that stores a word finds it
  pub word_outside : Outside offset (offset + length bytes) (8 * k) → word block k ≡ word fresh k
  word_outside (before h) = word_ahead h
  word_outside (behind h) = word_past h

  pub word_reached : (next stop : ℕ) → next < 8 * k + 8 → Reached offset (offset + length bytes) (8 * k) next → stop ≡ min (offset + length bytes) (8 * k + 8)
      → replaced (word block k) (next - 8 * k) (take (stop - offset - (next - offset)) (drop (next - offset) bytes)) ≡ word fresh k
  word_reached next stop h r e =
      word_merged next stop r.from r.starts (omega (arith, r.order)) (omega arith) (omega arith) r.first (λ l. omega arith)

-- ---- what the functions leave

-- what comes back of a word when its part of k bytes from `offset` was filled from the bytes
pub over_part : (kept bytes filled : List ℕ) (offset k : ℕ) → k ≡ length bytes → offset + length bytes ≤ length kept
    → filled ≡ take (length (take k (drop offset kept))) bytes
    → take offset kept ++ (filled ++ drop k (drop offset kept)) ≡ replaced kept offset bytes
unfolding replaced
over_part kept bytes filled offset k e h f =
    let size : length (take k (drop offset kept)) ≡ length bytes = (simp (length-take, length-drop) (omega arith)) in
    let all : filled ≡ bytes = f ∙ take_all (length (take k (drop offset kept))) bytes (omega arith) in
    let rest : drop k (drop offset kept) ≡ drop (offset + length bytes) kept = drop-drop k offset kept ∙ ap (λ (z : ℕ). drop (offset + z) kept) e in
    rw (all, rest) (sym (append_assoc (take offset kept) bytes (drop (offset + length bytes) kept)))

pub put_eight : (memory bytes : List ℕ) (place : ℕ) → length bytes ≡ 8 → paste memory (8 * place) bytes 8 ≡ put memory place bytes
unfolding put
put_eight memory bytes place e = ap (λ (z : List ℕ). take (8 * place) memory ++ z ++ drop (8 * place + 8) memory) (take_all 8 bytes (omega arith))
