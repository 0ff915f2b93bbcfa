-- A block stored word by word: what is laid after k words, and what a word that is still to be read holds.
use mathlib.Core.Path.{◌≡◌, refl, sym, ap, ◌∙◌, subst}
use mathlib.Core.List.{List, [], ◌∷◌}
use Prim.Native.Nat.{ℕ, zero, suc, ◌+◌, ◌*◌, ◌-◌, ◌≤◌, ◌<◌, min}
use native.Mathlib.Omega.{arith}
use native.Mathlib.Nat.{zero-add}
use lib.ListN.{length, get_or, take, drop, length-drop}
use lib.Seq.{drop-drop, get_or-take, get_or-drop}
use Rattle.words.specs.Words.{word, block_at, put, Store, lay, bytes_to, Lays}
use Rattle.words.proofs.All.{all_map}
use Rattle.words.proofs.Lists.{Misses, lay-length, untouched}
use Rattle.words.proofs.Makers.{bytes_to_laid, take-bytes_to}
use Rattle.words.proofs.Blocks.{length_block, block_part}
use Rattle.words.proofs.Laying.{one_more}
use Rattle.rules.specs.declared.Window.{Window}
use Rattle.rules.specs.Stores.{replaced, window_to}
use Rattle.rules.proofs.Replaced.{length-replaced}
use Rattle.merges.specs.Ranges.{Next, ahead}
use Rattle.merges.proofs.Merged.{same_word, length-word, byte_of_word}

-- ---- one word more

-- the store at position k of a run
store_at : (n k place : ℕ) (bytes : List ℕ) → k < n → take 1 (drop k (bytes_to place n bytes)) ≡ record { place = place + k; bytes = word bytes k } ∷ []
unfolding bytes_to word
store_at zero k place bytes h = absurd (omega arith)
store_at (suc n) zero place bytes h = let e : place ≡ place + 0 = omega arith in ap (λ (z : ℕ). record { place = z; bytes = take 8 bytes } ∷ []) e
store_at (suc n) (suc k) place bytes h =
    let e : suc place + k ≡ place + suc k = omega arith in
    let f : 8 + 8 * k ≡ 8 * suc k = omega arith in
    store_at n k (suc place) (drop 8 bytes) (omega arith)
    ∙ ap (λ (z : ℕ). record { place = z; bytes = take 8 (drop (8 * k) (drop 8 bytes)) } ∷ []) e
    ∙ ap (λ (z : List ℕ). record { place = place + suc k; bytes = take 8 z } ∷ []) (drop-drop (8 * k) 8 bytes ∙ ap (λ (z : ℕ). drop z bytes) f)

-- ---- the visible word

-- eight bytes of a part, as the word of a block there
pub visible_word : (part : List ℕ) (q k : ℕ) → 64 * q + 64 ≤ length part → k < 8 → take 8 (drop (64 * q + 8 * k) part) ≡ word (block_at part q) k
unfolding word
visible_word part q k r h =
    let e : 64 * q + 8 * k ≡ 8 * (8 * q + k) = omega arith in
    ap (λ (z : ℕ). take 8 (drop z part)) e
    ∙ same_word (word part (8 * q + k)) (block_at part q) k (length-word part (8 * q + k) (omega arith)) (omega (arith, length_block part q r))
    (λ i l.
    let f : 8 * (8 * q + k) + i ≡ 64 * q + (8 * k + i) = omega arith in
    byte_of_word part (8 * q + k) i l
    ∙ ap (λ (z : ℕ). get_or part z 0) f
    ∙ sym (ap (λ (z : List ℕ). get_or z (8 * k + i) 0) (block_part part q) ∙ get_or-take 64 (drop (64 * q) part) (8 * k + i) 0 (omega arith) ∙ get_or-drop (64 * q) part (8 * k + i) 0))

-- ---- words stored one after the other

module _ (memory fresh : List ℕ) (place n : ℕ) (sized : 8 * n ≤ length fresh) (room : 8 * (place + n) ≤ length memory) where
  -- the memory when k words are stored
  abbrev pub built : ℕ → List ℕ
  built k = lay (take k (bytes_to place n fresh)) memory

  run : (k : ℕ) → k ≤ n → take k (bytes_to place n fresh) ≡ bytes_to place k fresh
  run k h = let e : min k n ≡ k = omega arith in take-bytes_to n k place fresh ∙ ap (λ (z : ℕ). bytes_to place z fresh) e

  pub built_length : (k : ℕ) → k ≤ n → length (built k) ≡ length memory
  built_length k h =
      ap (λ (z : List Store). length (lay z memory)) (run k h)
      ∙ lay-length (bytes_to place k fresh) memory (bytes_to_laid k place fresh (length memory) (omega arith) (omega arith)).fits

  pub built_more : (k : ℕ) {part part' : List ℕ} → k < n → part ≡ built k → part' ≡ put part (place + k) (word fresh k) → part' ≡ built (k + 1)
  unfolding lay
  built_more k h e f =
      f
      ∙ ap (λ (z : List ℕ). put z (place + k) (word fresh k)) e
      ∙ sym (ap (λ (z : List Store). lay z (built k)) (ap (λ (z : ℕ). take 1 (drop z (bytes_to place n fresh))) (zero-add k) ∙ store_at n k place fresh h))
      ∙ one_more (bytes_to place n fresh) 0 k memory

  pub built_all : (p : ℕ) {count : ℕ} {part : List ℕ} → count ≡ min p n → part ≡ built count → Lays p (bytes_to place n fresh) memory part n
  built_all p {count} {part} e f =
      record {
        words = sym (bytes_to_laid n place fresh (length memory) (omega arith) (omega arith)).count;
        bytes = f
            ∙ ap built e
            ∙ ap (λ (z : List Store). lay z memory) (run (min p n) (omega arith) ∙ sym (take-bytes_to n p place fresh));
      }

  -- the words from the next one on are as they were
  built_unread : (k i : ℕ) → k ≤ n → (i < place + k → i < place) → word (built k) i ≡ word memory i
  unfolding Misses
  built_unread k i h out =
      let laid = bytes_to_laid k place fresh (length memory) (omega arith) (omega arith) in
      ap (λ (z : List Store). word (lay z memory) i) (run k h)
      ∙ untouched (bytes_to place k fresh) memory i laid.fits
      (all_map (λ s t q. let b = out (omega (arith, t.high)) in omega (arith, b, t.low)) laid.inside)

  -- a word of a block is read before it is stored
  pub built_read : (from k j : ℕ) {part : List ℕ} → part ≡ built j → j ≤ n → k < 8 → (8 * from + k < place + j → 8 * from + k < place) → 64 * from + 64 ≤ length memory
      → take 8 (drop (64 * from + 8 * k) part) ≡ word (block_at memory from) k
  unfolding word
  built_read from k j e h low out r =
      let f : 64 * from + 8 * k ≡ 8 * (8 * from + k) = omega arith in
      ap (λ (z : List ℕ). take 8 (drop (64 * from + 8 * k) z)) e
      ∙ ap (λ (z : ℕ). take 8 (drop z (built j))) f
      ∙ built_unread j (8 * from + k) h out
      ∙ sym (ap (λ (z : ℕ). take 8 (drop z memory)) f)
      ∙ visible_word memory from k r low

-- ---- the walk over the words of a new block

-- the words of a window from some byte on
word-drop : (bytes : List ℕ) (a k : ℕ) → word (drop (8 * a) bytes) k ≡ word bytes (a + k)
unfolding word
word-drop bytes a k =
    let e : 8 * a + 8 * k ≡ 8 * (a + k) = omega arith in
    ap (λ (z : List ℕ). take 8 z) (drop-drop (8 * k) (8 * a) bytes ∙ ap (λ (z : ℕ). drop z bytes) e)

-- the words of the window before word k of the new block are stored, and the range goes on at `next`
pub record Merging (memory block : List ℕ) (offset : ℕ) (bytes : List ℕ) (to : ℕ) (window : Window) (part : List ℕ) (next k : ℕ) : Type 0 where
  pub from : window.first ≤ k
  pub size : length part ≡ length memory
  pub reaches : Next offset (offset + length bytes) (8 * k) next
  pub laid : part ≡ lay (take (k - window.first) (window_to to window (replaced block offset bytes))) memory

module _ (memory block : List ℕ) (offset : ℕ) (bytes : List ℕ) (to : ℕ) (window : Window) (sized : length block ≡ 64) (fits : offset + length bytes ≤ 64)
    (early : 8 * window.first ≤ offset) (few : window.first + window.count ≤ 8) (room : 64 * to + 64 ≤ length memory) where
  abbrev fresh : List ℕ
  fresh = replaced block offset bytes

  abbrev rest : List ℕ
  rest = drop (8 * window.first) fresh

  abbrev place : ℕ
  place = 8 * to + window.first

  rest_length : 8 * window.count ≤ length rest
  rest_length = simp length-drop (omega (arith, length-replaced block offset bytes (omega arith)))

  inside : 8 * (place + window.count) ≤ length memory
  inside = omega arith

  pub merging_starts : Merging memory block offset bytes to window memory offset window.first
  unfolding lay
  merging_starts =
      let e : 0 ≡ window.first - window.first = omega arith in
      record {
        from = omega arith;
        size = refl;
        reaches = ahead early refl;
        laid = ap (λ (z : ℕ). lay (take z (window_to to window fresh)) memory) e;
      }

  pub merging_more : (k : ℕ) {part part' : List ℕ} {next next' : ℕ} → k < window.first + window.count → Merging memory block offset bytes to window part next k
      → Next offset (offset + length bytes) (8 * k + 8) next' → part' ≡ put part (8 * to + k) (word fresh k)
      → Merging memory block offset bytes to window part' next' (k + 1)
  unfolding window_to
  merging_more k {part} {next' = next'} h m n f =
      let j : ℕ = k - window.first in
      let e : 8 * k + 8 ≡ 8 * (k + 1) = omega arith in
      let at : 8 * to + k ≡ place + j = omega (arith, m.from) in
      let from : window.first + j ≡ k = omega (arith, m.from) in
      let more : j + 1 ≡ k + 1 - window.first = omega (arith, m.from) in
      let stored = f
      ∙ ap (λ (z : ℕ). put part z (word fresh k)) at
      ∙ ap (put part (place + j)) (sym (word-drop fresh window.first j ∙ ap (word fresh) from))
      in
      let q = built_more memory rest place window.count rest_length inside j (omega (arith, m.from)) m.laid stored in
      record {
        from = omega (arith, m.from);
        size = ap length q ∙ built_length memory rest place window.count rest_length inside (j + 1) (omega (arith, m.from));
        reaches = subst (λ (z : ℕ). Next offset (offset + length bytes) z next') e n;
        laid = q ∙ ap (λ (z : ℕ). lay (take z (window_to to window fresh)) memory) more;
      }

  pub merging_all : (p : ℕ) {end next : ℕ} {part : List ℕ} → end ≡ window.first + min p window.count → Merging memory block offset bytes to window part next end
      → Lays p (window_to to window fresh) memory part window.count
  unfolding window_to
  merging_all p {end} e m =
      let count : end - window.first ≡ min p window.count = omega arith in
      built_all memory rest place window.count rest_length inside p count m.laid

  -- a word at a distance of whole blocks is read before it is stored
  pub merging_unread : (from k : ℕ) {part : List ℕ} {next : ℕ} → k < window.first + window.count → 64 * from + 64 ≤ length memory
      → Merging memory block offset bytes to window part next k → take 8 (drop (64 * from + 8 * k) part) ≡ word (block_at memory from) k
  unfolding window_to
  merging_unread from k h r m =
      built_read memory rest place window.count rest_length inside from k (k - window.first) m.laid (omega (arith, m.from)) (omega arith)
      (λ o. omega (arith, o, m.from)) r
