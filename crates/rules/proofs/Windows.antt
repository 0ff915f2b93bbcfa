-- The words that a store's bytes touch, laid where the block shows, leave what all 8 leave (document 02, No. 5).
use mathlib.Core.Path.{◌≡◌, sym, ap, ◌∙◌}
use mathlib.Core.List.{List}
use Prim.Native.Nat.{ℕ, ◌+◌, ◌*◌, ◌-◌, ◌≤◌, ◌<◌}
use native.Mathlib.Omega.{arith}
use native.Mathlib.Decide.{dec_lt}
use lib.ListN.{length, get_or, take, drop, length-take, length-drop}
use lib.Seq.{length-take-le, get_or-take, get_or-drop, ext_get_or, paste}
use Rattle.words.specs.Words.{block_at, Store, lay, bytes_to}
use Rattle.words.proofs.Makers.{Laid, bytes_to_laid}
use Rattle.words.proofs.Laying.{bytes_to-paste}
use Rattle.words.proofs.Blocks.{length_block, block_part}
use Rattle.rules.specs.declared.Window.{Window}
use Rattle.rules.specs.Stores.{replaced, all, touched, window_to}
use Rattle.rules.proofs.Replaced.{before_range, in_range, behind_range, length-replaced}

-- a window that has every word of the range
pub record Covers (offset len : ℕ) (window : Window) : Type 0 where
  pub low : 8 * window.first ≤ offset
  pub high : offset + len ≤ 8 * (window.first + window.count)
  pub few : window.first + window.count ≤ 8

pub all_covers : (offset len : ℕ) → offset + len ≤ 64 → Covers offset len all
all_covers offset len h = record { low = omega arith; high = omega arith; few = omega arith }

pub touched_covers : (offset len : ℕ) → offset + len ≤ 64 → Covers offset len (touched offset len)
unfolding touched
touched_covers offset len h = record { low = omega arith; high = omega arith; few = omega arith }

-- the stores of a window lie in its block
pub window_stores : (q size : ℕ) (window : Window) (fresh : List ℕ) → window.first + window.count ≤ 8 → length fresh ≡ 64 → 64 * q + 64 ≤ size
    → Laid (8 * q + window.first) window.count size (window_to q window fresh)
unfolding window_to
window_stores q size window fresh few e h =
    bytes_to_laid window.count (8 * q + window.first) (drop (8 * window.first) fresh) size (simp length-drop (omega arith)) (omega arith)

-- all 8 words are the stores of the block
pub window_all : (q : ℕ) (fresh : List ℕ) → window_to q all fresh ≡ bytes_to (8 * q) 8 fresh
unfolding window_to
window_all q fresh = let e : 8 * q + 0 ≡ 8 * q = omega arith in ap (λ (z : ℕ). bytes_to z 8 fresh) e

-- bytes pasted, as a range replaced
pasted : (memory : List ℕ) (start : ℕ) (bytes : List ℕ) (n : ℕ) → n ≤ length bytes → paste memory start bytes n ≡ replaced memory start (take n bytes)
unfolding replaced
pasted memory start bytes n h = rw (length-take-le n bytes h)

module _ (memory : List ℕ) (q offset : ℕ) (bytes : List ℕ) (room : 64 * q + 64 ≤ length memory) (fits : offset + length bytes ≤ 64) where
  abbrev block : List ℕ
  block = block_at memory q

  abbrev fresh : List ℕ
  fresh = replaced block offset bytes

  -- the memory with the bytes of the range replaced, and nothing else
  abbrev after : List ℕ
  after = replaced memory (64 * q + offset) bytes

  inside : offset + length bytes ≤ length block
  inside = omega (arith, length_block memory q room)

  reached : (64 * q + offset) + length bytes ≤ length memory
  reached = omega arith

  size : length fresh ≡ 64
  size = length-replaced block offset bytes inside ∙ length_block memory q room

  block_byte : (i : ℕ) → i < 64 → get_or block i 0 ≡ get_or memory (64 * q + i) 0
  block_byte i h = ap (λ (z : List ℕ). get_or z i 0) (block_part memory q) ∙ get_or-take 64 (drop (64 * q) memory) i 0 h ∙ get_or-drop (64 * q) memory i 0

  fresh_byte : (i : ℕ) → i < 64 → get_or fresh i 0 ≡ get_or after (64 * q + i) 0
  fresh_byte i h = elim (dec_lt i offset) [ yes b ↦ front b | no b ↦ elim (dec_lt i (offset + length bytes)) [ yes s ↦ middle (omega arith) s | no s ↦ back (omega arith) ] ]
    where
      front : i < offset → get_or fresh i 0 ≡ get_or after (64 * q + i) 0
      front b = before_range block offset bytes inside i b ∙ block_byte i h ∙ sym (before_range memory (64 * q + offset) bytes reached (64 * q + i) (omega arith))

      middle : offset ≤ i → i < offset + length bytes → get_or fresh i 0 ≡ get_or after (64 * q + i) 0
      middle b s =
          let e : i - offset ≡ 64 * q + i - (64 * q + offset) = omega arith in
          in_range block offset bytes inside i b s
          ∙ ap (λ (z : ℕ). get_or bytes z 0) e
          ∙ sym (in_range memory (64 * q + offset) bytes reached (64 * q + i) (omega arith) (omega arith))

      back : offset + length bytes ≤ i → get_or fresh i 0 ≡ get_or after (64 * q + i) 0
      back s = behind_range block offset bytes inside i s ∙ block_byte i h ∙ sym (behind_range memory (64 * q + offset) bytes reached (64 * q + i) (omega arith))

  module _ (window : Window) (covers : Covers offset (length bytes) window) where
    abbrev start : ℕ
    start = 8 * (8 * q + window.first)

    abbrev laid : List ℕ
    laid = take (8 * window.count) (drop (8 * window.first) fresh)

    laid-length : length laid ≡ 8 * window.count
    laid-length = simp (length-take, length-drop) (omega (arith, size, covers.few))

    laid_fits : start + length laid ≤ length memory
    laid_fits = omega (arith, laid-length, covers.few)

    laid_byte : (i : ℕ) → get_or (replaced memory start laid) i 0 ≡ get_or after i 0
    laid_byte i = elim (dec_lt i start) [ yes b ↦ front b | no b ↦ elim (dec_lt i (start + length laid)) [ yes s ↦ middle (omega arith) s | no s ↦ back (omega arith) ] ]
      where
        front : i < start → get_or (replaced memory start laid) i 0 ≡ get_or after i 0
        front b =
            before_range memory start laid laid_fits i b
            ∙ sym (before_range memory (64 * q + offset) bytes reached i (omega (arith, covers.low)))

        middle : start ≤ i → i < start + length laid → get_or (replaced memory start laid) i 0 ≡ get_or after i 0
        middle b s =
            let e : 64 * q + (8 * window.first + (i - start)) ≡ i = omega arith in
            in_range memory start laid laid_fits i b s
            ∙ get_or-take (8 * window.count) (drop (8 * window.first) fresh) (i - start) 0 (omega (arith, laid-length))
            ∙ get_or-drop (8 * window.first) fresh (i - start) 0
            ∙ fresh_byte (8 * window.first + (i - start)) (omega (arith, laid-length, covers.few))
            ∙ ap (λ (z : ℕ). get_or after z 0) e

        back : start + length laid ≤ i → get_or (replaced memory start laid) i 0 ≡ get_or after i 0
        back s =
            behind_range memory start laid laid_fits i s
            ∙ sym (behind_range memory (64 * q + offset) bytes reached i (omega (arith, laid-length, covers.high)))

    pub window_laid : lay (window_to q window fresh) memory ≡ after
    unfolding window_to
    window_laid =
        bytes_to-paste window.count (8 * q + window.first) (drop (8 * window.first) fresh) memory
        (simp length-drop (omega (arith, size, covers.few))) (omega (arith, covers.few))
        ∙ pasted memory start (drop (8 * window.first) fresh) (8 * window.count) (simp length-drop (omega (arith, size, covers.few)))
        ∙ ext_get_or 0 (replaced memory start laid) after
        (length-replaced memory start laid laid_fits ∙ sym (length-replaced memory (64 * q + offset) bytes reached)) (λ i h. laid_byte i)

  -- where the block shows, such a window leaves what all 8 words leave
  pub window_whole : (window : Window) → Covers offset (length bytes) window → lay (window_to q window fresh) memory ≡ lay (bytes_to (8 * q) 8 fresh) memory
  window_whole window covers =
      window_laid window covers
      ∙ sym (window_laid all (all_covers offset (length bytes) fits))
      ∙ ap (λ (z : List Store). lay z memory) (window_all q fresh)
