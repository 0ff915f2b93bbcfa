-- Blocks of a memory: 64 bytes from a multiple of 64, laid, read back, untouched by stores elsewhere.
use mathlib.Core.Path.{◌≡◌, ap, ◌∙◌}
use mathlib.Core.Logic.{◌≢◌}
use mathlib.Core.List.{List}
use Prim.Native.Nat.{ℕ, ◌+◌, ◌*◌, ◌≤◌, ◌<◌}
use native.Mathlib.Omega.{arith}
use lib.ListN.{length, take, drop}
use Rattle.words.specs.Words.{block_at, Store, lay, bytes_to}
use Rattle.words.proofs.All.{All, all_map}
use Rattle.words.proofs.Lists.{Fit, Misses, untouched}
use Rattle.words.proofs.Rising.{In}
use Rattle.words.proofs.Makers.{Laid, bytes_to_laid, words_laid, words_agree, length-words, words_part}

-- a store outside block q
unfoldable pub Clear : ℕ → Store → Type 0
Clear q s = 8 * q ≤ s.place → s.place < 8 * q + 8 → ⊥

pub clear_in : {stores : List Store} (q a : ℕ) → q ≢ a → All (In (8 * a) (8 * a + 8)) stores → All (Clear q) stores
unfolding Clear
clear_in q a ne = all_map (λ s i lo hi. ne (omega arith))

pub block_clear : (stores : List Store) (memory : List ℕ) (q : ℕ) → All (Fit (length memory)) stores → All (Clear q) stores
    → block_at (lay stores memory) q ≡ block_at memory q
unfolding block_at Clear Misses
block_clear stores memory q f c =
    words_agree memory (lay stores memory) 8 (8 * q) (λ j lo hi. untouched stores memory j f (all_map (λ s h e. h (omega arith) (omega arith)) c))

-- a block laid whole reads back
pub block_laid : (memory : List ℕ) (q : ℕ) (bytes : List ℕ) → length bytes ≡ 64 → 64 * q + 64 ≤ length memory
    → block_at (lay (bytes_to (8 * q) 8 bytes) memory) q ≡ bytes
unfolding block_at
block_laid memory q bytes e h = words_laid memory 8 (8 * q) bytes (omega arith) (omega arith)

-- the stores of a block
pub block_stores : (q size : ℕ) (bytes : List ℕ) → length bytes ≡ 64 → 64 * q + 64 ≤ size → Laid (8 * q) 8 size (bytes_to (8 * q) 8 bytes)
block_stores q size bytes e h = bytes_to_laid 8 (8 * q) bytes size (omega arith) (omega arith)

pub block_laid_other : (memory : List ℕ) (q a : ℕ) (bytes : List ℕ) → length bytes ≡ 64 → 64 * a + 64 ≤ length memory → q ≢ a
    → block_at (lay (bytes_to (8 * a) 8 bytes) memory) q ≡ block_at memory q
block_laid_other memory q a bytes e h ne =
    let run = block_stores a (length memory) bytes e h in
    block_clear (bytes_to (8 * a) 8 bytes) memory q run.fits (clear_in q a ne run.inside)

pub length_block : (memory : List ℕ) (q : ℕ) → 64 * q + 64 ≤ length memory → length (block_at memory q) ≡ 64
unfolding block_at
length_block memory q h = length-words memory 8 (8 * q) (omega arith)

-- a block is a part of the memory
pub block_part : (memory : List ℕ) (q : ℕ) → block_at memory q ≡ take 64 (drop (64 * q) memory)
unfolding block_at
block_part memory q = let e : 8 * (8 * q) ≡ 64 * q = omega arith in words_part memory 8 (8 * q) ∙ ap (λ (z : ℕ). take 64 (drop z memory)) e
