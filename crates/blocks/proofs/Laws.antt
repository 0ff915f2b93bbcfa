-- Parts of parts, and the bytes of the part where a block shows.
use mathlib.Core.Path.{◌≡◌, sym, ap, ◌∙◌}
use mathlib.Core.List.{List}
use Prim.Native.Nat.{ℕ, ◌+◌, ◌*◌, ◌-◌, ◌≤◌}
use native.Mathlib.Omega.{arith}
use lib.ListN.{length, take, drop}
use lib.Seq.{drop-drop}
use denote.Ref.{Bor}
use Rattle.words.specs.Words.{block_at}
use Rattle.words.proofs.Blocks.{block_part, length_block}
use Rattle.words.proofs.Parts.{tail_part}
use Rattle.rules.specs.declared.Geometry.{Geometry}
use Rattle.rules.specs.declared.State.{State}
use Rattle.rules.specs.declared.Place.{Place}
use Rattle.rules.specs.Loads.{Spot, in_memory, in_cache, shows, spot_in, block_in}
use Rattle.blocks.specs.Shown.{PartOf, Shown}

-- block i of the part from byte `start` on is block q of the whole
pub part_of_tail : (r s s' : Bor (List ℕ)) (q i start : ℕ) → start + 64 * i ≡ 64 * q → s'.ref_ptr.0 ≡ s.ref_ptr.0 → s'.ref_ptr.1 ≡ s.ref_ptr.1 + start
    → s'.now ≡ take (length s.now - start) (drop start s.now) → PartOf r s' (64 * i) 64 → PartOf r s (64 * q) 64
part_of_tail r s s' q i start x e f h p =
    record {
      object = p.object ∙ e;
      offset = p.offset ∙ (omega arith);
      bytes = p.bytes ∙ (rw (h, tail_part start s.now, drop-drop (64 * i) start s.now, x));
    }

pub part_block : {r s : Bor (List ℕ)} (q : ℕ) → PartOf r s (64 * q) 64 → r.now ≡ block_at s.now q
part_block {r} {s} q p = p.bytes ∙ sym (block_part s.now q)

pub shown_bytes : (r memory cache : Bor (List ℕ)) (spot : Spot) → Shown r memory cache spot → r.now ≡ block_in memory.now cache.now spot
unfolding Shown block_in
shown_bytes r memory cache (in_memory q) h = part_block q h
shown_bytes r memory cache (in_cache q) h = part_block q h

-- ---- copying from the part of a block

pub part_length : {r s : Bor (List ℕ)} (q : ℕ) → 64 * q + 64 ≤ length s.now → PartOf r s (64 * q) 64 → length r.now ≡ 64
part_length {r} {s} q h p = ap (λ (z : List ℕ). length z) (part_block q p) ∙ length_block s.now q h

pub copied : {r s : Bor (List ℕ)} {into' : List ℕ} (q n offset : ℕ) → PartOf r s (64 * q) 64 → into' ≡ take n (drop offset r.now)
    → into' ≡ take n (drop offset (block_at s.now q))
copied q n offset p e = e ∙ ap (λ (z : List ℕ). take n (drop offset z)) (part_block q p)

-- ---- where a block with an entry shows

pub shows_at : (g : Geometry) (block slot : ℕ) {place : Place} (state : State) (named : Place) → place ≡ shows state → place ≡ named
    → spot_in g block slot (shows state) ≡ spot_in g block slot named
shows_at g block slot state named e q = ap (spot_in g block slot) (sym e ∙ q)
