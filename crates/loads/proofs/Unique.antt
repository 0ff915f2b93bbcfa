-- Two results that the contracts of load, peek and peek's number allow for one input coincide.
use mathlib.Core.Path.{◌≡◌, sym, ◌∙◌}
use mathlib.Core.Bool.{Bool, true, false}
use mathlib.Core.List.{List}
use Prim.Native.Nat.{ℕ}
use lib.Dec.{eqb}
use denote.Ref.{Bor}
use Rattle.rules.specs.declared.Number.{Number}
use Rattle.rules.specs.Board.{Board, sizes, table_of}
use Rattle.rules.specs.TableWords.{lookup}
use Rattle.rules.specs.Numbers.{number_of}
use Rattle.rules.specs.Loads.{Spot, in_memory, in_cache, spot_of, peek_number}
use Rattle.blocks.specs.Shown.{PartOf, Shown}
use Rattle.loads.specs.Reading.{Loaded, PartIf, Peeked}

pub load_one : (board : Board) (block offset : ℕ) (into : List ℕ) (one two : List ℕ) (r s : Number)
    → Loaded board block offset into one r → Loaded board block offset into two s → (r ≡ s) × (one ≡ two)
load_one board block offset into one two r s a b = (a.number ∙ sym b.number, a.bytes ∙ sym b.bytes)

pub peek_number_one : (board : Board) (block : ℕ) (r s : Number) → r ≡ peek_number board block → s ≡ peek_number board block → r ≡ s
peek_number_one board block r s a b = a ∙ sym b

-- a reference up to the ghost name that it is given when it is made: where it points, and what is there
pub record Same (r s : Bor (List ℕ)) : Type 0 where
  pub address : r.ref_ptr ≡ s.ref_ptr
  pub bytes : r.now ≡ s.now

part_one : (r s whole : Bor (List ℕ)) (a n : ℕ) → PartOf r whole a n → PartOf s whole a n → Same r s
part_one r s whole a n p q = record {
  address = λ i. ((p.object ∙ sym q.object) i, (p.offset ∙ sym q.offset) i);
  bytes = p.bytes ∙ sym q.bytes;
}

shown_one : (r s memory cache : Bor (List ℕ)) (spot : Spot) → Shown r memory cache spot → Shown s memory cache spot → Same r s
unfolding Shown
shown_one r s memory cache (in_memory q) a b = part_one r s memory _ _ a b
shown_one r s memory cache (in_cache q) a b = part_one r s cache _ _ a b

part_if_one : (accepted : Bool) (r s memory cache : Bor (List ℕ)) (spot : Spot) → PartIf accepted r memory cache spot → PartIf accepted s memory cache spot → Same r s
unfolding PartIf
part_if_one true r s memory cache spot a b = shown_one r s memory cache spot a b
part_if_one false r s memory cache spot a b = part_one r s memory 0 0 a b

pub peek_one : (r s memory cache : Bor (List ℕ)) (board : Board) (block : ℕ) → Peeked r memory cache board block → Peeked s memory cache board block → Same r s
peek_one r s memory cache board block a b =
    part_if_one (eqb (number_of (peek_number board block)) 0) r s memory cache (spot_of (sizes board) block (lookup block (table_of board))) a.part b.part
