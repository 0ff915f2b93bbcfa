-- The plain machine that a board must look like: live blocks, kept blocks and registers, a checkpoint on its way.
use Rattle.std.specs.Prelude.{Bool, false, ◌||◌, cond, List, [], ◌∷◌, ℕ, zero, suc, eqb, replicate, Option, None, Some}
use Rattle.words.specs.Words.{Store, block_at}
use Rattle.rules.specs.declared.Geometry.{Geometry}
use Rattle.rules.specs.declared.Backup.{Backup}
use Rattle.rules.specs.Geometry.{mark_start}
use Rattle.rules.specs.Starts.{finished_in, saved_registers, table_in, saved_block}
use Rattle.rules.specs.Calls.{Call, load, peek, store, begin, step, format, recover, sweep}

-- every block, and the registers or their absence
pub record Picture : Type 0 where
  pub blocks : ℕ → List ℕ
  pub registers : Option (List ℕ)

pub record Plain : Type 0 where
  -- what loads give
  pub live : ℕ → List ℕ
  -- what a recovery gives
  pub kept : Picture
  -- what stood when the checkpoint that is on its way was begun
  pub on_its_way : Option Picture

-- after a format every block is fill and there are no registers; it counts as the first checkpoint
unfoldable pub formatted : ℕ → Plain
formatted fill = record {
  live = λ block. replicate 64 fill;
  kept = record { blocks = λ block. replicate 64 fill; registers = None };
  on_its_way = None;
}

-- what a backup saves of a memory: every block at its saved place, and the registers or their absence
unfoldable pub saved_in : Geometry → List ℕ → Backup → Picture
unfolding saved_block table_in saved_registers block_at
saved_in g memory backup = record {
  blocks = λ block. block_at memory (saved_block g (table_in g memory backup) block);
  registers = saved_registers g memory backup;
}

-- after the recovery of a memory of which nothing was known: what its finished backup saves
unfoldable pub opened_from : Geometry → List ℕ → Option Backup → Option Plain
unfolding saved_in
opened_from g memory None = None
opened_from g memory (Some backup) =
    Some (record { live = (saved_in g memory backup).blocks; kept = saved_in g memory backup; on_its_way = None })

unfoldable pub opened : Geometry → List ℕ → Option Plain
unfolding opened_from finished_in
opened g memory = opened_from g memory (finished_in g memory)

-- a block with bytes laid over it from an offset on: those bytes there, and every other byte as it was
unfoldable pub laid_over : List ℕ → List ℕ → List ℕ
laid_over block [] = block
laid_over [] (x ∷ bytes) = []
laid_over (b ∷ block) (x ∷ bytes) = x ∷ laid_over block bytes

unfoldable pub overlaid : List ℕ → ℕ → List ℕ → List ℕ
unfolding laid_over
overlaid block zero bytes = laid_over block bytes
overlaid [] (suc offset) bytes = []
overlaid (b ∷ block) (suc offset) bytes = b ∷ overlaid block offset bytes

unfoldable pub update : (ℕ → List ℕ) → ℕ → List ℕ → ℕ → List ℕ
update blocks block new k = cond (eqb k block) new (blocks k)

-- what a call does to the plain machine, by the paper's number of its answer
unfoldable pub did : Plain → Call → ℕ → Plain
unfolding update overlaid
did plain (load block offset len) n = plain
did plain (peek block) n = plain
did plain (store block offset bytes) zero =
    record { live = update plain.live block (overlaid (plain.live block) offset bytes); kept = plain.kept; on_its_way = plain.on_its_way }
did plain (store block offset bytes) (suc n) = plain
did plain (begin registers) zero =
    record { live = plain.live; kept = plain.kept; on_its_way = Some (record { blocks = plain.live; registers = Some registers }) }
did plain (begin registers) (suc n) = plain
did plain (step count) n = plain
did plain (format g fill) n = plain
did plain (recover g) zero = record { live = plain.kept.blocks; kept = plain.kept; on_its_way = None }
did plain (recover g) (suc n) = plain
-- no load changes
did plain (sweep limit) n = plain

-- ---- a checkpoint is finished when its mark word is stored

unfoldable pub has_mark : Geometry → List Store → Bool
has_mark g [] = false
has_mark g (s ∷ stores) = eqb s.place (mark_start g) || has_mark g stores

unfoldable pub kept_or : Picture → Option Picture → Picture
kept_or kept None = kept
kept_or kept (Some picture) = picture

unfoldable pub finish : Plain → Plain
unfolding kept_or
finish plain = record { live = plain.live; kept = kept_or plain.kept plain.on_its_way; on_its_way = None }

-- the plain machine after a call that was answered with the number n and stored these words
unfoldable pub note : Geometry → Plain → Call → ℕ → List Store → Plain
unfolding did has_mark finish
note g plain c n stores = cond (has_mark g stores) (finish (did plain c n)) (did plain c n)
