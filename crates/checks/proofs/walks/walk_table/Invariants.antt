use Rattle.std.proofs.Common.{◌≡◌, true, ℕ, ◌*◌, ◌^◌, ◌≤◌, length, sum_by, take}
use Rattle.rules.specs.TableWords.{every}
use Rattle.rules.specs.Numbers.{well_formed, allows}
use Rattle.rules.specs.declared.Geometry.{Geometry}
use Rattle.checks.specs.Forms.{margin_of, all_formed}
use Rattle.checks.specs.Tables.{allowed_while}
use Rattle.checks.proofs.walks.walk_table.Given as goal

-- the words so far are gathered, and their numbers fit and are summed
abbrev pub invariant-loop-word : goal.invariant-loop-word
invariant-loop-word g l = record {
  gathered : (h : Geometry) → 1 ≤ h.blocks → h.blocks ≤ 4096 → l.added ≡ margin_of h → all_formed l.flawed l.seen ≡ every (well_formed (allowed_while l.writing) h) (take l.word-index l.table);
  few : l.total * length l.table ≤ l.word-index * 2 ^ 63;
  summed : (f : ℕ → ℕ) → ((word n : ℕ) → well_formed (allows l.fn.phase) l.fn.g word ≡ true → goal.F-post g l.number word n → n ≡ f word) → every (well_formed (allows l.fn.phase) l.fn.g) (take l.word-index l.table) ≡ true → l.total ≡ sum_by f (take l.word-index l.table);
}
