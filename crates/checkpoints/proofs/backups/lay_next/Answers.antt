use mathlib.Core.Path.{ap, ◌∙◌}
use mathlib.Core.List.{map}
use Prim.Native.Nat.{ℕ, ◌-◌}
use lib.ListN.{length-map}
use Rattle.rules.specs.TableWords.{changed}
use Rattle.rules.specs.Checkpoints.{saved}
use Rattle.checkpoints.proofs.Lists.{lays_backup}
use borrow.Author.Rules.{rules}
use Rattle.checkpoints.proofs.backups.lay_next.Goals as goal

pub returns : goal.returns
returns c =
    let a = c.args in
    let r = c.requires in
    let t = map (changed saved) a.table.now in
    let next = c.other-backup.result in
    rw (← c.other-backup.ensures) (lays_backup a.controller.geometry next _ _ _ a.controller.registers t c.backup_start-start.ensures (ap (λ (z : ℕ). z - c.backup_start-start.result) c.mark_start.ensures) c.from.ensures a.memory.now r.0 (length-map a.table.now (changed saved) ∙ r.1) a.count a.words (search rules) c.lay_words.ensures)
