use Rattle.std.specs.Prelude.{Option}
use mathlib.Core.Path.{ap, ◌∙◌}
use Rattle.rules.specs.declared.Entry.{Entry}
use Rattle.rules.specs.TableWords.{lowest_free}
use Rattle.rules.specs.Stores.{slot_for, full}
use Rattle.stores.proofs.Planned.{full_said}
use Rattle.stores.proofs.full.Goals as goal

pub returns : goal.returns
returns c =
    let s = c.seat_for.ensures in
    full_said c.seat_for.result.slot c.is_none.result c.is_none.ensures
    ∙ ap full (s.1 ∙ ap (λ (found : Option Entry). slot_for found (lowest_free c.args.table.now)) s.0)
