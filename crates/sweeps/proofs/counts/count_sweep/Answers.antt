use Rattle.std.proofs.Common.{◌∙◌, refl}
use Rattle.rules.specs.TableWords.{says}
use Rattle.rules.specs.SweepPromises.{one_if_clean}
use Rattle.sweeps.proofs.Entries.{clean_summed}
use Rattle.sweeps.proofs.counts.count_sweep.Goals as goal

pub returns-clause-counted : goal.returns-clause-counted
returns-clause-counted c =
    c.in_ok-entries.ensures.summed (λ word. one_if_clean (says word)) (λ word n formed post. post.1) _ refl ∙ clean_summed 0 c.args.table.now
