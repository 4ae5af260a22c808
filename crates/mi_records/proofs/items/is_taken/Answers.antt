use Rattle.std.proofs.Common.{◌∙◌}
use Rattle.mi_records.specs.Removing.{count_at}
use Rattle.mi_records.proofs.ItemLemmas.{less_there}
use Rattle.mi_records.proofs.items.is_taken.Goals as goal

pub returns-clause-less : goal.returns-clause-less
returns-clause-less c = λ q. c.in_ok-set.ensures q ∙ less_there (count_at c.args.counts.now) q c.args.item.now c.count_at-count.result c.count_at-count.ensures
