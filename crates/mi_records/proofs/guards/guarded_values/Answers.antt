-- The values of rows, and the counts.
use Rattle.mi_records.proofs.guards.guarded_values.Goals as goal

pub returns : goal.returns
returns g c = λ w asked. c.in_ok-add_counts.ensures w asked (c.in_ok-set.ensures w asked)
