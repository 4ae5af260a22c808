use Rattle.mi_steps.proofs.RowLemmas.{phase_planned}
use Rattle.mi_steps.proofs.laws.rows_are_planned.Goals as goal

pub returns : goal.returns
returns c files w effect now had has effects is all = phase_planned files effect w now had has effects is all
