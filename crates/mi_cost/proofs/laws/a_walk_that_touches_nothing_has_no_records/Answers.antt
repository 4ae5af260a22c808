use Rattle.mi_cost.proofs.IdleLemmas.{nothing_is_written}
use Rattle.mi_cost.proofs.laws.a_walk_that_touches_nothing_has_no_records.Goals as goal

pub returns : goal.returns
returns c files m parts plans plain are nothing = nothing_is_written files m parts plans plain are nothing
