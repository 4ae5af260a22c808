use Rattle.mi_cost.proofs.WholeLemmas.{costs_the_same}
use Rattle.mi_cost.proofs.laws.scripts_cost_what_the_walk_needs.Goals as goal

pub returns : goal.returns
returns c files m parts plans plain are have = costs_the_same files m parts plans plain are have
