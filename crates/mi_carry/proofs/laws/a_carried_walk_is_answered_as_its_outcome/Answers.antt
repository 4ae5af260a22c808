use Rattle.mi_carry.proofs.WalkLemmas.{same_kind, same_reached}
use Rattle.mi_carry.proofs.laws.a_carried_walk_is_answered_as_its_outcome.Goals as goal

pub returns-clause-kind : goal.returns-clause-kind
returns-clause-kind c files g names plans refusal p = same_kind files g names plans refusal p

pub returns-clause-reached : goal.returns-clause-reached
returns-clause-reached c files g names plans refusal p = same_reached files g names plans refusal p
