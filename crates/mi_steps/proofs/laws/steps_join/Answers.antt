use Rattle.mi_steps.proofs.FollowLemmas.{joined}
use Rattle.mi_steps.proofs.laws.steps_join.Goals as goal

pub returns : goal.returns
returns c files a b d h i j ts us first second = joined files a b d h i j ts us first second
