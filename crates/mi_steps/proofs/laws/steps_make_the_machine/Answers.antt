use Rattle.mi_steps.proofs.FollowLemmas.{after_follows}
use Rattle.mi_steps.proofs.laws.steps_make_the_machine.Goals as goal

pub returns : goal.returns
returns c files m n h i ts f = after_follows files m n h i ts f
