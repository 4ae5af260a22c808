use Rattle.mi_base.specs.System.{default_system}
use Rattle.mi_world.proofs.system.default_pairs.Goals as goal

pub returns : goal.returns
unfolding default_system
returns c = c.in_ok-pairs.ensures
