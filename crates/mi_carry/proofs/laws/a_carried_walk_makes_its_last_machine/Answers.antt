use Rattle.mi_carry.proofs.WalkLemmas.{last_map}
use Rattle.mi_carry.proofs.laws.a_carried_walk_makes_its_last_machine.Goals as goal

pub returns : goal.returns
returns c files g names plans refusal F p is = last_map files g names plans refusal F p is
