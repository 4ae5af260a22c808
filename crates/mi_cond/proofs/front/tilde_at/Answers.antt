use Rattle.mi_cond.proofs.FrontLaws.{tilde_is, tilde_dies}
use Rattle.mi_cond.proofs.front.tilde_at.Goals as goal

pub returns-in-Some : goal.returns-in-Some
returns-in-Some c = tilde_is c.in-Some.relation c.args.rest.now c.comparison_at.result c.in-Some.ensures.0 c.in-Some.ensures.1 c.comparison_at.ensures

pub returns-in-None : goal.returns-in-None
returns-in-None c = tilde_dies c.args.rest.now c.requires c.in-None.ensures
