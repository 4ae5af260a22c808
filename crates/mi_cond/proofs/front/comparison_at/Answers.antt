use Rattle.mi_cond.proofs.FrontLaws.{comparison_is, comparison_grows}
use Rattle.mi_cond.proofs.front.comparison_at.Goals as goal

pub returns-in-Some : goal.returns-in-Some
returns-in-Some c = comparison_grows c.args.folds c.args.relation c.in-Some.relation c.args.rest.now c.args.n c.in-Some.ensures.0 c.in-Some.ensures.1

pub returns-in-None : goal.returns-in-None
returns-in-None c = comparison_is c.args.folds c.args.relation c.args.rest.now c.args.n c.requires.some c.requires.within c.in-None.ensures
