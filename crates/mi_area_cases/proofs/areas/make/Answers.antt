use Rattle.mi_area_cases.proofs.AreaSteps.{live_working, back_as}
use Rattle.mi_area_cases.proofs.areas.make.Goals as goal

pub returns-in-back-clause-leaves : goal.returns-in-back-clause-leaves
returns-in-back-clause-leaves g c =
    back_as _ _ _ c.args.area.now c.args.noted.now.items c.requires.goes_on (live_working c.args.area.now c.requires.goes_on.working) (λ told F w. w)
