use Rattle.mi_area_cases.proofs.AreaSteps.{on_still}
use Rattle.mi_area_cases.proofs.areas.size.Goals as goal

pub returns-clause-leaves : goal.returns-clause-leaves
returns-clause-leaves g c =
    on_still _ _ _ c.size-size.new.self c.args.noted.now c.requires.goes_on c.size-size.ensures.kept c.size-size.ensures.progress (λ told F w. (c.size-size.ensures.works told F w).works)
