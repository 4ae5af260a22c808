use Rattle.mi_area_cases.proofs.AreaSteps.{on_still}
use Rattle.mi_area_cases.proofs.areas.read.Goals as goal

pub returns-clause-leaves : goal.returns-clause-leaves
returns-clause-leaves g c =
    on_still _ _ _ c.read-bytes.new.self c.args.noted.now c.requires.goes_on c.read-bytes.ensures.kept c.read-bytes.ensures.progress (λ told F w. (c.read-bytes.ensures.works told F w).works)
