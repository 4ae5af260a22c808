use Rattle.mi_area_cases.proofs.AreaSteps.{on_of, back_of}
use Rattle.mi_area_cases.proofs.areas.make_field.Goals as goal

pub returns-clause-on : goal.returns-clause-on
returns-clause-on g c = on_of _ _ _ _ c.make-next.result c.make-next.ensures.leaves

pub returns-clause-back : goal.returns-clause-back
returns-clause-back g c = back_of _ _ _ _ c.make-next.result c.make-next.ensures.leaves
