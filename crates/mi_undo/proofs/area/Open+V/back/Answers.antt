use Rattle.mi_undo.proofs.OverLemmas.{exceeds_some}
use Rattle.mi_undo.proofs.area.Open+V.back.Goals as goal

pub returns-clause-full : goal.returns-clause-full
returns-clause-full g c = λ full.
    let told = c.back_area.ensures.told full in
    let can = c.requires.can_go_back told in
    (told, exceeds_some _ _ (c.back_area.ensures.exceeds told can.0 can.1 full))
