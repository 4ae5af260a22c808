use Rattle.mi_area_cases.proofs.areas.finish.Goals as goal

pub back-requires-clause-can_go_back : goal.back-requires-clause-can_go_back
back-requires-clause-can_go_back g c = (c.requires c.in-Back.is).back
