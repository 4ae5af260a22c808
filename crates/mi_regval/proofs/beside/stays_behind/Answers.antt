use Rattle.mi_regval.proofs.ListLemmas.{stays_behind, not_behind, cut_behind, if_ok_along}
use Rattle.mi_regval.proofs.beside.stays_behind.Goals as goal

pub returns-in-Some : goal.returns-in-Some
returns-in-Some c =
    let is = cut_behind c.args.items.now c.args.old.now c.in-Some.others.now c.in-Some.ensures.cases.0 c.in-Some.ensures.cases.1 in
    if_ok_along c.none_among.result _ _ (stays_behind c.args.items.now c.args.old.now c.in-Some.others.now is) c.none_among.ensures

pub returns-in-None : goal.returns-in-None
returns-in-None c = not_behind c.args.items.now c.args.old.now c.in-None.ensures.cases
