use Rattle.mi_format.proofs.NameLemmas.{if_ok_same, brace_kept}
use Rattle.mi_format.proofs.kept.push_brace.Goals as goal

pub returns-in-Unnamed : goal.returns-in-Unnamed
returns-in-Unnamed c = λ before p e f.
    if_ok_same c.push_between.result _ _ (brace_kept c.args.most c.args.text c.args.inside.now before p e f c.in-Unnamed.is) c.push_between.ensures
