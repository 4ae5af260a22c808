use Rattle.mi_text.specs.Fold.{folded}
use Rattle.mi_variables.proofs.ItemLemmas.{told_same}
use Rattle.mi_variables.proofs.items.same_folded.Goals as goal

pub returns : goal.returns
returns c = told_same c.eq_ignore_ascii_case.result (folded c.args.a.now) (folded c.args.b.now) c.eq_ignore_ascii_case.ensures.test.0 c.eq_ignore_ascii_case.ensures.test.1
