use Rattle.std.proofs.Common.{◌∙◌, arith}
use Rattle.mi_cond.proofs.Comparing.{ends_so}
use Rattle.mi_cond.proofs.compare.ends_with.Goals as goal

pub returns-then-part-text : goal.returns-then-part-text
returns-then-part-text c = c.is_same.ensures ∙ ends_so c.args.folds c.args.text.now c.args.part.now _ (omega arith)
