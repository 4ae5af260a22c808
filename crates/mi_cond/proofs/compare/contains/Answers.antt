use Rattle.std.proofs.Common.{Bool, sym, ap, ◌∙◌}
use Rattle.mi_cond.specs.Value.{cased, contains}
use Rattle.mi_cond.proofs.Containing.{found}
use Rattle.mi_cond.proofs.compare.contains.Goals as goal

pub returns-else-folds : goal.returns-else-folds
returns-else-folds c =
    c.is_some.ensures ∙ found c.args.text.now c.args.part.now c.find.result c.find.ensures
    ∙ sym (ap (λ (b : Bool). contains (cased b c.args.text.now) (cased b c.args.part.now)) c.if-folds.false)
