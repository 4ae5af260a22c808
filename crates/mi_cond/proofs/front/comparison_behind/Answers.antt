use Rattle.std.proofs.Common.{◌∙◌, false, sym, get_or}
use Rattle.mi_cond.specs.declared.operand.Comparison.{Comparison}
use Rattle.mi_cond.specs.Moves.{InComparison, begin}
use Rattle.mi_cond.specs.Fronts.{ComparesValue, BehindValue}
use Rattle.mi_cond.proofs.FrontFinds.{at_start, at_such, refused_start, refused_mode}
use Rattle.mi_cond.proofs.front.comparison_behind.Goals as goal

pub returns-then-has : goal.returns-then-has
returns-then-has c =
    let rest = c.args.rest.now in
    let m : Comparison = record { relation = c.args.relation; folds = false } in
    at_such ComparesValue (BehindValue c.args.has) rest c.comparison_at.result (λ s b. b.1 ∙ c.if-has.true) (at_start rest (InComparison m) ComparesValue c.comparison_at.result c.requires.some c.requires.begins (λ s h. h) c.comparison_at.ensures)

pub returns-else-has : goal.returns-else-has
returns-else-has c =
    let rest = c.args.rest.now in
    refused_start rest (BehindValue c.args.has) c.requires.some (λ s b. refused_mode s (InComparison (record { relation = c.args.relation; folds = false })) (begin (get_or rest 0 0)) (sym c.requires.begins) (b.1 ∙ c.if-has.false))
