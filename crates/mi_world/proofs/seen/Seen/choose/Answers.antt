use Rattle.std.proofs.Common.{◌≡◌, Some, Ok, sym, ap, ◌∙◌}
use Rattle.std.specs.Prelude.{Result}
use Rattle.std.proofs.lemmas.Result.{err_from_is_err_and}
use Rattle.mi_base.specs.declared.answers.Fault.{Fault}
use Rattle.mi_model.specs.World.{Selection}
use Rattle.mi_world.specs.declared.seen.Seen.{Seen}
use Rattle.mi_world.proofs.CostLemmas.{unchosen_so}
use Rattle.mi_world.proofs.seen.Seen.choose.Goals as goal

pub returns-clause-selected : goal.returns-clause-selected
returns-clause-selected c = λ held files g dirs knows none at former choice is.
    let made = c.in_ok-selection.selection in
    let there : c.set_properties.new.self.selection ≡ Some made = ap (λ (s : Seen). s.selection) (c.in_ok-set_properties.ensures.set dirs at) in
    let both : Some made ≡ Some choice = sym there ∙ is in
    let same : made ≡ choice = cc in
    c.in_ok-selection.ensures held files g dirs knows none at former ∙ ap (λ (x : Selection). let r : Result Selection Fault = Ok x in r) same

pub returns-in_err-selection-clause-selected : goal.returns-in_err-selection-clause-selected
returns-in_err-selection-clause-selected c = λ held files g dirs knows none at former.
    let p = err_from_is_err_and c.from_residual.result c.from_residual.ensures.1 in
    rw (p.1, p.2) (unchosen_so (Unit {0}) c.in_err-selection.field-0.0 _ c.args.self.now.selection (c.in_err-selection.ensures held files g dirs knows none at former))
