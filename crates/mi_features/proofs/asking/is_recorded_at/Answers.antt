use Rattle.std.proofs.Common.{◌≡◌, Some, None, ap, ◌∙◌}
use Rattle.std.specs.BTreeSet.{contains}
use Rattle.mi_text.specs.Maps.{name_cmp}
use Rattle.mi_schema.specs.declared.typed_rows.FeatureRow.{FeatureRow}
use Rattle.mi_features.proofs.asking.is_recorded_at.Goals as goal

pub returns-in-Some : goal.returns-in-Some
returns-in-Some c = λ f at.
    let one : Some c.in-Some.row.now ≡ Some f = c.in-Some.ensures ∙ at in
    let same : c.in-Some.row.now ≡ f = cc in
    c.is_recorded.ensures ∙ ap (λ (r : FeatureRow). contains name_cmp c.args.wishes.now.recorded r.feature) same

pub returns-in-None : goal.returns-in-None
returns-in-None c = λ f at. let wrong : None ≡ Some f = c.in-None.ensures ∙ at in absurd cc
