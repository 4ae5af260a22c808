use Rattle.std.proofs.Common.{List, map, option_and_then, ap, ◌∙◌}
use Rattle.mi_text.specs.Maps.{Name}
use Rattle.mi_schema.specs.declared.typed_rows.FeatureRow.{FeatureRow}
use Rattle.mi_schema.specs.Checks.{row_with}
use Rattle.mi_schema.specs.RowsOf.{behind}
use Rattle.mi_wishes.proofs.RowLemmas.{keys-own}
use Rattle.mi_features.proofs.chain.feature_parents.Goals as goal

pub returns : goal.returns
returns c =
    let rows = behind c.args.loaded.now.feature.entries in
    record { parents = c.in_ok-parents.ensures ∙ ap (λ (ks : List Name). map (λ (r : FeatureRow). option_and_then (row_with ks) r.feature_parent) rows) (keys-own (λ (r : FeatureRow). r.feature) c.args.loaded.now.feature.entries c.keys_stand.ensures.feature) }
