use Rattle.std.proofs.Common.{ap, ◌∙◌}
use Rattle.std.specs.Prelude.{is_some}
use Rattle.mi_schema.specs.declared.typed_rows.FeatureRow.{FeatureRow}
use Rattle.mi_schema.specs.RowsOf.{rows_in}
use Rattle.mi_records.proofs.KeyedLemmas.{row_at_key}
use Rattle.mi_shortcuts.proofs.target.is_feature.Goals as goal

pub returns : goal.returns
unfolding rows_in
returns c = c.contains_key.ensures ∙ ap is_some (row_at_key (λ (r : FeatureRow). r.feature) c.args.loaded.now.feature.entries c.args.key.now c.keys_stand.ensures.feature)
