-- The row of the key.
use Rattle.std.proofs.Common.{◌∙◌}
use Rattle.mi_schema.specs.declared.typed_rows.ComponentRow.{ComponentRow}
use Rattle.mi_schema.specs.RowsOf.{rows_in}
use Rattle.mi_records.proofs.KeyedLemmas.{row_at_key}
use Rattle.mi_files.proofs.paths.component_row.Goals as goal

pub returns : goal.returns
unfolding rows_in
returns c = c.get.ensures.value ∙ row_at_key (λ (r : ComponentRow). r.component) c.args.loaded.now.component.entries c.args.key.now c.keys_stand.ensures.component
