-- The row of the key.
use Rattle.std.proofs.Common.{◌∙◌}
use Rattle.mi_schema.specs.declared.typed_rows.FileRow.{FileRow}
use Rattle.mi_schema.specs.RowsOf.{rows_in}
use Rattle.mi_records.proofs.KeyedLemmas.{row_at_key}
use Rattle.mi_files.proofs.paths.file_row.Goals as goal

pub returns : goal.returns
unfolding rows_in
returns c = c.get.ensures.value ∙ row_at_key (λ (r : FileRow). r.file) c.args.loaded.now.file.entries c.args.key.now c.keys_stand.ensures.file
