-- The rows by their own keys.
use Rattle.mi_schema.specs.declared.typed_rows.FileRow.{FileRow}
use Rattle.mi_schema.specs.RowsOf.{rows_in}
use Rattle.mi_files.proofs.rows.file_rows.Goals as goal

pub returns : goal.returns
unfolding rows_in
returns c = c.in_key_order.ensures.order (λ (r : FileRow). r.file) c.keys_stand.ensures.file
