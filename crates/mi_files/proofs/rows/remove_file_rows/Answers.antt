-- The rows by their own keys.
use Rattle.mi_schema.specs.declared.typed_rows.RemoveFileRow.{RemoveFileRow}
use Rattle.mi_schema.specs.RowsOf.{rows_in}
use Rattle.mi_files.proofs.rows.remove_file_rows.Goals as goal

pub returns : goal.returns
unfolding rows_in
returns c = c.in_key_order.ensures.order (λ (r : RemoveFileRow). r.file_key) c.keys_stand.ensures.remove_file
