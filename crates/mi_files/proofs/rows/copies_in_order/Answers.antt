-- The rows by their own keys.
use Rattle.mi_schema.specs.declared.typed_rows.DuplicateFileRow.{DuplicateFileRow}
use Rattle.mi_schema.specs.RowsOf.{rows_in}
use Rattle.mi_files.proofs.rows.copies_in_order.Goals as goal

pub returns : goal.returns
unfolding rows_in
returns c = c.in_key_order.ensures.order (λ (r : DuplicateFileRow). r.file_key) c.keys_stand.ensures.duplicate_file
