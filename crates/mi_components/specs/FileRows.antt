-- Rows of File by their keys. (File Table; Component Table, KeyPath.)
use Rattle.std.specs.Prelude.{Option}
use Rattle.mi_text.specs.Maps.{Name}
use Rattle.mi_schema.specs.declared.typed_rows.FileRow.{FileRow}
use Rattle.mi_schema.specs.TableRows.{Rows, Numbered, numbered_from, row_of}

-- the row of a key, with its number in the file
abbrev pub file_row_of : Rows → Name → Option (Numbered FileRow)
file_row_of rows key = row_of (λ (r : Numbered FileRow). r.row.file) (numbered_from 1 rows.file) key
