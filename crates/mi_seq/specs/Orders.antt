-- The rows that an order of the program tells. (InstallExecuteSequence table.)
use Rattle.std.specs.Prelude.{ℕ, List, slice_get}
use Rattle.std.specs.List.{filter_map}
use Rattle.mi_schema.specs.declared.package.Package.{Package}
use Rattle.mi_schema.specs.declared.typed_rows.InstallExecuteSequenceRow.{InstallExecuteSequenceRow}
use Rattle.mi_schema.specs.RowsOf.{rows_in}
use Rattle.mi_seq.specs.declared.places.Order.{Order}

-- the rows at these places, from 0
abbrev pub rows_at : {R : Type 0} → List R → List ℕ → List R
rows_at rows places = filter_map (slice_get rows) places

-- the rows of a package in an order
abbrev pub ordered : Package → Order → List InstallExecuteSequenceRow
ordered p o = rows_at (rows_in p).install_execute_sequence o.places.items
