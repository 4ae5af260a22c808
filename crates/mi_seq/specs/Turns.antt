-- The next row of a walk, as the program finds it.
use Rattle.std.specs.Prelude.{◌≡◌, ℕ, List, Option, Some, slice_get}
use Rattle.mi_text.specs.Lookups.{Lookups}
use Rattle.mi_schema.specs.declared.package.Package.{Package}
use Rattle.mi_schema.specs.declared.typed_rows.InstallExecuteSequenceRow.{InstallExecuteSequenceRow}
use Rattle.mi_schema.specs.RowsOf.{rows_in}
use Rattle.mi_model.specs.Sequence.{next_row}
use Rattle.mi_seq.specs.declared.row.Next.{Next}
use Rattle.mi_seq.specs.Orders.{rows_at}

-- the row that is next among those at these places
pub record IsNext (p : Package) (L : Lookups) (places : List ℕ) (n : Next) : Type 0 where
  pub at : slice_get (rows_in p).install_execute_sequence n.place ≡ Some n.row.now
  pub next : ◌≡◌ {A = Option (InstallExecuteSequenceRow × List InstallExecuteSequenceRow)} (next_row L (rows_at (rows_in p).install_execute_sequence places)) (Some (n.row.now, rows_at (rows_in p).install_execute_sequence n.behind.now))
