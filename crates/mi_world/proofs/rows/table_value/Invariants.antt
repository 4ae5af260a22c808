use Rattle.std.proofs.Common.{◌≡◌, drop}
use Rattle.mi_schema.specs.declared.typed_rows.PropertyRow.{PropertyRow}
use Rattle.mi_schema.specs.RowsOf.{rows_in}
use Rattle.mi_schema.specs.TableRows.{row_of}
use Rattle.mi_world.proofs.rows.table_value.Given as goal

abbrev pub invariant-loop-place : goal.invariant-loop-place
invariant-loop-place l = row_of (λ (r : PropertyRow). r.property) (rows_in l.loaded).property l.name ≡ row_of (λ (r : PropertyRow). r.property) (drop l.place (rows_in l.loaded).property) l.name
