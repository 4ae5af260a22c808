use Rattle.std.proofs.Common.{◌≡◌, map, drop}
use Rattle.mi_schema.specs.Checks.{first_fault}
use Rattle.mi_schema.specs.Tables.{listed_as}
use Rattle.mi_schema.specs.References.{table_dangling}
use Rattle.mi_schema.specs.RowsOf.{rows_in}
use Rattle.mi_schema.proofs.reference.check_references.Given as goal

abbrev pub invariant-loop-table : goal.invariant-loop-table
invariant-loop-table l = first_fault (table_dangling (rows_in l.loaded)) (map listed_as (drop l.table-index l.table-items)) ≡ first_fault (table_dangling (rows_in l.loaded)) (map listed_as l.table-items)
