use Rattle.std.proofs.Common.{◌≡◌, ◌++◌, map}
use Rattle.mi_schema.specs.RowsOf.{behind}
use Rattle.mi_files.specs.Folders.{key_of}
use Rattle.mi_files.proofs.order.keys_of.Given as goal

abbrev pub invariant-loop-row : goal.invariant-loop-row
invariant-loop-row l = l.keys.items ++ map key_of l.row-iterator ≡ map key_of (behind l.rows.entries)
