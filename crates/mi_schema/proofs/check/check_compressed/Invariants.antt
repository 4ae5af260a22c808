use Rattle.std.proofs.Common.{◌≡◌}
use Rattle.mi_schema.specs.RowsOf.{behind}
use Rattle.mi_schema.specs.Source.{file_fault}
use Rattle.mi_schema.proofs.check.check_compressed.Given as goal

abbrev pub invariant-loop-row : goal.invariant-loop-row
invariant-loop-row l = file_fault l.source l.row-iterator ≡ file_fault l.source (behind l.loaded.file.entries)
