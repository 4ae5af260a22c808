use Rattle.std.proofs.Common.{◌≡◌}
use Rattle.mi_schema.specs.RowsOf.{behind}
use Rattle.mi_schema.specs.Source.{word_count}
use Rattle.mi_schema.proofs.check.word_count.Given as goal

abbrev pub invariant-loop-row : goal.invariant-loop-row
invariant-loop-row l = word_count l.row-iterator ≡ word_count (behind l.summary.entries)
