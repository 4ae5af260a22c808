use Rattle.std.proofs.Common.{◌≡◌, length}
use Rattle.mi_dirs.specs.Sources.{above_in}
use Rattle.mi_dirs.proofs.FilledLemmas.{Filled}
use Rattle.mi_dirs.proofs.sources.rows_above.Given as goal

abbrev pub invariant-loop-row : goal.invariant-loop-row
invariant-loop-row l = (length l.above.items ≡ length l.rows) × Filled (above_in l.rows) l.order l.row-index l.above.items
