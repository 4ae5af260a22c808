use Rattle.mi_schema.specs.RowsOf.{behind}
use Rattle.mi_records.specs.Order.{AreOrdered}
use Rattle.mi_files.specs.Folders.{key_of}
use Rattle.mi_files.proofs.order.ordered.Given as goal

abbrev pub invariant-loop-place : goal.invariant-loop-place
invariant-loop-place l = AreOrdered key_of (behind l.rows.entries) l.place l.ordered.entries

abbrev pub decreases-loop-place : goal.decreases-loop-place
decreases-loop-place l = l.place
