use Rattle.std.proofs.Common.{◌≡◌, List, ℕ, All}
use Rattle.mi_schema.specs.RowsOf.{behind}
use Rattle.mi_records.specs.Order.{AreOrdered, AreRowsOf}
use Rattle.mi_records.proofs.order.ordered.Given as goal

abbrev pub invariant-loop-place : goal.invariant-loop-place
invariant-loop-place g l = record {
  order : (key : g.row.R.Denot → List ℕ) → All (λ e. e.0 ≡ key e.1) l.rows.entries → AreOrdered key (behind l.rows.entries) l.place l.ordered.entries;
  each : AreRowsOf l.rows.entries l.ordered.entries;
}

abbrev pub decreases-loop-place : goal.decreases-loop-place
decreases-loop-place g l = l.place
