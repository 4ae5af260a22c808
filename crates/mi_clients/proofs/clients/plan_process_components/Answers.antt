-- Over the rows in key order.
use Rattle.std.proofs.Common.{map, ap, ◌∙◌}
use Rattle.mi_schema.specs.declared.package.Package.{Package}
use Rattle.mi_schema.specs.declared.typed_rows.ComponentRow.{ComponentRow}
use Rattle.mi_schema.specs.RowsOf.{rows_in}
use Rattle.mi_schema.specs.TableRows.{in_key_order}
use Rattle.mi_records.specs.Order.{as_numbered}
use Rattle.mi_clients.proofs.clients.plan_process_components.Goals as goal

pub process_and_prune-requires-clause-order : goal.process_and_prune-requires-clause-order
process_and_prune-requires-clause-order g c =
    ap (map as_numbered) c.as_slice.ensures.value ∙ c.in_ok-rows.ensures.rows ∙ ap (λ (q : Package). in_key_order (λ (r : ComponentRow). r.component) (rows_in q).component) c.package-2.ensures
