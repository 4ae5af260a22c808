-- The rows of the tree.
use Rattle.mi_schema.specs.RowsOf.{behind}
use Rattle.mi_records.proofs.OrderLemmas.{ordered_all, each_all}
use Rattle.mi_records.proofs.order.in_key_order.Goals as goal

pub returns-clause-order : goal.returns-clause-order
returns-clause-order g c = λ key keys. ordered_all key (behind c.args.rows.now.entries) c.in_ok-ordered.ordered.entries c.in_ok-rows.rows.items (c.in_ok-ordered.ensures.order key keys) c.in_ok-rows.ensures

pub returns-clause-each : goal.returns-clause-each
returns-clause-each g c = each_all c.args.rows.now.entries c.in_ok-ordered.ordered.entries c.in_ok-rows.rows.items c.in_ok-ordered.ensures.each c.in_ok-rows.ensures
