use Rattle.mi_schema.specs.RowsOf.{rows_in}
use Rattle.mi_world.proofs.RecallLemmas.{ordered_rows}
use Rattle.mi_world.proofs.recall.in_order.Goals as goal

pub returns : goal.returns
returns c = ordered_rows (rows_in c.args.loaded.now).component c.in_ok-ordered.ordered.entries c.in_ok-rows.rows.items c.in_ok-ordered.ensures c.in_ok-rows.ensures
