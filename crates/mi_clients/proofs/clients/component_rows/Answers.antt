-- The rows by their own keys; each is the only one of its key.
use Rattle.mi_schema.specs.declared.typed_rows.ComponentRow.{ComponentRow}
use Rattle.mi_schema.specs.RowsOf.{rows_in}
use Rattle.mi_records.proofs.ClientLemmas.{ok_own}
use Rattle.mi_clients.proofs.clients.component_rows.Goals as goal

pub returns-clause-rows : goal.returns-clause-rows
unfolding rows_in
returns-clause-rows c = c.in_key_order.ensures.order (λ (r : ComponentRow). r.component) c.keys_stand.ensures.component

pub returns-clause-own : goal.returns-clause-own
unfolding rows_in
returns-clause-own c = ok_own c.in_key_order.result c.args.loaded.now.component.entries c.keys_stand.ensures.component c.keys_apart.ensures.component c.in_key_order.ensures.each
