-- The rows by their own keys.
use Rattle.mi_schema.specs.declared.typed_rows.EnvironmentRow.{EnvironmentRow}
use Rattle.mi_schema.specs.RowsOf.{rows_in}
use Rattle.mi_environment.proofs.rows.environment_rows.Goals as goal

pub returns : goal.returns
unfolding rows_in
returns c = c.in_key_order.ensures.order (λ (r : EnvironmentRow). r.environment) c.keys_stand.ensures.environment
