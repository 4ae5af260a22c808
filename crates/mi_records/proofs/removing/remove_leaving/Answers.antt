-- Where no row leaves, none is carried out.
use Rattle.std.proofs.Common.{List, ℕ, length, map, Bor, refl, subst}
use Rattle.mi_schema.specs.declared.typed_rows.RegistryRow.{RegistryRow}
use Rattle.mi_model.specs.RemoveRegistryValues.{remove_row}
use Rattle.mi_steps.specs.Makes.{plan_machine}
use Rattle.mi_steps.specs.Rows.{FollowsRows}
use Rattle.mi_steps.proofs.PruneLemmas.{none_there}
use Rattle.mi_steps.proofs.RowLemmas.{rows_started}
use Rattle.mi_records.specs.Order.{as_numbered}
use Rattle.mi_records.proofs.KeyLemmas.{keeps_not}
use Rattle.mi_records.proofs.removing.remove_leaving.Goals as goal

pub returns-then-is_empty-clause-rows : goal.returns-then-is_empty-clause-rows
returns-then-is_empty-clause-rows g c = λ held files w asked.
    let m = plan_machine held files c.args.plan.now in
    subst (λ (rows : List (ℕ × Bor RegistryRow)). FollowsRows files m m c.args.plan.now.script c.args.plan.now.script (map (λ r. remove_row w (as_numbered r)) rows))
    (none_there c.args.leaving.now (length c.args.leaving.now) c.is_empty.result refl c.is_empty.ensures c.if-is_empty.true) (rows_started files m c.args.plan.now.script)

pub returns-then-is_empty-clause-keeps : goal.returns-then-is_empty-clause-keeps
returns-then-is_empty-clause-keeps g c = keeps_not c.args.plan.now

pub returns-clause-rows : goal.returns-clause-rows
returns-clause-rows g c = λ held files w asked. c.remove_rows.ensures.rows held files w asked.lookups (c.in_ok-guards.ensures w asked)
