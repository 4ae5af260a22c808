-- A component without a code has no clients.
use Rattle.std.proofs.Common.{[], None}
use Rattle.std.specs.Prelude.{Some}
use Rattle.mi_model.specs.ComponentRows.{action_in}
use Rattle.mi_model.specs.ClientRows.{client_touches, component_touches}
use Rattle.mi_steps.specs.Makes.{plan_machine}
use Rattle.mi_steps.proofs.FollowLemmas.{started}
use Rattle.mi_records.proofs.ClientLemmas.{component_is, row_same}
use Rattle.mi_clients.proofs.clients.process_clients.Goals as goal

pub returns-in-Some-clause-row : goal.returns-in-Some-clause-row
returns-in-Some-clause-row g c = λ held files w asked.
    let r = c.args.row.now in
    row_same held files c.args.plan.now c.process_client.new.plan (λ m. client_touches w r c.in-Some.component (action_in w r.component)) (λ m. component_touches w r) c.process_client.result
    (component_is w r (Some c.in-Some.component) c.in-Some.is) (c.process_client.ensures.row held files w asked)

pub returns-in-None-clause-row : goal.returns-in-None-clause-row
returns-in-None-clause-row g c = λ held files w asked. record {
  touches = [];
  gives = component_is w c.args.row.now None c.in-None.is;
  makes = started files (plan_machine held files c.args.plan.now) c.args.plan.now.script;
}
