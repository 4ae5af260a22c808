-- By the component's action.
use Rattle.std.proofs.Common.{[], ◌∷◌, sym, ap, ◌∙◌}
use Rattle.std.specs.Prelude.{Ok, Some}
use Rattle.mi_base.specs.Names.{client_name}
use Rattle.mi_model.specs.World.{MakeLocal}
use Rattle.mi_model.specs.ComponentRows.{action_in}
use Rattle.mi_model.specs.ClientRows.{client_touches}
use Rattle.mi_steps.specs.Follows.{drop_touch}
use Rattle.mi_steps.specs.Makes.{plan_machine}
use Rattle.mi_steps.proofs.FollowLemmas.{started}
use Rattle.mi_records.proofs.ClientLemmas.{code_is, absent_is, local_is, neither_is, absent_touches, row_same}
use Rattle.mi_clients.proofs.clients.process_client.Goals as goal

pub returns-then-is_absent-clause-row : goal.returns-then-is_absent-clause-row
returns-then-is_absent-clause-row g c = λ held files w asked.
    let L = g.S.Env.lookups c.args.seen.now in
    let choices = g.S.Sees.choices c.args.seen.now in
    let p = g.S.Sees.rows c.args.seen.now in
    let r = c.args.row.now in
    let id = c.args.component in
    row_same held files c.args.plan.now c.take_client.new.plan (λ m. Ok (drop_touch (client_name id.number c.args.product.number) ∷ [])) (λ m. client_touches w r id (action_in w r.component)) c.take_client.result
    (ap (client_touches w r id) (absent_is L choices p w asked r.component (ap choices.absent (sym c.as_str.ensures) ∙ sym c.is_absent.ensures ∙ c.if-is_absent.true))
    ∙ absent_touches w r id c.args.product.number (code_is L choices p w asked c.args.product.number c.requires.code))
    (c.take_client.ensures.row held files)

pub returns-then-is_local-clause-row : goal.returns-then-is_local-clause-row
returns-then-is_local-clause-row g c = λ held files w asked.
    let L = g.S.Env.lookups c.args.seen.now in
    let choices = g.S.Sees.choices c.args.seen.now in
    let p = g.S.Sees.rows c.args.seen.now in
    let r = c.args.row.now in
    let id = c.args.component in
    row_same held files c.args.plan.now c.record_clients.new.plan (λ m. client_touches w r id (Some MakeLocal)) (λ m. client_touches w r id (action_in w r.component)) c.record_clients.result
    (ap (client_touches w r id) (local_is L choices p w asked r.component (ap choices.local (sym c.as_str-2.ensures) ∙ sym c.is_local.ensures ∙ c.if-is_local.true)))
    (c.record_clients.ensures.row held files w asked)

pub returns-clause-row : goal.returns-clause-row
returns-clause-row g c = λ held files w asked.
    let L = g.S.Env.lookups c.args.seen.now in
    let choices = g.S.Sees.choices c.args.seen.now in
    let p = g.S.Sees.rows c.args.seen.now in
    let r = c.args.row.now in
    record {
      touches = [];
      gives = ap (client_touches w r c.args.component) (neither_is L choices p w asked r.component (ap choices.absent (sym c.as_str.ensures) ∙ sym c.is_absent.ensures ∙ c.if-is_absent.false) (ap choices.local (sym c.as_str-2.ensures) ∙ sym c.is_local.ensures ∙ c.if-is_local.false));
      makes = started files (plan_machine held files c.args.plan.now) c.args.plan.now.script;
    }
