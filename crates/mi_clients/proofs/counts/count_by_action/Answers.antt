-- By the component's action.
use Rattle.std.proofs.Common.{[], sym, ap, ◌∙◌}
use Rattle.std.specs.Prelude.{Some}
use Rattle.mi_model.specs.World.{MakeLocal, MakeAbsent}
use Rattle.mi_model.specs.ComponentRows.{action_in}
use Rattle.mi_model.specs.CountRows.{counted_by}
use Rattle.mi_steps.specs.Makes.{plan_machine}
use Rattle.mi_steps.proofs.FollowLemmas.{started}
use Rattle.mi_records.proofs.ClientLemmas.{absent_is, local_is, neither_is, row_same}
use Rattle.mi_clients.proofs.counts.count_by_action.Goals as goal

pub returns-then-is_absent-clause-row : goal.returns-then-is_absent-clause-row
returns-then-is_absent-clause-row g c = λ held files w asked guards.
    let choices = g.S.Sees.choices c.args.seen.now in
    let r = c.args.row.now in
    row_same held files c.args.plan.now c.count_absent.new.plan (λ m. counted_by w r (Some MakeAbsent)) (λ m. counted_by w r (action_in w r.component)) c.count_absent.result
    (ap (counted_by w r) (absent_is (g.S.Env.lookups c.args.seen.now) choices (g.S.Sees.rows c.args.seen.now) w asked r.component (ap choices.absent (sym c.as_str.ensures) ∙ sym c.is_absent.ensures ∙ c.if-is_absent.true)))
    (c.count_absent.ensures.row held files w asked guards)

pub returns-then-is_local-clause-row : goal.returns-then-is_local-clause-row
returns-then-is_local-clause-row g c = λ held files w asked guards.
    let choices = g.S.Sees.choices c.args.seen.now in
    let r = c.args.row.now in
    row_same held files c.args.plan.now c.count_local.new.plan (λ m. counted_by w r (Some MakeLocal)) (λ m. counted_by w r (action_in w r.component)) c.count_local.result
    (ap (counted_by w r) (local_is (g.S.Env.lookups c.args.seen.now) choices (g.S.Sees.rows c.args.seen.now) w asked r.component (ap choices.local (sym c.as_str-2.ensures) ∙ sym c.is_local.ensures ∙ c.if-is_local.true)))
    (c.count_local.ensures.row held files w asked)

pub returns-clause-row : goal.returns-clause-row
returns-clause-row g c = λ held files w asked guards.
    let choices = g.S.Sees.choices c.args.seen.now in
    let r = c.args.row.now in
    record {
      touches = [];
      gives = ap (counted_by w r) (neither_is (g.S.Env.lookups c.args.seen.now) choices (g.S.Sees.rows c.args.seen.now) w asked r.component (ap choices.absent (sym c.as_str.ensures) ∙ sym c.is_absent.ensures ∙ c.if-is_absent.false) (ap choices.local (sym c.as_str-2.ensures) ∙ sym c.is_local.ensures ∙ c.if-is_local.false));
      makes = started files (plan_machine held files c.args.plan.now) c.args.plan.now.script;
    }
