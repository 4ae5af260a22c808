-- One that isn't counted has no count.
use Rattle.std.proofs.Common.{[], sym, ap, ◌∙◌}
use Rattle.mi_schema.specs.declared.package.Package.{Package}
use Rattle.mi_schema.specs.RowsOf.{rows_in}
use Rattle.mi_model.specs.ComponentRows.{action_in}
use Rattle.mi_model.specs.SharedCounts.{is_counted}
use Rattle.mi_steps.specs.Makes.{plan_machine}
use Rattle.mi_steps.proofs.FollowLemmas.{started}
use Rattle.mi_clients.proofs.CountLemmas.{not_counted}
use Rattle.mi_records.proofs.CountLemmas.{counted_is}
use Rattle.mi_clients.proofs.counts.process_count.Goals as goal

pub count_by_action-requires-clause-counted : goal.count_by_action-requires-clause-counted
count_by_action-requires-clause-counted g c = ap (λ (q : Package). is_counted (rows_in q) c.args.row.now) (sym c.package.ensures) ∙ sym c.is_counted.ensures ∙ c.if-is_counted.true

pub returns-else-is_counted-clause-row : goal.returns-else-is_counted-clause-row
returns-else-is_counted-clause-row g c = λ held files w asked guards.
    let p = g.S.Sees.rows c.args.seen.now in
    let r = c.args.row.now in
    record {
      touches = [];
      gives = not_counted w r (action_in w r.component) (counted_is (g.S.Env.lookups c.args.seen.now) (g.S.Sees.choices c.args.seen.now) p w asked r ∙ ap (λ (q : Package). is_counted (rows_in q) r) (sym c.package.ensures) ∙ sym c.is_counted.ensures ∙ c.if-is_counted.false);
      makes = started files (plan_machine held files c.args.plan.now) c.args.plan.now.script;
    }
