-- The rows in key order, and those that take away.
use Rattle.std.proofs.Common.{map, ap, ◌∙◌}
use Rattle.std.specs.Prelude.{filter}
use Rattle.mi_records.specs.Order.{as_numbered}
use Rattle.mi_environment.proofs.WriteLemmas.{ordered}
use Rattle.mi_environment.proofs.TakeLemmas.{removing_are}
use Rattle.mi_environment.specs.Variables.{is_taken}
use Rattle.mi_environment.proofs.rows.removing_rows.Goals as goal

pub returns : goal.returns
returns g c = λ w asked.
    let choices = g.S.Sees.choices c.args.seen.now in
    ap (map as_numbered) (c.in_ok-taken.ensures ∙ ap (filter (λ r. is_taken choices r.1.now)) c.as_slice.ensures.value)
    ∙ removing_are (g.S.Env.lookups c.args.seen.now) choices (g.S.Sees.rows c.args.seen.now) w asked c.in_ok-rows.rows.items (c.in_ok-rows.ensures ∙ ap ordered c.package.ensures)
