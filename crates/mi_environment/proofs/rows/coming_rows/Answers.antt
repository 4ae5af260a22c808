-- The rows in key order, and those that come.
use Rattle.std.proofs.Common.{map, ap, ◌∙◌}
use Rattle.std.specs.Prelude.{filter}
use Rattle.mi_records.specs.Order.{as_numbered}
use Rattle.mi_environment.proofs.WriteLemmas.{ordered, coming_are}
use Rattle.mi_environment.proofs.rows.coming_rows.Goals as goal

pub returns : goal.returns
returns g c = λ w asked.
    let choices = g.S.Sees.choices c.args.seen.now in
    ap (map as_numbered) (c.in_ok-taken.ensures ∙ ap (filter (λ r. choices.coming r.1.now.component)) c.as_slice.ensures.value)
    ∙ coming_are (g.S.Env.lookups c.args.seen.now) choices (g.S.Sees.rows c.args.seen.now) w asked c.in_ok-rows.rows.items (c.in_ok-rows.ensures ∙ ap ordered c.package.ensures)
