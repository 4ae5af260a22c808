-- One that isn't counted has no count.
use Rattle.std.proofs.Common.{ap, sym, ◌∙◌}
use Rattle.mi_schema.specs.declared.package.Package.{Package}
use Rattle.mi_schema.specs.RowsOf.{rows_in}
use Rattle.mi_model.specs.SharedCounts.{is_counted}
use Rattle.mi_records.proofs.CountLemmas.{path_uncounted}
use Rattle.mi_records.proofs.counts.counted_name.Goals as goal

pub path_named-requires-clause-counted : goal.path_named-requires-clause-counted
path_named-requires-clause-counted g c = ap (λ (q : Package). is_counted (rows_in q) c.args.row.now) (sym c.package.ensures) ∙ sym c.is_counted.ensures ∙ c.if-is_counted.true

pub returns-else-is_counted : goal.returns-else-is_counted
returns-else-is_counted g c = λ w asked.
    path_uncounted (g.S.Env.lookups c.args.seen.now) (g.S.Sees.choices c.args.seen.now) (g.S.Sees.rows c.args.seen.now) w asked c.args.row.now
    (ap (λ (q : Package). is_counted (rows_in q) c.args.row.now) (sym c.package.ensures) ∙ sym c.is_counted.ensures ∙ c.if-is_counted.false)
