-- Component by component.
use Rattle.std.proofs.Common.{ap, sym, ◌∙◌}
use Rattle.std.specs.Map.Iter.{deref}
use Rattle.std.proofs.lemmas.Map.Iter.{rest_more, rest_all}
use Rattle.mi_schema.specs.declared.package.Package.{Package}
use Rattle.mi_schema.specs.RowsOf.{rows_in, behind}
use Rattle.mi_clients.proofs.CountLemmas.{taking_none, taking_more, taking_found, taking_all}
use Rattle.mi_clients.proofs.counts.takes_counts.Goals as goal

pub loop-row-init : goal.loop-row-init
unfolding rows_in
loop-row-init g c = λ w asked.
    let these = c.into_iter-row-iterator.ensures.into_iter_gives ∙ c.values-row-items.ensures.rest in
    taking_none (g.S.Env.lookups c.args.seen.now) (g.S.Sees.choices c.args.seen.now) (g.S.Sees.rows c.args.seen.now) w asked _ (these ∙ ap (λ (p : Package). behind p.component.entries) c.package-loaded.ensures)

pub loop-row-preserved : goal.loop-row-preserved
loop-row-preserved g c = λ w asked.
    let next = rest_more deref c.loop-row.row-iterator c.next.new.self c.next.result c.in-Some.row c.in-Some.is c.next.ensures.steps in
    taking_more (g.S.Env.lookups c.args.seen.now) (g.S.Sees.choices c.args.seen.now) (g.S.Sees.rows c.args.seen.now) w asked c.loop-row.row-iterator c.next.new.self c.in-Some.row.now (c.loop-row.invariant w asked) next (sym c.takes_count.ensures ∙ c.if-takes_count.false)

pub returns-then-takes_count : goal.returns-then-takes_count
returns-then-takes_count g c = λ w asked.
    let next = rest_more deref c.loop-row.row-iterator c.next.new.self c.next.result c.in-Some.row c.in-Some.is c.next.ensures.steps in
    taking_found (g.S.Env.lookups c.args.seen.now) (g.S.Sees.choices c.args.seen.now) (g.S.Sees.rows c.args.seen.now) w asked c.loop-row.row-iterator c.next.new.self c.in-Some.row.now (c.loop-row.invariant w asked) next (sym c.takes_count.ensures ∙ c.if-takes_count.true)

pub returns : goal.returns
returns g c = λ w asked. taking_all w c.loop-row.row-iterator (c.loop-row.invariant w asked) (rest_all deref c.loop-row.row-iterator c.next.new.self c.next.result c.in-None.is c.next.ensures.steps)
