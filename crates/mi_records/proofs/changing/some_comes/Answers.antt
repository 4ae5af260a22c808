-- Component by component.
use Rattle.std.proofs.Common.{ap, sym, ◌∙◌}
use Rattle.std.specs.List.{list_any}
use Rattle.std.specs.Map.Iter.{deref}
use Rattle.std.proofs.lemmas.Map.Iter.{rest_more, rest_all}
use Rattle.mi_schema.specs.declared.package.Package.{Package}
use Rattle.mi_schema.specs.declared.typed_rows.ComponentRow.{ComponentRow}
use Rattle.mi_schema.specs.RowsOf.{rows_in, behind}
use Rattle.mi_records.proofs.ChangingLemmas.{any_more, any_found, any_none}
use Rattle.mi_records.proofs.changing.some_comes.Goals as goal

pub loop-row-init : goal.loop-row-init
unfolding rows_in
loop-row-init g c =
    let these = c.into_iter-row-iterator.ensures.into_iter_gives ∙ c.values-row-items.ensures.rest in
    ap (list_any (λ (r : ComponentRow). (g.S.Sees.choices c.args.seen.now).coming r.component)) (these ∙ ap (λ (p : Package). behind p.component.entries) c.package-loaded.ensures)

pub loop-row-preserved : goal.loop-row-preserved
loop-row-preserved g c =
    let choices = g.S.Sees.choices c.args.seen.now in
    let next = rest_more deref c.loop-row.row-iterator c.next.new.self c.next.result c.in-Some.row c.in-Some.is c.next.ensures.steps in
    any_more (λ (r : ComponentRow). choices.coming r.component) c.loop-row.row-iterator c.next.new.self c.in-Some.row.now _ next (ap choices.coming (sym c.as_str.ensures) ∙ sym c.comes.ensures ∙ c.if-comes.false) c.loop-row.invariant

pub returns-then-comes : goal.returns-then-comes
returns-then-comes g c =
    let choices = g.S.Sees.choices c.args.seen.now in
    let next = rest_more deref c.loop-row.row-iterator c.next.new.self c.next.result c.in-Some.row c.in-Some.is c.next.ensures.steps in
    any_found (λ (r : ComponentRow). choices.coming r.component) c.loop-row.row-iterator c.next.new.self c.in-Some.row.now _ next (ap choices.coming (sym c.as_str.ensures) ∙ sym c.comes.ensures ∙ c.if-comes.true) c.loop-row.invariant

pub returns : goal.returns
returns g c = any_none (λ (r : ComponentRow). (g.S.Sees.choices c.args.seen.now).coming r.component) c.loop-row.row-iterator _ (rest_all deref c.loop-row.row-iterator c.next.new.self c.next.result c.in-None.is c.next.ensures.steps) c.loop-row.invariant
