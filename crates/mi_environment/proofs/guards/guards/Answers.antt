-- Row by row.
use Rattle.std.proofs.Common.{Some, None, List, ap, sym, ◌∙◌}
use Rattle.std.specs.List.{list_any}
use Rattle.std.specs.BTreeMap.{is_at}
use Rattle.std.specs.BTreeSet.{contains}
use Rattle.std.specs.Map.Iter.{deref}
use Rattle.std.proofs.lemmas.Map.Iter.{rest_more, rest_all}
use Rattle.mi_text.specs.Maps.{Name, name_cmp}
use Rattle.mi_schema.specs.declared.package.Package.{Package}
use Rattle.mi_schema.specs.declared.typed_rows.EnvironmentRow.{EnvironmentRow}
use Rattle.mi_schema.specs.RowsOf.{rows_in, behind}
use Rattle.mi_schema.specs.TableRows.{Rows as TableRows}
use Rattle.mi_model.specs.RemoveEnvironmentStrings.{variable_named, is_guarded_variable}
use Rattle.mi_records.proofs.GuardLemmas.{one_added}
use Rattle.mi_records.proofs.SeatLemmas.{or_none}
use Rattle.mi_row_steps.proofs.GuardLemmas.{guarding_none, guarding_more, guarding_all}
use Rattle.mi_environment.proofs.guards.guards.Goals as goal

pub loop-row-init : goal.loop-row-init
unfolding rows_in
loop-row-init g c = λ w asked.
    let these = c.into_iter-row-iterator.ensures.into_iter_gives ∙ c.values-row-items.ensures.rest in
    guarding_none w (λ (r : EnvironmentRow). r.component) variable_named w.given.rows.environment _ _
    (these ∙ ap (λ (p : Package). behind p.environment.entries) c.package-loaded.ensures ∙ ap (λ (rs : TableRows). rs.environment) (sym asked.rows))
    (λ name. ap (λ (ks : List Name). list_any (is_at (name_cmp name)) ks) c.new-set.ensures.empty)

pub loop-row-preserved-in_ok-insert : goal.loop-row-preserved-in_ok-insert
loop-row-preserved-in_ok-insert g c = λ w asked.
    let next = rest_more deref c.loop-row.row-iterator c.next.new.self c.next.result c.in-Some.row c.in-Some.is c.next.ensures.steps in
    guarding_more w (λ (r : EnvironmentRow). r.component) variable_named w.given.rows.environment c.loop-row.row-iterator c.next.new.self c.loop-row.set c.insert.new.self c.in-Some.row.now (Some c.in-Some-2.name) (c.loop-row.invariant w asked) next
    (sym c.in-Some-2.is ∙ c.in_ok-name.ensures w asked)
    (λ q. c.in_ok-insert.ensures.updates.0 q ∙ one_added (contains name_cmp c.loop-row.set q) c.in-Some-2.name q)

pub loop-row-preserved : goal.loop-row-preserved
loop-row-preserved g c = λ w asked.
    let next = rest_more deref c.loop-row.row-iterator c.next.new.self c.next.result c.in-Some.row c.in-Some.is c.next.ensures.steps in
    guarding_more w (λ (r : EnvironmentRow). r.component) variable_named w.given.rows.environment c.loop-row.row-iterator c.next.new.self c.loop-row.set c.loop-row.set c.in-Some.row.now None (c.loop-row.invariant w asked) next
    (sym c.in_default.is ∙ c.in_ok-name.ensures w asked)
    (λ q. sym (or_none (contains name_cmp c.loop-row.set q)))

pub returns : goal.returns
unfolding is_guarded_variable
returns g c = λ w asked.
    guarding_all w (λ (r : EnvironmentRow). r.component) variable_named w.given.rows.environment c.loop-row.row-iterator c.loop-row.set (c.loop-row.invariant w asked) (rest_all deref c.loop-row.row-iterator c.next.new.self c.next.result c.in-None.is c.next.ensures.steps)
