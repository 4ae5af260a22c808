-- The rows of Registry, and those that leave.
use Rattle.std.proofs.Common.{pos, negsuc, map, ap, sym, subst, ◌∙◌}
use Rattle.std.specs.Prelude.{filter}
use Rattle.mi_schema.specs.Laws.{IsWithin, KeysStand, ReferencesStand}
use Rattle.mi_schema.specs.declared.package.Package.{Package}
use Rattle.mi_schema.specs.declared.typed_rows.RegistryRow.{RegistryRow}
use Rattle.mi_schema.specs.RowsOf.{rows_in}
use Rattle.mi_schema.specs.TableRows.{in_key_order}
use Rattle.mi_records.specs.Order.{as_numbered}
use Rattle.mi_records.proofs.ChangingLemmas.{none_leave}
use Rattle.mi_records.proofs.PhaseLemmas.{all_picked}
use Rattle.mi_records.proofs.RemovingLemmas.{leaving_are}
use Rattle.mi_records.proofs.removing.leaving_rows.Goals as goal

pub returns-then-not-some_leaves-clause-rows : goal.returns-then-not-some_leaves-clause-rows
returns-then-not-some_leaves-clause-rows g c = λ w asked.
    ap (map as_numbered) c.new.ensures.items
    ∙ none_leave (g.S.Env.lookups c.args.seen.now) (g.S.Sees.choices c.args.seen.now) (g.S.Sees.rows c.args.seen.now) w asked
    (subst KeysStand c.package-loaded.ensures c.keys_stand.ensures) (subst ReferencesStand c.package-loaded.ensures c.references_stand.ensures) (sym c.some_leaves.ensures ∙ c.if-not-some_leaves.true)

pub returns-clause-rows : goal.returns-clause-rows
returns-clause-rows g c = λ w asked.
    let L = g.S.Env.lookups c.args.seen.now in
    let choices = g.S.Sees.choices c.args.seen.now in
    ap (map as_numbered) (c.in_ok-taken.ensures ∙ ap (filter (λ r. choices.leaving r.1.now.component)) c.as_slice.ensures.value)
    ∙ leaving_are L choices (g.S.Sees.rows c.args.seen.now) w asked c.in_ok-rows.rows.items
    (c.in_ok-rows.ensures.rows ∙ ap (λ (p : Package). in_key_order (λ (r : RegistryRow). r.registry) (rows_in p).registry) c.package-loaded.ensures)

pub returns-clause-roots : goal.returns-clause-roots
returns-clause-roots g c =
    let choices = g.S.Sees.choices c.args.seen.now in
    all_picked (λ r. IsWithin (negsuc 0) (pos 3) r.1.now.root) (λ r. choices.leaving r.1.now.component) c.in_ok-rows.rows.items c.in_ok-taken.taken.items (c.in_ok-taken.ensures ∙ ap (filter (λ r. choices.leaving r.1.now.component)) c.as_slice.ensures.value) c.in_ok-rows.ensures.roots
