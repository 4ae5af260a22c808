-- The directory of the row of the component.
use Rattle.std.proofs.Common.{◌≡◌, unwrap_or, [], List, ℕ, ap, subst, ◌∙◌}
use Rattle.std.specs.Prelude.{IfOk}
use Rattle.mi_dirs.specs.Places.{source_of}
use Rattle.mi_schema.specs.declared.package.Package.{Package}
use Rattle.mi_schema.specs.declared.typed_rows.ComponentRow.{ComponentRow}
use Rattle.mi_schema.specs.RowsOf.{rows_in}
use Rattle.mi_schema.specs.TableRows.{row_of}
use Rattle.mi_records.proofs.KeyedLemmas.{row_at_key}
use Rattle.mi_installs.proofs.SourceLemmas.{source_of_component}
use Rattle.mi_installs.proofs.sources.component_source.Goals as goal

pub returns-in-Some : goal.returns-in-Some
unfolding rows_in
returns-in-Some g c = λ w asked.
    let q = c.args.component.now in
    let dirs = (g.E.Sees.choices c.args.seen.now).dirs in
    let p = c.package-loaded.result.now in
    let row = c.in-Some.ensures.value ∙ row_at_key (λ (r : ComponentRow). r.component) p.component.entries q c.keys_stand.ensures.component ∙ ap (λ (p : Package). row_of (λ (r : ComponentRow). r.component) (rows_in p).component q) c.package-loaded.ensures in
    let is = ap (λ (d : List ℕ). unwrap_or (source_of dirs d) []) c.as_str.ensures ∙ source_of_component (g.E.Env.lookups c.args.seen.now) (g.E.Sees.choices c.args.seen.now) (g.E.Sees.rows c.args.seen.now) w asked q _ row in
    subst (λ (x : List ℕ). IfOk c.directory_source.result (λ folder. folder ≡ x)) is c.directory_source.ensures

pub returns-in-None : goal.returns-in-None
unfolding rows_in
returns-in-None g c = λ w asked.
    let q = c.args.component.now in
    let p = c.package-loaded.result.now in
    let row = c.in-None.ensures.value ∙ row_at_key (λ (r : ComponentRow). r.component) p.component.entries q c.keys_stand.ensures.component ∙ ap (λ (p : Package). row_of (λ (r : ComponentRow). r.component) (rows_in p).component q) c.package-loaded.ensures in
    c.new.ensures ∙ source_of_component (g.E.Env.lookups c.args.seen.now) (g.E.Sees.choices c.args.seen.now) (g.E.Sees.rows c.args.seen.now) w asked q _ row
