-- The rows of File, and those that come.
use Rattle.std.proofs.Common.{map, ap, ◌∙◌}
use Rattle.std.specs.Prelude.{filter}
use Rattle.mi_schema.specs.declared.package.Package.{Package}
use Rattle.mi_schema.specs.declared.typed_rows.FileRow.{FileRow}
use Rattle.mi_schema.specs.RowsOf.{rows_in}
use Rattle.mi_schema.specs.TableRows.{in_key_order}
use Rattle.mi_records.specs.Order.{as_numbered}
use Rattle.mi_records.proofs.PhaseLemmas.{all_picked}
use Rattle.mi_installs.specs.Placings.{HaveLanguages}
use Rattle.mi_installs.proofs.PlacedLemmas.{coming_are}
use Rattle.mi_installs.proofs.placed.coming_rows.Goals as goal

pub returns-clause-rows : goal.returns-clause-rows
returns-clause-rows g c = λ w asked.
    let L = g.E.Env.lookups c.args.seen.now in
    let choices = g.E.Sees.choices c.args.seen.now in
    ap (map as_numbered) (c.in_ok-taken.ensures ∙ ap (filter (λ r. choices.coming r.1.now.component)) c.as_slice.ensures.value)
    ∙ coming_are L choices (g.E.Sees.rows c.args.seen.now) w asked c.in_ok-rows.rows.items
    (c.in_ok-rows.ensures.rows ∙ ap (λ (p : Package). in_key_order (λ (r : FileRow). r.file) (rows_in p).file) c.package.ensures)

pub returns-clause-languages : goal.returns-clause-languages
returns-clause-languages g c =
    let choices = g.E.Sees.choices c.args.seen.now in
    all_picked (λ r. HaveLanguages r.1.now) (λ r. choices.coming r.1.now.component) c.in_ok-rows.rows.items c.in_ok-taken.taken.items (c.in_ok-taken.ensures ∙ ap (filter (λ r. choices.coming r.1.now.component)) c.as_slice.ensures.value) c.in_ok-rows.ensures.languages
