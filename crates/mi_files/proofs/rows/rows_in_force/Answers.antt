-- The rows of the table, and those that are carried out.
use Rattle.std.proofs.Common.{map, ap, ◌∙◌}
use Rattle.std.specs.Prelude.{filter}
use Rattle.mi_schema.specs.declared.package.Package.{Package}
use Rattle.mi_schema.specs.declared.typed_rows.RemoveFileRow.{RemoveFileRow}
use Rattle.mi_schema.specs.RowsOf.{rows_in}
use Rattle.mi_schema.specs.TableRows.{in_key_order}
use Rattle.mi_records.specs.Order.{as_numbered}
use Rattle.mi_files.specs.Taking.{is_in_force}
use Rattle.mi_files.proofs.RemovalLemmas.{in_force_are}
use Rattle.mi_files.proofs.rows.rows_in_force.Goals as goal

pub returns : goal.returns
returns g c = λ w asked.
    let L = g.E.Env.lookups c.args.seen.now in
    let choices = g.E.Sees.choices c.args.seen.now in
    ap (map as_numbered) (c.in_ok-taken.ensures ∙ ap (filter (λ r. is_in_force choices r.1.now)) c.as_slice.ensures.value)
    ∙ in_force_are L choices (g.E.Sees.rows c.args.seen.now) w asked c.in_ok-rows.rows.items
    (c.in_ok-rows.ensures ∙ ap (λ (p : Package). in_key_order (λ (r : RemoveFileRow). r.file_key) (rows_in p).remove_file) c.package.ensures)
