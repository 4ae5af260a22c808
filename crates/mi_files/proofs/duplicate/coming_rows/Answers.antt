-- The rows in key order, and those whose components come.
use Rattle.std.proofs.Common.{map, ap, ◌∙◌}
use Rattle.std.specs.Prelude.{filter}
use Rattle.mi_schema.specs.declared.package.Package.{Package}
use Rattle.mi_schema.specs.declared.typed_rows.DuplicateFileRow.{DuplicateFileRow}
use Rattle.mi_schema.specs.RowsOf.{rows_in}
use Rattle.mi_schema.specs.TableRows.{in_key_order}
use Rattle.mi_records.specs.Order.{as_numbered}
use Rattle.mi_files.proofs.CopyLemmas.{coming_are}
use Rattle.mi_files.proofs.duplicate.coming_rows.Goals as goal

pub returns : goal.returns
returns g c = λ w asked.
    let choices = g.E.Sees.choices c.args.seen.now in
    ap (map as_numbered) (c.in_ok-taken.ensures ∙ ap (filter (λ r. choices.coming r.1.now.component)) c.as_slice.ensures.value)
    ∙ coming_are (g.E.Env.lookups c.args.seen.now) choices (g.E.Sees.rows c.args.seen.now) w asked c.in_ok-rows.rows.items
    (c.in_ok-rows.ensures ∙ ap (λ (p : Package). in_key_order (λ (r : DuplicateFileRow). r.file_key) (rows_in p).duplicate_file) c.package.ensures)
