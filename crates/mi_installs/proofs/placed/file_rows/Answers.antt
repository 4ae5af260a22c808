-- The rows by their own keys; each is a row of the package.
use Rattle.mi_schema.specs.declared.typed_rows.FileRow.{FileRow}
use Rattle.mi_schema.specs.RowsOf.{rows_in}
use Rattle.mi_records.proofs.PhaseLemmas.{ok_roots}
use Rattle.mi_installs.specs.Placings.{HaveLanguages}
use Rattle.mi_installs.proofs.placed.file_rows.Goals as goal

pub returns-clause-rows : goal.returns-clause-rows
unfolding rows_in
returns-clause-rows c = c.in_key_order.ensures.order (λ (r : FileRow). r.file) c.keys_stand.ensures.file

pub returns-clause-languages : goal.returns-clause-languages
returns-clause-languages c = ok_roots HaveLanguages c.in_key_order.result c.args.loaded.now.file.entries c.values_stand.ensures.file_language c.in_key_order.ensures.each
