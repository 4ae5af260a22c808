-- One more than its place.
use Rattle.std.proofs.Common.{suc, Some, ap, ◌∙◌, add-one}
use Rattle.std.specs.Prelude.{option_map}
use Rattle.mi_schema.specs.declared.typed_rows.FileRow.{FileRow}
use Rattle.mi_schema.specs.RowsOf.{rows_in}
use Rattle.mi_records.proofs.KeyedLemmas.{number_at_key}
use Rattle.mi_records.proofs.key_path.file_number.Goals as goal

pub returns-in-Some : goal.returns-in-Some
unfolding rows_in
returns-in-Some c = ap Some (add-one c.in-Some.place) ∙ ap (option_map suc) c.in-Some.ensures.index ∙ number_at_key (λ (r : FileRow). r.file) c.args.loaded.now.file.entries c.args.key.now c.keys_stand.ensures.file

pub returns-in-None : goal.returns-in-None
unfolding rows_in
returns-in-None c = ap (option_map suc) c.in-None.ensures.index ∙ number_at_key (λ (r : FileRow). r.file) c.args.loaded.now.file.entries c.args.key.now c.keys_stand.ensures.file
