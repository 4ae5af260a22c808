use Rattle.std.proofs.Common.{Some, ap, ◌∙◌}
use Rattle.std.specs.Prelude.{option_map}
use Rattle.mi_schema.specs.declared.typed_rows.MsiFileHashRow.{MsiFileHashRow}
use Rattle.mi_schema.specs.RowsOf.{rows_in}
use Rattle.mi_model.specs.FileVersions.{hash_bytes}
use Rattle.mi_records.proofs.KeyedLemmas.{row_at_key}
use Rattle.mi_installs.proofs.hashes.stated_hash.Goals as goal

pub returns-in-Some : goal.returns-in-Some
unfolding rows_in
returns-in-Some c =
    ap Some c.hash_in.ensures
    ∙ ap (option_map hash_bytes) (c.in-Some.ensures.value ∙ row_at_key (λ (r : MsiFileHashRow). r.file) c.args.loaded.now.msi_file_hash.entries c.args.file.now c.keys_stand.ensures.msi_file_hash)

pub returns-in-None : goal.returns-in-None
unfolding rows_in
returns-in-None c =
    ap (option_map hash_bytes) (c.in-None.ensures.value ∙ row_at_key (λ (r : MsiFileHashRow). r.file) c.args.loaded.now.msi_file_hash.entries c.args.file.now c.keys_stand.ensures.msi_file_hash)
