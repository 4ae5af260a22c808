-- The row by its key, and its number.
use Rattle.std.proofs.Common.{List, ap, ◌∙◌}
use Rattle.std.specs.Map.{keys_of}
use Rattle.mi_text.specs.Maps.{Name}
use Rattle.mi_schema.specs.declared.typed_rows.FileRow.{FileRow}
use Rattle.mi_schema.specs.Checks.{row_with}
use Rattle.mi_schema.specs.RowsOf.{rows_in, behind}
use Rattle.mi_schema.proofs.CheckLemmas.{place_of_key}
use Rattle.mi_components.proofs.NumberedLemmas.{numbered-found, numbered-missing}
use Rattle.mi_wishes.proofs.RowLemmas.{lookup-row, keys-own}
use Rattle.mi_components.proofs.file_rows.file_row_of.Goals as goal

pub returns-in-Some : goal.returns-in-Some
unfolding rows_in
returns-in-Some c =
    let entries = c.args.loaded.now.file.entries in
    let own = c.keys_stand.ensures.file in
    numbered-found (λ (r : FileRow). r.file) (behind entries) c.args.key.now 1 c.in-Some.place c.in-Some.row.now
    (c.in-Some.ensures.index ∙ place_of_key c.args.key.now (keys_of entries) ∙ ap (λ (ks : List Name). row_with ks c.args.key.now) (keys-own (λ (r : FileRow). r.file) entries own))
    (c.in-Some.ensures.value ∙ lookup-row (λ (r : FileRow). r.file) entries own c.args.key.now)

pub returns-in-None : goal.returns-in-None
unfolding rows_in
returns-in-None c =
    let entries = c.args.loaded.now.file.entries in
    numbered-missing (λ (r : FileRow). r.file) (behind entries) c.args.key.now 1 (c.in-None.ensures.value ∙ lookup-row (λ (r : FileRow). r.file) entries c.keys_stand.ensures.file c.args.key.now)
