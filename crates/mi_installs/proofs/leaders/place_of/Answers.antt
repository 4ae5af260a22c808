use Rattle.std.proofs.Common.{List, sym, ap, ◌∙◌}
use Rattle.std.specs.Map.{keys_of}
use Rattle.mi_text.specs.Maps.{Name}
use Rattle.mi_schema.specs.Checks.{row_with}
use Rattle.mi_schema.specs.RowsOf.{rows_in}
use Rattle.mi_schema.specs.declared.typed_rows.FileRow.{FileRow}
use Rattle.mi_schema.proofs.CheckLemmas.{place_of_key}
use Rattle.mi_schema.proofs.ReferenceLaws.{behind_long}
use Rattle.mi_installs.proofs.LeaderLemmas.{keys_are, some_below}
use Rattle.mi_installs.proofs.leaders.place_of.Goals as goal

pub returns-clause-place : goal.returns-clause-place
unfolding rows_in
returns-clause-place c =
    let entries = c.args.loaded.now.file.entries in
    c.get_index_of.ensures.index
    ∙ place_of_key c.args.key.now (keys_of entries)
    ∙ ap (λ (ks : List Name). row_with ks c.args.key.now) (keys_are (λ (r : FileRow). r.file) entries c.keys_stand.ensures.file)

pub returns-clause-within : goal.returns-clause-within
unfolding rows_in
returns-clause-within c = some_below c.get_index_of.result _ _ (sym (behind_long c.args.loaded.now.file.entries)) c.get_index_of.ensures.within
