-- The directory of the row of the component.
use Rattle.std.proofs.Common.{option_and_then, ap, ◌∙◌}
use Rattle.mi_dirs.specs.Places.{target_of}
use Rattle.mi_schema.specs.declared.typed_rows.ComponentRow.{ComponentRow}
use Rattle.mi_schema.specs.RowsOf.{rows_in}
use Rattle.mi_wishes.proofs.RowLemmas.{lookup-row}
use Rattle.mi_select.proofs.key_path.component_folder.Goals as goal

pub returns-in-Some-clause-folder : goal.returns-in-Some-clause-folder
unfolding rows_in
returns-in-Some-clause-folder c =
    c.target.ensures.target ∙ ap (target_of c.args.dirs.now) c.as_str.ensures
    ∙ ap (option_and_then (λ (r : ComponentRow). target_of c.args.dirs.now r.directory)) (c.in-Some.ensures.value ∙ lookup-row (λ (r : ComponentRow). r.component) c.args.loaded.now.component.entries c.keys_stand.ensures.component c.args.component.now)

pub returns-in-None-clause-folder : goal.returns-in-None-clause-folder
unfolding rows_in
returns-in-None-clause-folder c =
    ap (option_and_then (λ (r : ComponentRow). target_of c.args.dirs.now r.directory)) (c.in-None.ensures.value ∙ lookup-row (λ (r : ComponentRow). r.component) c.args.loaded.now.component.entries c.keys_stand.ensures.component c.args.component.now)
