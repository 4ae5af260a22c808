-- The parts of the selection, and its refusals by key paths.
use Rattle.std.proofs.Common.{map, length, ap, ◌∙◌}
use Rattle.std.specs.FinMap.{empty}
use Rattle.std.proofs.lemmas.Result.{err_from_is_err_and}
use Rattle.mi_image.specs.Items.{machine_over}
use Rattle.mi_schema.specs.RowsOf.{rows_in}
use Rattle.mi_select.specs.Selections.{as_named}
use Rattle.mi_features.specs.Records.{recorded_in}
use Rattle.mi_select.proofs.SelectLemmas.{features_length, choices_length, selection_made, paths_refused}
use Rattle.mi_select.proofs.selecting.selection_by.Goals as goal

pub features_of-requires-clause-all : goal.features_of-requires-clause-all
features_of-requires-clause-all g c =
    let rows = rows_in c.args.loaded.now in
    ap length c.deref.ensures.value ∙ features_length rows (g.E.Env.lookups c.args.env.now) (recorded_in (machine_over empty empty c.args.former.now) rows) c.args.asked.now.features.items c.args.asked.now.mode (c.requires.asked empty empty)

pub components_of-requires-clause-all : goal.components_of-requires-clause-all
components_of-requires-clause-all g c =
    let rows = rows_in c.args.loaded.now in
    ap length c.deref-2.ensures.value
    ∙ choices_length rows (g.E.Env.lookups c.args.env.now) (machine_over empty empty c.args.former.now) c.args.asked.now.features.items c.args.asked.now.mode (c.requires.asked empty empty) c.in_ok-choices.choices.items
    (λ given dirs level. c.in_ok-choices.ensures empty empty given dirs level)

pub returns : goal.returns
returns g c = λ held files given the_rows the_machine.
    let rows = rows_in c.args.loaded.now in
    let m = machine_over held files c.args.former.now in
    let asked = c.args.asked.now in
    selection_made given (g.E.Env.lookups c.args.env.now) c.args.dirs.now rows m the_rows the_machine asked.features.items asked.mode (c.requires.asked held files)
    c.in_ok-choices.choices.items (λ level. c.in_ok-choices.ensures held files given c.args.dirs.now level the_rows the_machine)
    (map as_named c.in_ok-features.features.entries) (λ choice is. c.in_ok-features.ensures choice (c.deref.ensures.value ∙ is))
    (map as_named c.in_ok-components.components.entries) (λ choice is. c.in_ok-components.ensures.chosen held files choice (c.deref-2.ensures.value ∙ is))

pub returns-in_err-components : goal.returns-in_err-components
returns-in_err-components g c = λ held files given the_rows the_machine.
    let rows = rows_in c.args.loaded.now in
    let m = machine_over held files c.args.former.now in
    let asked = c.args.asked.now in
    let p = err_from_is_err_and c.from_residual-in_err-components.result c.from_residual-in_err-components.ensures.1 in
    rw (p.1, p.2) (paths_refused given (g.E.Env.lookups c.args.env.now) c.args.dirs.now rows m the_rows the_machine asked.features.items asked.mode (c.requires.asked held files)
    c.in_ok-choices.choices.items (λ level. c.in_ok-choices.ensures held files given c.args.dirs.now level the_rows the_machine)
    _ c.in_err-components.field-0.0 (λ choice is. c.in_err-components.ensures.chosen held files choice (c.deref-2.ensures.value ∙ is)))
