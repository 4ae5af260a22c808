-- The rows in key order, and what is chosen at their numbers.
use Rattle.std.proofs.Common.{length, map, sym, ap, ◌∙◌}
use Rattle.std.specs.Prelude.{Ok}
use Rattle.std.proofs.lemmas.Result.{err_from_is_err_and}
use Rattle.mi_text.specs.Maps.{Name}
use Rattle.mi_image.specs.Items.{machine_over}
use Rattle.mi_schema.specs.declared.typed_rows.ComponentRow.{ComponentRow}
use Rattle.mi_schema.specs.RowsOf.{rows_in, behind}
use Rattle.mi_model.specs.Refusals.{each}
use Rattle.mi_select.specs.Chosen.{chosen_entry}
use Rattle.mi_select.specs.Selections.{as_named}
use Rattle.mi_select.proofs.NameLemmas.{entry_names, refused_same}
use Rattle.mi_select.proofs.OrderLemmas.{ordered-within, ordered-chosen, ordered-rows, named-sorted}
use Rattle.mi_select.proofs.selecting.components_of.Goals as goal

abbrev key : ComponentRow → Name
key c = c.component

pub named_components-requires-clause-all : goal.named_components-requires-clause-all
unfolding rows_in
named_components-requires-clause-all g c =
    let rows = behind c.args.loaded.now.component.entries in
    ordered-within key rows c.deref.result.now (ap (map _) c.deref.ensures.value ∙ c.in_ok-rows.ensures.order key c.keys_stand.ensures.component) (length c.args.choices.now) c.requires.all

pub returns-clause-chosen : goal.returns-clause-chosen
unfolding rows_in
returns-clause-chosen g c = λ held files choice at.
    let rows = behind c.args.loaded.now.component.entries in
    let ordered = c.deref.result.now in
    let f = chosen_entry (machine_over held files c.args.former.now) (rows_in c.args.loaded.now) c.args.dirs.now (g.E.Env.lookups c.args.env.now) choice in
    let is = ap (map _) c.deref.ensures.value ∙ c.in_ok-rows.ensures.order key c.keys_stand.ensures.component in
    let these = sym (ap (each f) (ordered-rows key rows ordered is)) ∙ c.in_ok-named.ensures held files choice (ordered-chosen key rows ordered is c.args.choices.now choice at) in
    let rise = named-sorted key rows (map as_named c.in_ok-named.named.items) (entry_names (machine_over held files c.args.former.now) (rows_in c.args.loaded.now) c.args.dirs.now (g.E.Env.lookups c.args.env.now) choice _ _ these) in
    these ∙ ap (λ l. Ok (map as_named l)) (sym (c.in_ok-components.ensures.entries rise))

pub returns-in_err-named-clause-chosen : goal.returns-in_err-named-clause-chosen
unfolding rows_in
returns-in_err-named-clause-chosen g c = λ held files choice at.
    let rows = behind c.args.loaded.now.component.entries in
    let ordered = c.deref.result.now in
    let f = chosen_entry (machine_over held files c.args.former.now) (rows_in c.args.loaded.now) c.args.dirs.now (g.E.Env.lookups c.args.env.now) choice in
    let is = ap (map _) c.deref.ensures.value ∙ c.in_ok-rows.ensures.order key c.keys_stand.ensures.component in
    let p = err_from_is_err_and c.from_residual-in_err-named.result c.from_residual-in_err-named.ensures.1 in
    rw (p.1, p.2) (refused_same _ _ c.in_err-named.field-0.0 _ _ (λ e so. sym (ap (each f) (ordered-rows key rows ordered is)) ∙ so) (c.in_err-named.ensures held files choice (ordered-chosen key rows ordered is c.args.choices.now choice at)))
