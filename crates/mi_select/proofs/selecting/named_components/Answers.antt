-- Row by row.
use Rattle.std.proofs.Common.{[], ◌∷◌, map, ap, ◌∙◌, arith}
use Rattle.std.specs.Prelude.{Ok, Err}
use Rattle.std.proofs.lemmas.List.{map-append}
use Rattle.std.proofs.lemmas.Result.{err_from_is_err_and}
use Rattle.mi_image.specs.Items.{machine_over}
use Rattle.mi_schema.specs.RowsOf.{rows_in}
use Rattle.mi_select.specs.Chosen.{chosen_entry}
use Rattle.mi_select.specs.Selections.{as_named}
use Rattle.mi_select.proofs.NameLemmas.{rows_start, rows_more, rows_stop, rows_end, chosen_there, entry_by, refused_same}
use Rattle.mi_select.proofs.selecting.named_components.Goals as goal

pub loop-row-init : goal.loop-row-init
loop-row-init g c = λ held files choice all.
    rows_start c.args.rows.now (chosen_entry (machine_over held files c.args.former.now) (rows_in c.args.loaded.now) c.args.dirs.now (g.E.Env.lookups c.args.env.now) choice) (map as_named c.in_ok-named.named.items) (ap (map as_named) c.in_ok-named.ensures.items)

pub loop-row-preserved : goal.loop-row-preserved
loop-row-preserved g c = λ held files choice all.
    let m = machine_over held files c.args.former.now in
    let rows = rows_in c.args.loaded.now in
    let L = g.E.Env.lookups c.args.env.now in
    let row = c.row-item.result in
    rows_more c.args.rows.now (chosen_entry m rows c.args.dirs.now L choice) c.loop-row.row-index row (as_named c.in_ok-chosen.chosen) (map as_named c.loop-row.named.items) (map as_named c.push.new.self.items) c.loop-row-test.true c.row-item.is
    (c.loop-row.invariant held files choice all)
    (entry_by m rows c.args.dirs.now L choice row.1.now _ (Ok (as_named c.in_ok-chosen.chosen)) (chosen_there c.args.choices.now choice c.args.rows.now c.loop-row.row-index row _ c.loop-row-test.true c.row-item.is all) (c.in_ok-chosen.ensures held files))
    (ap (map as_named) c.in_ok-push.ensures.items ∙ map-append as_named c.loop-row.named.items (c.in_ok-chosen.chosen ∷ []))

pub returns : goal.returns
returns g c = λ held files choice all.
    rows_end c.args.rows.now (chosen_entry (machine_over held files c.args.former.now) (rows_in c.args.loaded.now) c.args.dirs.now (g.E.Env.lookups c.args.env.now) choice) c.loop-row.row-index (map as_named c.loop-row.named.items) (omega arith) (c.loop-row.invariant held files choice all)

pub returns-in_err-chosen : goal.returns-in_err-chosen
returns-in_err-chosen g c = λ held files choice all.
    let m = machine_over held files c.args.former.now in
    let rows = rows_in c.args.loaded.now in
    let L = g.E.Env.lookups c.args.env.now in
    let row = c.row-item.result in
    let p = err_from_is_err_and c.from_residual-in_err-chosen.result c.from_residual-in_err-chosen.ensures.1 in
    rw (p.1, p.2) (refused_same _ _ c.in_err-chosen.field-0.0 _ _
    (λ f so. rows_stop c.args.rows.now (chosen_entry m rows c.args.dirs.now L choice) c.loop-row.row-index row (map as_named c.loop-row.named.items) f c.loop-row-test.true c.row-item.is (c.loop-row.invariant held files choice all)
    (entry_by m rows c.args.dirs.now L choice row.1.now _ (Err f) (chosen_there c.args.choices.now choice c.args.rows.now c.loop-row.row-index row _ c.loop-row-test.true c.row-item.is all) so))
    (c.in_err-chosen.ensures held files))
