-- The row at the place, if there is one.
use Rattle.std.proofs.Common.{◌≡◌, Bool, sym, ap, ◌∙◌}
use Rattle.std.specs.FinMap.{insert}
use Rattle.mi_text.specs.Maps.{Name}
use Rattle.mi_image.specs.Items.{machine_over}
use Rattle.mi_schema.specs.declared.typed_rows.ComponentRow.{ComponentRow}
use Rattle.mi_schema.specs.RowsOf.{rows_in}
use Rattle.mi_world.specs.Ground.{is_set, present_by}
use Rattle.mi_world.proofs.RowLemmas.{told_more, told_none}
use Rattle.mi_world.proofs.known.tell_present.Goals as goal

pub returns-in_ok-put-in-Some : goal.returns-in_ok-put-in-Some
returns-in_ok-put-in-Some c = λ base files.
    let row = c.in-Some.row.now in
    let m = machine_over base files c.args.image.now in
    let put : c.put.new.self ≡ insert c.args.flags.now row.component (present_by m c.args.code.number (is_set c.args.held.now) row row.component_id) =
    c.in_ok-put-in-Some.ensures ∙ ap (λ (k : Name). insert c.args.flags.now k c.is_present-present.result) c.as_str.ensures
    ∙ ap (λ (b : Bool). insert c.args.flags.now row.component b) (c.is_present-present.ensures base files) in
    told_more (λ (r : ComponentRow). r.component) (λ r. present_by m c.args.code.number (is_set c.args.held.now) r r.component_id) (rows_in c.args.loaded.now).component c.args.place c.args.flags.now c.put.new.self row (sym c.in-Some.ensures) put

pub returns-in-None : goal.returns-in-None
returns-in-None c = λ base files.
    told_none (λ (r : ComponentRow). r.component) (λ r. present_by (machine_over base files c.args.image.now) c.args.code.number (is_set c.args.held.now) r r.component_id) (rows_in c.args.loaded.now).component c.args.place c.args.flags.now (sym c.in-None.ensures)
