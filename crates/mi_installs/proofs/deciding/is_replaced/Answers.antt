use Rattle.std.proofs.Common.{sym, ap, ◌∙◌}
use Rattle.mi_base.specs.Machine.{file_at}
use Rattle.mi_image.specs.Items.{machine_over}
use Rattle.mi_schema.specs.RowsOf.{rows_in}
use Rattle.mi_installs.proofs.CallLemmas.{head_some, head_none, replaced_is, absent_is}
use Rattle.mi_installs.proofs.deciding.is_replaced.Goals as goal

pub returns-in_ok-same-in-Some-clause-replaced : goal.returns-in_ok-same-in-Some-clause-replaced
returns-in_ok-same-in-Some-clause-replaced g c = λ w seen told src at.
    let held = (g.V.Volume.state c.args.vol.now).held in
    let files = g.S.Source.files c.args.src.now in
    let machine = machine_over held files c.args.image.now in
    let row = c.args.placed.now.row.now in
    let path = c.args.placed.now.path in
    let found = head_some (file_at machine path) c.in-Some.old.now (c.in-Some.ensures.value held files seen.there) in
    replaced_is w row path machine at seen.machine c.args.new.now c.args.language c.mode_of_row-mode.result c.in-Some.old.now found.0 c.in_ok-same-in-Some.same c.replaces.result (c.mode_of_row-mode.ensures w seen.asked) found.1 found.2
    (c.in_ok-same-in-Some.ensures.same w found.0 c.args.language (seen.asked.rows ∙ ap rows_in (sym c.package.ensures)) told src seen.there found.1) c.replaces.ensures

pub returns-in-None-clause-replaced : goal.returns-in-None-clause-replaced
returns-in-None-clause-replaced g c = λ w seen told src at.
    let held = (g.V.Volume.state c.args.vol.now).held in
    let files = g.S.Source.files c.args.src.now in
    let machine = machine_over held files c.args.image.now in
    let path = c.args.placed.now.path in
    absent_is w c.args.placed.now.row.now path machine at seen.machine c.args.new.now c.args.language c.mode_of_row-mode.result c.replaces-in-None.result (c.mode_of_row-mode.ensures w seen.asked) (head_none (file_at machine path) (c.in-None.ensures.value held files seen.there)) c.replaces-in-None.ensures
