-- Refused by the settings or the lists.
use Rattle.std.proofs.lemmas.Result.{err_from_is_err_and}
use Rattle.mi_image.specs.Items.{machine_over}
use Rattle.mi_schema.specs.RowsOf.{rows_in}
use Rattle.mi_features.specs.Records.{recorded_in}
use Rattle.mi_features.specs.Requests.{shown}
use Rattle.mi_select.proofs.SelectLemmas.{asked_refused}
use Rattle.mi_select.proofs.selecting.select.Goals as goal

pub returns-in_err-asked : goal.returns-in_err-asked
returns-in_err-asked g c = λ held files given the_rows the_machine.
    let rows = rows_in c.args.loaded.now in
    let p = err_from_is_err_and c.from_residual.result c.from_residual.ensures.1 in
    rw (p.1, p.2) (asked_refused shown given (g.E.Env.lookups c.args.env.now) c.args.dirs.now rows (recorded_in (machine_over held files c.args.former.now) rows) c.in_err-asked.field-0.0 the_rows (c.in_err-asked.ensures held files))
