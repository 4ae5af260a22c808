use Rattle.mi_row_steps.proofs.SizeLemmas.{sized_ok, sized_err}
use Rattle.mi_row_steps.proofs.put.sized.Goals as goal

pub returns-in-Ok : goal.returns-in-Ok
returns-in-Ok c = sized_ok c.args.table.now c.args.number c.args.entry c.in-Ok.entry c.requires c.in-Ok.ensures

pub returns-in-Err : goal.returns-in-Err
returns-in-Err c = sized_err c.args.table.now c.args.number c.args.entry c.in-Err.stop c.error.result c.in-Err.ensures c.error.ensures
