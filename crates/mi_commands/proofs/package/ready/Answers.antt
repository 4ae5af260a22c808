use Rattle.mi_image.specs.Items.{machine_over}
use Rattle.mi_schema.specs.RowsOf.{rows_in}
use Rattle.mi_commands.proofs.PackageLemmas.{none_so, ready_by, unknown_so}
use Rattle.mi_commands.proofs.package.ready.Goals as goal

pub returns-in-Ok : goal.returns-in-Ok
returns-in-Ok c held files g is =
    ready_by c.args.asked.now.recorded g c.properties.result
    (none_so c.args.asked.now.recorded g (rows_in c.args.loaded.now) (machine_over held files c.args.image.now) is.rows is.former (c.in-Ok.ensures held files))
    (c.properties.ensures.first held files g is) c.properties.ensures.stopped

pub returns-in-Err : goal.returns-in-Err
returns-in-Err c held files g is =
    unknown_so c.args.asked.now.recorded g (rows_in c.args.loaded.now) (machine_over held files c.args.image.now) is.rows is.former c.in-Err.stop (c.in-Err.ensures held files)
