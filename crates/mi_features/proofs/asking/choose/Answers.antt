use Rattle.mi_image.specs.Items.{machine_over}
use Rattle.mi_schema.specs.RowsOf.{rows_in}
use Rattle.mi_features.specs.Records.{recorded_in}
use Rattle.mi_features.proofs.asking.choose.Goals as goal

pub returns : goal.returns
returns g c = λ held files. c.in_ok-choices.ensures (g.E.Env.lookups c.args.env.now) (recorded_in (machine_over held files c.args.former.now) (rows_in c.args.loaded.now)) c.args.install_level (c.in_ok-wishes.ensures held files)
