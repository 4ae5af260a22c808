use Rattle.mi_image.specs.Items.{machine_over}
use Rattle.mi_schema.specs.RowsOf.{rows_in}
use Rattle.mi_features.specs.Records.{recorded_in}
use Rattle.mi_features.proofs.RequestLemmas.{requested_is}
use Rattle.mi_features.proofs.asking.requests.Goals as goal

pub returns : goal.returns
returns g c = λ held files.
    requested_is (rows_in c.args.loaded.now) (g.E.Env.lookups c.args.env.now) (recorded_in (machine_over held files c.args.former.now) (rows_in c.args.loaded.now)) c.in_ok-level.level c.in_ok-mode.mode c.in_ok-features.features.items
    c.in_ok-level.ensures c.in_ok-mode.ensures c.in_ok-lists.ensures.0 (c.in_ok-features.ensures held files)
