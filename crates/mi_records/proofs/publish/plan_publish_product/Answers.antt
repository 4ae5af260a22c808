use Rattle.mi_schema.specs.RowsOf.{rows_in}
use Rattle.mi_records.proofs.PublishLemmas.{publishes}
use Rattle.mi_records.proofs.publish.plan_publish_product.Goals as goal

pub returns-in-Ok-record_product-clause-phase : goal.returns-in-Ok-record_product-clause-phase
returns-in-Ok-record_product-clause-phase g c = λ held files w asked at.
    publishes w (rows_in (g.S.Sees.rows c.args.seen.now)) (g.S.Sees.choices c.args.seen.now).local_after c.in-Ok.product asked.rows asked.local_after c.in-Ok.ensures
    held files c.args.plan.now c.record_product.new.plan at (c.in-Ok-record_product.ensures.makes held files)
