-- Without features there is no record.
use Rattle.std.proofs.Common.{sym, ◌∙◌}
use Rattle.mi_records.proofs.KeyLemmas.{if_ok}
use Rattle.mi_records.proofs.PublishLemmas.{unrecorded, is_recorded}
use Rattle.mi_records.proofs.publish.record_product.Goals as goal

pub returns-then-is_empty-clause-makes : goal.returns-then-is_empty-clause-makes
returns-then-is_empty-clause-makes c = λ held files.
    if_ok c.unrecord.result (c.unrecord.ensures.makes held files) (unrecorded held files c.args.plan.now c.unrecord.new.plan c.args.product (sym c.is_empty.ensures ∙ c.if-is_empty.true))

pub returns-else-is_empty-clause-makes : goal.returns-else-is_empty-clause-makes
returns-else-is_empty-clause-makes c = λ held files.
    if_ok c.put_record.result (c.put_record.ensures.makes held files) (is_recorded held files c.args.plan.now c.put_record.new.plan c.args.product (sym c.is_empty.ensures ∙ c.if-is_empty.false))
