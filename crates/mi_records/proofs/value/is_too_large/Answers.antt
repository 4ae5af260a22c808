-- By the length of the record.
use Rattle.mi_records.proofs.SizeLemmas.{large_by_record, not_refused}
use Rattle.mi_records.proofs.value.is_too_large.Goals as goal

pub returns-in-Ok : goal.returns-in-Ok
returns-in-Ok c = large_by_record c.args.entry.now c.in-Ok.record c.len.result (λ unfit. not_refused (c.in-Ok.field-0-0, c.in-Ok.record) (c.in-Ok.ensures.field.1 unfit)) c.in-Ok.ensures.record c.len.ensures
