use Rattle.std.proofs.Common.{refl}
use Rattle.mi_records.proofs.counts.none_where_refused.Goals as goal

pub returns-in-Fault : goal.returns-in-Fault
returns-in-Fault c = (refl, (c.in-Fault.field-0, c.in-Fault.is))
