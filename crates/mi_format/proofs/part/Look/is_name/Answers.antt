-- Written out, so that an edit that turns it is refused at once (docs/GATE.md).
use Rattle.std.proofs.Common.{rules}
use Rattle.mi_format.proofs.part.Look.is_name.Goals as goal

pub returns-in-Some-eq37 : goal.returns-in-Some-eq37
returns-in-Some-eq37 c = search rules

pub returns-in-Some-eq37-2 : goal.returns-in-Some-eq37-2
returns-in-Some-eq37-2 c = search rules
