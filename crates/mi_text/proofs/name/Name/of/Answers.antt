-- Written out, so that an edit that turns it is refused at once (docs/GATE.md).
use Rattle.std.proofs.Common.{rules}
use Rattle.mi_text.proofs.name.Name.of.Goals as goal

pub returns-in_err-text-clause-length : goal.returns-in_err-text-clause-length
returns-in_err-text-clause-length c = search rules

pub invariant_of-result : goal.invariant_of-result
invariant_of-result c = search rules

pub returns-clause-length : goal.returns-clause-length
returns-clause-length c = search rules
