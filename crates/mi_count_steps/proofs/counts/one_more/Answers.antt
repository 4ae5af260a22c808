-- Written out, so that an edit that turns it is refused at once (docs/CONTRIBUTING.md).
use Rattle.std.proofs.Common.{rules}
use Rattle.mi_count_steps.proofs.counts.one_more.Goals as goal

pub returns : goal.returns
returns c = search rules
