-- Written out, so that an edit that turns it is refused at once (docs/CONTRIBUTING.md).
use Rattle.std.proofs.Common.{rules}
use Rattle.mi_feeds.proofs.fault_count.FaultCount.told.Goals as goal

pub returns : goal.returns
returns g = search rules
