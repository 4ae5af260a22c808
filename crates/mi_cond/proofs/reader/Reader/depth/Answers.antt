-- Written out, so that an edit that turns it is refused at once (docs/GATE.md).
use Rattle.std.proofs.Common.{rules}
use Rattle.mi_cond.proofs.Depths.{depths}
use Rattle.mi_cond.proofs.reader.Reader.depth.Goals as goal

pub returns-in-Has : goal.returns-in-Has
returns-in-Has c = search (rules, depths)
