-- Written out, so that an edit that turns it is refused at once (docs/GATE.md).
use Rattle.std.proofs.Common.{rules}
use Rattle.mi_volume.proofs.slots.Slots.store.Goals as goal

pub returns-in-Append-clause-ok : goal.returns-in-Append-clause-ok
returns-in-Append-clause-ok c = search rules
