use Rattle.mi_volume.proofs.NoteLemmas.{counted_clean}
use Rattle.mi_volume.proofs.notes.Notes.clean.Goals as goal

pub returns-else-len : goal.returns-else-len
returns-else-len c = counted_clean c.args.self.now.syncs c.args.held.now.entries c.args.self.now.slots.entries c.args.self.now.written
