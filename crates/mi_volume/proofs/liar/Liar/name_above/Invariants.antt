use Rattle.std.proofs.Common.{length}
use Rattle.mi_volume.proofs.liar.Liar.name_above.Given as goal

-- each turn takes a name
abbrev pub decreases-loop-name : goal.decreases-loop-name
decreases-loop-name l = length l.self.names.items
