use Rattle.std.proofs.Common.{◌≡◌, length}
use Rattle.mi_dirs.proofs.FilledLemmas.{Filled}
use Rattle.mi_installs.specs.Leads.{written_at}
use Rattle.mi_installs.proofs.leaders.written_by_place.Given as goal

abbrev pub invariant-loop-row : goal.invariant-loop-row
invariant-loop-row l = (length l.written.items ≡ length l.leaders) × Filled (written_at l.leaders l.asked) l.order l.row-index l.written.items
