use Rattle.mi_volume.proofs.SizeLemmas.{Summing}
use Rattle.mi_volume.proofs.held.size_of_all.Given as goal

abbrev pub invariant-loop-name : goal.invariant-loop-name
invariant-loop-name l = Summing l.held.entries l.name-iterator l.size
