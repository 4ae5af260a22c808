use Rattle.std.proofs.Common.{take}
use Rattle.std.specs.List.{All}
use Rattle.mi_carry.proofs.KnownLemmas.{IsKnown}
use Rattle.mi_carry.proofs.known.reads_again.Given as goal

abbrev pub invariant-loop-rec : goal.invariant-loop-rec
invariant-loop-rec l = All IsKnown (take l.rec-index l.recs)
