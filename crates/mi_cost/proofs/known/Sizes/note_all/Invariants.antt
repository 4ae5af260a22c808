use Rattle.std.proofs.Common.{◌≡◌, take}
use Rattle.mi_cost.specs.Tallies.{with_records}
use Rattle.mi_cost.proofs.known.Sizes.note_all.Given as goal

-- what the records so far state
abbrev pub invariant-loop-rec : goal.invariant-loop-rec
invariant-loop-rec l = l.self ≡ with_records l.initial.self (take l.rec-index l.recs)
