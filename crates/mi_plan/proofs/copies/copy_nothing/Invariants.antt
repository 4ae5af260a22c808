use Rattle.std.proofs.Common.{◌≡◌, false, take}
use Rattle.std.specs.List.{All}
use Rattle.mi_plan.specs.Lengths.{is_copy}
use Rattle.mi_plan.proofs.copies.copy_nothing.Given as goal

abbrev pub invariant-loop-rec : goal.invariant-loop-rec
invariant-loop-rec l = All (λ r. is_copy r ≡ false) (take l.rec-index l.recs)
