use Rattle.std.proofs.Common.{◌≡◌, drop}
use Rattle.mi_text.specs.Fold.{folded}
use Rattle.mi_cond.specs.Value.{contains}
use Rattle.mi_cond.proofs.compare.contains_folded.Given as goal

abbrev pub invariant-loop-i : goal.invariant-loop-i
invariant-loop-i l = contains (folded (drop l.i l.text)) (folded l.part) ≡ contains (folded l.text) (folded l.part)
