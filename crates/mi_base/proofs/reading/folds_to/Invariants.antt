use Rattle.std.proofs.Common.{◌≡◌, drop}
use Rattle.std.specs.Str.{bytes_eq}
use Rattle.mi_text.specs.Fold.{folded}
use Rattle.mi_base.proofs.reading.folds_to.Given as goal

-- what is left of both agrees where both agree
abbrev pub invariant-loop-i : goal.invariant-loop-i
invariant-loop-i l = bytes_eq (folded (drop l.i l.text)) (drop l.i l.named) ≡ bytes_eq (folded l.text) l.named
