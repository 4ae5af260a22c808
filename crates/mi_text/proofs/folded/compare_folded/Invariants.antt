use Rattle.std.proofs.Common.{◌≡◌, ◌≤◌, length, drop}
use Rattle.mi_text.specs.Fold.{folded}
use Rattle.mi_text.specs.Maps.{name_cmp}
use Rattle.mi_text.proofs.folded.compare_folded.Given as goal

-- what is left of both compares as both do
abbrev pub invariant-loop-i : goal.invariant-loop-i
invariant-loop-i l = (l.i ≤ length l.name) × (name_cmp (drop l.i l.key) (folded (drop l.i l.name)) ≡ name_cmp l.key (folded l.name))
