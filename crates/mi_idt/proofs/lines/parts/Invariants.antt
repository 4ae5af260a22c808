use Rattle.std.proofs.Common.{◌≡◌, ◌==◌, ◌++◌, length}
use Rattle.std.specs.List.{slice_split}
use Rattle.mi_idt.proofs.Basics.{shown}
use Rattle.mi_idt.proofs.lines.parts.Given as goal

abbrev pub invariant-loop-at : goal.invariant-loop-at
invariant-loop-at l = shown l.parts.items ++ slice_split (λ b. b == l.mark) l.rest ≡ slice_split (λ b. b == l.mark) l.bytes

abbrev pub decreases-loop-at : goal.decreases-loop-at
decreases-loop-at l = length l.rest
