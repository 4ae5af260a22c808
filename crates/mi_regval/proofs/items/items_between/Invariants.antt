use Rattle.std.proofs.Common.{◌≡◌, map}
use Rattle.mi_regval.proofs.items.items_between.Given as goal

abbrev pub invariant-loop-part : goal.invariant-loop-part
invariant-loop-part l = l.items.items ≡ map (λ b. b.now) l.yielded
