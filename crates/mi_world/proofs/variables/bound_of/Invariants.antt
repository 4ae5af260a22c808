use Rattle.std.proofs.Common.{take}
use Rattle.mi_world.specs.Bounds.{AreFoldedWithin}
use Rattle.mi_world.proofs.variables.bound_of.Given as goal

abbrev pub invariant-loop-item : goal.invariant-loop-item
invariant-loop-item l = AreFoldedWithin l.bound (take l.item-index l.items)
