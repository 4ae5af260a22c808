use Rattle.std.proofs.Common.{◌≡◌, ◌≤◌, length, take, None}
use Rattle.mi_text.specs.Maps.{Name}
use Rattle.mi_props.specs.Props.{given}
use Rattle.mi_world.proofs.properties.bound_of.Given as goal

abbrev pub invariant-loop-pair : goal.invariant-loop-pair
invariant-loop-pair l = (name : Name) → l.bound ≤ length name → given (take l.pair-index l.pairs) name ≡ None
