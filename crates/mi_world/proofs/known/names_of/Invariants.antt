use Rattle.std.proofs.Common.{◌≡◌, take}
use Rattle.mi_text.specs.Maps.{Name, is_among}
use Rattle.mi_world.specs.Ground.{is_set}
use Rattle.mi_world.proofs.known.names_of.Given as goal

abbrev pub invariant-loop-name : goal.invariant-loop-name
invariant-loop-name l = (q : Name) → is_set l.flags q ≡ is_among q (take l.name-index l.names)
