use Rattle.std.proofs.Common.{◌≡◌, take}
use Rattle.std.specs.Option.{option_or}
use Rattle.std.specs.FinMap.{get}
use Rattle.mi_text.specs.Maps.{Name}
use Rattle.mi_props.specs.Props.{given}
use Rattle.mi_props.proofs.props.Props.put_all.Given as goal

abbrev pub invariant-loop-pair : goal.invariant-loop-pair
invariant-loop-pair l = (name : Name) → get l.self name ≡ option_or (given (take l.pair-index l.pairs) name) (get l.fn.self name)
