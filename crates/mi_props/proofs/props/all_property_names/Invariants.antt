use Rattle.std.proofs.Common.{◌≡◌, drop}
use Rattle.mi_text.specs.PropertyNames.{is_property_name}
use Rattle.mi_props.specs.Props.{all_names}
use Rattle.mi_props.proofs.props.all_property_names.Given as goal

abbrev pub invariant-loop-pair : goal.invariant-loop-pair
invariant-loop-pair l = all_names is_property_name (drop l.pair-index l.pairs) ≡ all_names is_property_name l.pairs
