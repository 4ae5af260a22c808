use Rattle.std.proofs.Common.{◌≡◌, drop}
use Rattle.mi_text.specs.PropertyNames.{is_public_name}
use Rattle.mi_props.specs.Props.{all_names}
use Rattle.mi_props.proofs.props.all_public_names.Given as goal

abbrev pub invariant-loop-pair : goal.invariant-loop-pair
invariant-loop-pair l = all_names is_public_name (drop l.pair-index l.pairs) ≡ all_names is_public_name l.pairs
