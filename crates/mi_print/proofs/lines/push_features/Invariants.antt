use Rattle.std.proofs.Common.{◌≡◌, ◌++◌, ◌∷◌, drop}
use Rattle.std.specs.List.{flat_map}
use Rattle.mi_print.specs.Texts.{quoted}
use Rattle.mi_print.proofs.lines.push_features.Given as goal

abbrev pub invariant-loop-feature : goal.invariant-loop-feature
invariant-loop-feature l = l.out.items ++ flat_map (λ f. 32 ∷ quoted f) (drop l.feature-index l.features) ≡ l.fn.out.items ++ flat_map (λ f. 32 ∷ quoted f) l.features
