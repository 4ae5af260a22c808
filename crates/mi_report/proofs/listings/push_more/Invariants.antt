use Rattle.std.proofs.Common.{◌≡◌, ◌++◌, drop, codes}
use Rattle.std.specs.List.{flat_map}
use Rattle.mi_model.specs.Lines.{shown}
use Rattle.mi_report.proofs.listings.push_more.Given as goal

abbrev pub invariant-loop-feature : goal.invariant-loop-feature
invariant-loop-feature l = l.out.items ++ flat_map (λ text. codes "," ++ shown text) (drop l.feature-index l.features) ≡ l.fn.out.items ++ flat_map (λ text. codes "," ++ shown text) l.features
