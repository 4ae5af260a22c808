use Rattle.std.proofs.Common.{◌≡◌, ◌++◌, map}
use Rattle.mi_wishes.specs.declared.choice.FeatureChoice.{FeatureChoice}
use Rattle.mi_select.specs.Selections.{as_named, names_that}
use Rattle.mi_select.proofs.selection.local_names.Given as goal

abbrev pub invariant-loop-name : goal.invariant-loop-name
invariant-loop-name l = l.names.items ++ names_that (λ (f : FeatureChoice). f.local_after) (map as_named l.name-iterator) ≡ names_that (λ (f : FeatureChoice). f.local_after) (map as_named l.features.entries)
