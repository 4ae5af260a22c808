use Rattle.std.proofs.Common.{◌≡◌, ◌++◌, map, option_and_then}
use Rattle.std.specs.Map.{keys_of}
use Rattle.mi_schema.specs.Checks.{row_with}
use Rattle.mi_schema.specs.RowsOf.{behind}
use Rattle.mi_features.proofs.chain.parents_of.Given as goal

abbrev pub invariant-loop-row : goal.invariant-loop-row
invariant-loop-row l = l.parents.items ++ map (λ r. option_and_then (row_with (keys_of l.loaded.feature.entries)) r.feature_parent) l.row-iterator ≡ map (λ r. option_and_then (row_with (keys_of l.loaded.feature.entries)) r.feature_parent) (behind l.loaded.feature.entries)
