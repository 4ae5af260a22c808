-- The parents of features by their places. (Feature Table, Feature_Parent.)
use Rattle.std.specs.Prelude.{ℕ, List, Option}
use Rattle.mi_schema.specs.declared.package.Package.{Package}
use Rattle.mi_schema.specs.declared.typed_rows.FeatureRow.{FeatureRow}
use Rattle.mi_schema.specs.Checks.{parents_of}
use Rattle.mi_schema.specs.RowsOf.{behind}

abbrev pub parents_in : List FeatureRow → List (Option ℕ)
parents_in rows = parents_of (λ (r : FeatureRow). r.feature) (λ (r : FeatureRow). r.feature_parent) rows

abbrev pub feature_parents : Package → List (Option ℕ)
feature_parents p = parents_in (behind p.feature.entries)
