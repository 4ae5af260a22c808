use Rattle.std.proofs.Common.{◌≡◌, map, take}
use Rattle.std.specs.Prelude.{All}
use Rattle.mi_schema.specs.declared.typed_rows.FeatureRow.{FeatureRow}
use Rattle.mi_wishes.specs.declared.choice.FeatureChoice.{FeatureChoice}
use Rattle.mi_select.specs.Chosen.{IsChosenAt}
use Rattle.mi_select.specs.Selections.{as_named}
use Rattle.mi_select.proofs.selecting.named_features.Given as goal

abbrev pub invariant-loop-row : goal.invariant-loop-row
invariant-loop-row l = (choice : FeatureRow → FeatureChoice) → All (IsChosenAt l.choices choice) l.rows → map as_named l.named.items ≡ map (λ r. (r.1.now.feature, choice r.1.now)) (take l.row-index l.rows)
