use Rattle.std.proofs.Common.{◌≡◌, ℕ, List, Option, Some, map, take}
use Rattle.std.specs.Prelude.{slice_get}
use Rattle.mi_text.specs.Lookups.{Lookups}
use Rattle.mi_schema.specs.declared.typed_rows.FeatureRow.{FeatureRow}
use Rattle.mi_schema.specs.RowsOf.{rows_in}
use Rattle.mi_model.specs.Texts.{Text}
use Rattle.mi_wishes.specs.Lines.{line_to}
use Rattle.mi_features.specs.Requests.{choice_to}
use Rattle.mi_wishes.specs.Wishes.{AreWishes}
use Rattle.mi_features.proofs.asking.choices_in.Given as goal

abbrev pub invariant-loop-place : goal.invariant-loop-place
invariant-loop-place l = (L : Lookups) (recorded : Option (List Text)) (level : ℕ) → AreWishes (rows_in l.loaded) L recorded level l.wishes
    → ((place : ℕ) (f : FeatureRow) → slice_get (rows_in l.loaded).feature place ≡ Some f → slice_get l.lines place ≡ Some (line_to (rows_in l.loaded) L recorded level f))
    → l.choices.items ≡ map (choice_to (rows_in l.loaded) L recorded level) (take l.place (rows_in l.loaded).feature)
