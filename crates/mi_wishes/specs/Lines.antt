-- What is said of a feature with its ancestors, step by step from the root down. (Feature Table.)
use Rattle.std.specs.Prelude.{ℕ, ◌&&◌, ◌||◌, Bool, true, false, if◌then◌else◌, List, [], codes, Option, Some, None, is_none, option_and_then}
use Rattle.std.specs.List.{list_any, list_all}
use Rattle.mi_text.specs.Lookups.{Lookups}
use Rattle.mi_schema.specs.declared.typed_rows.FeatureRow.{FeatureRow}
use Rattle.mi_schema.specs.TableRows.{Rows, feature_row_of}
use Rattle.mi_model.specs.Texts.{Text}
use Rattle.mi_model.specs.FeatureLists.{is_listed, line_of}
use Rattle.mi_model.specs.Features as features
use Rattle.mi_wishes.specs.declared.choice.Request.{Request}
use Rattle.mi_wishes.specs.declared.choice.Request.TheVariants.{Local, Absent, Reinstall}
use Rattle.mi_wishes.specs.declared.own.Own.{Own}
use Rattle.mi_wishes.specs.declared.own.Line.{Line}
use Rattle.mi_wishes.specs.Choices.{told}

abbrev pub by_lists : Own → Bool → Option Request
by_lists own removed =
    if own.added_default then Some Local
    else if removed then Some Absent
    else if own.added_local then Some Local
    else if own.reinstalled then Some Reinstall
    else None

abbrev pub asked : Own → Bool → Bool → Option Request
asked own by_level removed = if by_level then Some Local else by_lists own removed

abbrev pub followed : Option Request → Option Request → Option Request
followed own (Some Local) = Some Local
followed own (Some Absent) = Some Absent
followed own (Some Reinstall) = own
followed own None = own

abbrev pub no_line : Line
no_line = record { removed = false; within = true; request = None }

-- the line of a feature below a line
abbrev pub line_below : Bool → Own → Line → Line
line_below first own above = record {
  removed = own.removed || above.removed;
  within = own.within && above.within;
  request = if own.follows then followed (asked own (first && (own.within && above.within)) (own.removed || above.removed)) above.request else asked own (first && (own.within && above.within)) (own.removed || above.removed);
}

module _ (rows : Rows) (L : Lookups) (recorded : Option (List Text)) (level : ℕ) where
  abbrev pub own_of : FeatureRow → Own
  own_of f = record {
    removed = is_listed (L.property (codes "REMOVE")) f;
    added_local = features.is_added rows L recorded level (L.property (codes "ADDLOCAL")) f;
    added_default = features.is_added rows L recorded level (L.property (codes "ADDDEFAULT")) f;
    reinstalled = features.is_recorded_feature rows L recorded level f && is_listed (L.property (codes "REINSTALL")) f;
    within = features.is_within_level rows L recorded level f;
    follows = features.follows rows L recorded level f;
  }

  abbrev pub is_first : Bool
  is_first = features.names_none rows L recorded level && is_none recorded

  unfoldable pub line_to : FeatureRow → Line
  line_to f = record {
    removed = list_any (is_listed (L.property (codes "REMOVE"))) (line_of rows f);
    within = list_all (features.is_within_level rows L recorded level) (line_of rows f);
    request = told (features.request_of rows L recorded level f);
  }

-- the row of a feature's parent
abbrev pub parent_row : Rows → FeatureRow → Option FeatureRow
parent_row rows f = option_and_then (feature_row_of rows) f.feature_parent

-- the line from this row up
abbrev pub line_up : Rows → Option FeatureRow → List FeatureRow
line_up rows None = []
line_up rows (Some f) = line_of rows f
