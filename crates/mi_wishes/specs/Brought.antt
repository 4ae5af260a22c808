-- Features that a list brings. (ADDLOCAL Property; that it brings ancestors is this project's own.)
use Rattle.std.specs.Prelude.{ℕ, pos, ◌&&◌, ◌||◌, not, Bool, List, Option, unwrap_or}
use Rattle.std.specs.BTreeSet.{contains}
use Rattle.std.specs.List.{list_any}
use Rattle.std.specs.Ordering.{int_eq}
use Rattle.mi_text.specs.Maps.{name_cmp}
use Rattle.mi_text.specs.Lookups.{Lookups}
use Rattle.mi_schema.specs.declared.typed_rows.FeatureRow.{FeatureRow}
use Rattle.mi_schema.specs.TableRows.{Rows}
use Rattle.mi_model.specs.Texts.{Text}
use Rattle.mi_model.specs.FeatureLists.{is_listed, line_of, is_in_line}
use Rattle.mi_model.specs.Features as features
use Rattle.mi_wishes.specs.declared.list.FeatureList.{FeatureList}
use Rattle.mi_wishes.specs.declared.wishes.Wishes.{Wishes}
use Rattle.mi_wishes.specs.Levels.{level_at}

-- by what is kept: the list names the feature, which isn't disabled
abbrev pub is_bringing : Wishes → FeatureList → FeatureRow → Bool
is_bringing w l f = (l.all || contains name_cmp l.names f.feature) && not (int_eq (unwrap_or (level_at w.levels f.feature) f.level) (pos 0))

module _ (rows : Rows) (L : Lookups) (recorded : Option (List Text)) (level : ℕ) (list : Text) where
  abbrev pub brings : FeatureRow → Bool
  brings g = is_listed list g && not (features.is_disabled rows L recorded level g)

  -- it, or a feature below it, is named and isn't disabled
  abbrev pub is_brought : FeatureRow → Bool
  is_brought f = list_any (λ g. is_listed list g && not (features.is_disabled rows L recorded level g) && is_in_line f (line_of rows g)) rows.feature
