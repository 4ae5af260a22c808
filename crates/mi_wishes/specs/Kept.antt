-- Lines of features by what is kept of them.
use Rattle.std.specs.Prelude.{◌≡◌, ℕ, ℤ, ◌&&◌, ◌||◌, not, pos, Bool, List, codes, Option, Some, None, slice_get, slice_index_or, unwrap_or, int_lt, int_le}
use Rattle.std.specs.BTreeSet.{contains}
use Rattle.std.specs.Ordering.{int_eq}
use Rattle.mi_text.specs.Maps.{name_cmp}
use Rattle.mi_text.specs.Lookups.{Lookups}
use Rattle.mi_schema.specs.declared.typed_rows.FeatureRow.{FeatureRow}
use Rattle.mi_schema.specs.TableRows.{Rows}
use Rattle.mi_model.specs.Conditions.{has}
use Rattle.mi_model.specs.Texts.{Text}
use Rattle.mi_wishes.specs.declared.list.FeatureList.{FeatureList}
use Rattle.mi_wishes.specs.declared.lines.Brought.{Brought}
use Rattle.mi_wishes.specs.declared.own.Own.{Own}
use Rattle.mi_wishes.specs.declared.own.Line.{Line}
use Rattle.mi_wishes.specs.declared.wishes.Wishes.{Wishes}
use Rattle.mi_wishes.specs.Brought.{is_brought}
use Rattle.mi_wishes.specs.Levels.{level_at}
use Rattle.mi_wishes.specs.Lines.{line_below, no_line}
use Rattle.mi_wishes.specs.Marks.{is_marked}

abbrev pub names_kept : FeatureList → FeatureRow → Bool
names_kept l f = l.all || contains name_cmp l.names f.feature

abbrev pub level_kept : Wishes → FeatureRow → ℤ
level_kept w f = unwrap_or (level_at w.levels f.feature) f.level

abbrev pub own_kept : Wishes → FeatureRow → Bool → Bool → Own
own_kept w f local by_default = record {
  removed = names_kept w.lists.remove f;
  added_local = not (int_eq (level_kept w f) (pos 0)) && local;
  added_default = not (int_eq (level_kept w f) (pos 0)) && by_default;
  reinstalled = contains name_cmp w.recorded f.feature && names_kept w.lists.reinstall f;
  within = int_lt (pos 0) (level_kept w f) && int_le (level_kept w f) (pos w.install_level);
  follows = has 2 f.attributes && not (int_eq (level_kept w f) (pos 0));
}

abbrev pub line_above : List Line → Option ℕ → Line
line_above lines None = no_line
line_above lines (Some p) = slice_index_or lines p no_line

abbrev pub line_kept : Wishes → Brought → ℕ → Line → FeatureRow → Line
line_kept w b place above f = line_below (w.lists.none && w.is_new) (own_kept w f (is_marked b.local.items place) (is_marked b.by_default.items place)) above

-- the marks are those of the features that the two lists bring
pub record AreBrought (rows : Rows) (L : Lookups) (recorded : Option (List Text)) (level : ℕ) (b : Brought) : Type 0 where
  pub local : (place : ℕ) (f : FeatureRow) → slice_get rows.feature place ≡ Some f → is_marked b.local.items place ≡ is_brought rows L recorded level (L.property (codes "ADDLOCAL")) f
  pub by_default : (place : ℕ) (f : FeatureRow) → slice_get rows.feature place ≡ Some f → is_marked b.by_default.items place ≡ is_brought rows L recorded level (L.property (codes "ADDDEFAULT")) f
