-- What is asked of each feature. (Feature Table; Condition Table; ADDLOCAL, REMOVE, ADDSOURCE, ADDDEFAULT, REINSTALL and INSTALLLEVEL
-- Properties. That the greatest level holds, that ADDLOCAL brings ancestors, that REMOVE takes descendants and that ADDDEFAULT acts as
-- ADDLOCAL is this project's own.)
use Rattle.std.specs.Prelude.{ℕ, ℤ, pos, ◌==◌, ◌&&◌, ◌||◌, not, Bool, true, false, if◌then◌else◌, List, [], ◌∷◌, map, filter, fold, length, codes, Option, Some, None, is_none, unwrap_or, int_le, int_lt}
use Rattle.std.specs.Int.{int_max}
use Rattle.std.specs.Ordering.{int_eq}
use Rattle.std.specs.List.{list_any, list_all}
use Rattle.mi_text.specs.Maps.{same_name, is_among}
use Rattle.mi_text.specs.Lookups.{Lookups}
use Rattle.mi_schema.specs.declared.typed_rows.FeatureRow.{FeatureRow}
use Rattle.mi_schema.specs.declared.typed_rows.ConditionRow.{ConditionRow}
use Rattle.mi_model.specs.Texts.{Text}
use Rattle.mi_model.specs.Conditions.{holds, has}
use Rattle.mi_model.specs.FeatureLists.{is_listed, line_of, is_in_line}
use Rattle.mi_schema.specs.TableRows.{Rows}
use Rattle.mi_model.specs.World.{Request, Local, Absent, Reinstall}

-- the greatest of the numbers, or this where there are none
abbrev pub greatest_or : ℤ → List ℤ → ℤ
greatest_or z [] = z
greatest_or z (n ∷ ns) = fold int_max n ns

-- `recorded` has the features of this product's record, if there is one; `install_level` is the value of INSTALLLEVEL
module _ (rows : Rows) (L : Lookups) (recorded : Option (List Text)) (install_level : ℕ) where
  -- the greatest Level of the feature's conditions that hold, else its own
  abbrev pub level_of : FeatureRow → ℤ
  level_of f = greatest_or f.level (map (λ (c : ConditionRow). c.level) (filter (λ (c : ConditionRow). same_name f.feature c.feature && holds L c.condition) rows.condition))

  abbrev pub is_disabled : FeatureRow → Bool
  is_disabled f = int_eq (level_of f) (pos 0)

  abbrev pub is_recorded_feature : FeatureRow → Bool
  is_recorded_feature f = is_among f.feature (unwrap_or recorded [])

  -- ---- the lists

  -- a listed feature that isn't disabled, and each of its ancestors that isn't
  abbrev pub is_added : Text → FeatureRow → Bool
  is_added list f = not (is_disabled f) && list_any (λ g. is_listed list g && not (is_disabled g) && is_in_line f (line_of rows g)) rows.feature

  -- a listed feature, and each of its descendants
  abbrev pub is_removed : Text → FeatureRow → Bool
  is_removed list f = list_any (is_listed list) (line_of rows f)

  abbrev pub with_added : Text → FeatureRow → Option Request → Option Request
  with_added list f request = if is_added list f then Some Local else request

  abbrev pub with_removed : Text → FeatureRow → Option Request → Option Request
  with_removed list f request = if is_removed list f then Some Absent else request

  -- a listed feature that is recorded and has no request
  abbrev pub with_reinstalled : Text → FeatureRow → Option Request → Option Request
  with_reinstalled list f request = if is_none request && is_recorded_feature f && is_listed list f then Some Reinstall else request

  -- each list overrides those before it
  abbrev pub by_lists : FeatureRow → Option Request
  by_lists f =
      with_reinstalled (L.property (codes "REINSTALL")) f (
      with_added (L.property (codes "ADDDEFAULT")) f (
      with_removed (L.property (codes "REMOVE")) f (
      with_added (L.property (codes "ADDLOCAL")) f None)))

  -- ---- a first installation that names no features

  abbrev pub is_set : Text → Bool
  is_set name = not (length (L.property name) == 0)

  abbrev pub names_none : Bool
  names_none = not (is_set (codes "ADDLOCAL") || is_set (codes "REMOVE") || is_set (codes "ADDSOURCE") || is_set (codes "ADDDEFAULT") || is_set (codes "REINSTALL"))

  abbrev pub is_within_level : FeatureRow → Bool
  is_within_level f = int_lt (pos 0) (level_of f) && int_le (level_of f) (pos install_level)

  -- by INSTALLLEVEL: the feature and all its ancestors are within it
  abbrev pub own_request : FeatureRow → Option Request
  own_request f = if names_none && is_none recorded && list_all is_within_level (line_of rows f) then Some Local else by_lists f

  -- ---- features that follow their parents (Feature Table, Attributes)

  abbrev pub follows : FeatureRow → Bool
  follows f = has 2 f.attributes && not (is_disabled f)

  -- what the parent is asked, where that is to be local or absent
  abbrev pub followed_or : Option Request → Option Request → Option Request
  followed_or own (Some Local) = Some Local
  followed_or own (Some Absent) = Some Absent
  followed_or own other = own

  -- the request of the first of a line, from the root down
  abbrev pub request_in : List FeatureRow → Option Request
  request_in [] = None
  request_in (f ∷ above) = if follows f then followed_or (own_request f) (request_in above) else own_request f

  -- what is asked of a feature
  unfoldable pub request_of : FeatureRow → Option Request
  request_of f = request_in (line_of rows f)

  abbrev pub is_local : Option Request → Bool
  is_local (Some Local) = true
  is_local other = false

  abbrev pub is_absent : Option Request → Bool
  is_absent (Some Absent) = true
  is_absent other = false

  -- the feature is installed after the run
  unfoldable pub is_local_after : FeatureRow → Bool
  is_local_after f = is_local (request_of f) || (is_recorded_feature f && not (is_absent (request_of f)))
