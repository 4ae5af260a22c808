-- The lists of features that properties hold, and a feature's line of ancestors. (ADDLOCAL, REMOVE, ADDSOURCE, ADDDEFAULT and REINSTALL
-- Properties; Feature Table, Feature_Parent.)
use Rattle.std.specs.Prelude.{ℕ, zero, suc, ◌==◌, ◌||◌, not, Bool, if◌then◌else◌, List, [], ◌∷◌, filter, find, length, codes, Option, Some, None, is_some, option_map, option_and_then}
use Rattle.std.specs.Option.{option_or}
use Rattle.std.specs.List.{list_any, slice_split}
use Rattle.std.specs.Str.{bytes_eq}
use Rattle.mi_text.specs.Maps.{same_name}
use Rattle.mi_text.specs.Lookups.{Lookups}
use Rattle.mi_schema.specs.declared.typed_rows.FeatureRow.{FeatureRow}
use Rattle.mi_model.specs.Texts.{Text}
use Rattle.mi_base.specs.declared.answers.Fault.{Fault}
use Rattle.mi_base.specs.declared.answers.Fault.TheVariants.{UnknownFeature, AddSource}
use Rattle.mi_schema.specs.TableRows.{Rows, feature_row_of}

-- ---- lists of features: names joined by `,`, of which `ALL` names all features

abbrev pub items_of : Text → List Text
items_of list = filter (λ item. not (length item == 0)) (slice_split (λ b. b == 44) list)

abbrev pub is_all : Text → Bool
is_all item = bytes_eq item (codes "ALL")

abbrev pub is_listed : Text → FeatureRow → Bool
is_listed list f = list_any (λ item. is_all item || same_name item f.feature) (items_of list)

-- the first item that names nothing
abbrev pub unknown_in : Rows → Text → Option Fault
unknown_in rows list = option_map UnknownFeature (find (λ item. not (is_all item || is_some (feature_row_of rows item))) (items_of list))

abbrev pub add_source_in : Text → Option Fault
add_source_in list = if length list == 0 then None else Some AddSource

-- the first refusal of the lists, in the order in which they are read
unfoldable pub lists_fault : Rows → Lookups → Option Fault
lists_fault rows L =
    option_or (unknown_in rows (L.property (codes "ADDLOCAL"))) (
    option_or (unknown_in rows (L.property (codes "REMOVE"))) (
    option_or (add_source_in (L.property (codes "ADDSOURCE"))) (
    option_or (unknown_in rows (L.property (codes "ADDDEFAULT"))) (
    unknown_in rows (L.property (codes "REINSTALL"))))))

-- ---- a feature and its ancestors

-- from this row up; the number bounds the chain of parents, and one that ends has no feature twice
abbrev pub line_within : Rows → ℕ → Option FeatureRow → List FeatureRow
line_within rows zero row = []
line_within rows (suc n) None = []
line_within rows (suc n) (Some f) = f ∷ line_within rows n (option_and_then (feature_row_of rows) f.feature_parent)

abbrev pub line_of : Rows → FeatureRow → List FeatureRow
line_of rows f = line_within rows (length rows.feature) (Some f)

abbrev pub is_in_line : FeatureRow → List FeatureRow → Bool
is_in_line f line = list_any (λ (g : FeatureRow). same_name f.feature g.feature) line
