-- Lists of features as the program keeps them. (ADDLOCAL, REMOVE, ADDDEFAULT and REINSTALL Properties.)
use Rattle.std.specs.Prelude.{◌≡◌, ◌==◌, ◌||◌, not, Bool, length, codes, is_some}
use Rattle.std.specs.List.{list_any}
use Rattle.std.specs.BTreeSet.{contains}
use Rattle.mi_text.specs.Maps.{Name, name_cmp, same_name}
use Rattle.mi_text.specs.Lookups.{Lookups}
use Rattle.mi_schema.specs.TableRows.{Rows, feature_row_of}
use Rattle.mi_model.specs.Texts.{Text}
use Rattle.mi_model.specs.FeatureLists.{items_of, is_all}
use Rattle.mi_wishes.specs.declared.list.FeatureList.{FeatureList}
use Rattle.mi_wishes.specs.declared.list.Lists.{Lists}

abbrev pub is_item : Text → Bool
is_item part = not (length part == 0)

-- an item that isn't a feature's name is unknown
abbrev pub is_known : Rows → Text → Bool
is_known rows item = is_all item || is_some (feature_row_of rows item)

abbrev pub is_unknown : Rows → Text → Bool
is_unknown rows item = not (is_known rows item)

-- an item names this feature
abbrev pub names_feature : Name → Text → Bool
names_feature q item = is_all item || same_name item q

-- the kept list names exactly the features that this text does
abbrev pub IsList : Text → FeatureList → Type 0
IsList list l = (q : Name) → (l.all || contains name_cmp l.names q) ≡ list_any (names_feature q) (items_of list)

abbrev pub is_set : Lookups → Text → Bool
is_set L name = not (length (L.property name) == 0)

-- none of the five properties that name features is set
abbrev pub none_is_set : Lookups → Bool
none_is_set L = not (is_set L (codes "ADDLOCAL") || is_set L (codes "REMOVE") || is_set L (codes "ADDSOURCE") || is_set L (codes "ADDDEFAULT") || is_set L (codes "REINSTALL"))

-- the lists that the properties hold
pub record AreLists (L : Lookups) (l : Lists) : Type 0 where
  pub add_local : IsList (L.property (codes "ADDLOCAL")) l.add_local
  pub remove : IsList (L.property (codes "REMOVE")) l.remove
  pub add_default : IsList (L.property (codes "ADDDEFAULT")) l.add_default
  pub reinstall : IsList (L.property (codes "REINSTALL")) l.reinstall
  pub none : l.none ≡ none_is_set L
