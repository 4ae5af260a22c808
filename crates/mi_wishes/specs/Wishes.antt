-- What properties, conditions and the product's record say of features, as the program keeps it.
use Rattle.std.specs.Prelude.{◌≡◌, ℕ, List, Option, is_none, unwrap_or, []}
use Rattle.std.specs.BTreeSet.{contains}
use Rattle.mi_text.specs.Maps.{Name, name_cmp, is_among}
use Rattle.mi_text.specs.Lookups.{Lookups}
use Rattle.mi_schema.specs.TableRows.{Rows}
use Rattle.mi_model.specs.Texts.{Text}
use Rattle.mi_wishes.specs.declared.wishes.Wishes.{Wishes}
use Rattle.mi_wishes.specs.Levels.{AreLevels}
use Rattle.mi_wishes.specs.Lists.{AreLists}

pub record AreWishes (rows : Rows) (L : Lookups) (features : Option (List Text)) (level : ℕ) (w : Wishes) : Type 0 where
  pub levels : AreLevels L rows.condition w.levels
  pub lists : AreLists L w.lists
  pub recorded : (q : Name) → contains name_cmp w.recorded q ≡ is_among q (unwrap_or features [])
  pub is_new : w.is_new ≡ is_none features
  pub install_level : w.install_level ≡ level
