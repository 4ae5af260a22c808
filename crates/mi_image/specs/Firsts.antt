-- The first name from some bytes on (this project's own).
use Rattle.std.specs.Prelude.{◌≡◌, true, Some}
use Rattle.std.specs.Ordering.{is_le}
use Rattle.std.specs.FinMap.{get}
use Rattle.mi_text.specs.Maps.{Name, name_cmp}
use Rattle.mi_image.specs.declared.item.Item.{Item}
use Rattle.mi_image.specs.Items.{Items}

-- it stands there, isn't below these bytes, and comes before every other name that isn't
pub record IsFirstOf (image : Items) (from p : Name) (i : Item) : Type 0 where
  pub there : get image p ≡ Some i
  pub low : is_le (name_cmp from p) ≡ true
  pub first : (q : Name) (j : Item) → get image q ≡ Some j → is_le (name_cmp from q) ≡ true → is_le (name_cmp p q) ≡ true
