-- Names outside of the rollback area.
use Rattle.std.proofs.Common.{◌≡◌, ℕ, true, false, List, Option, Some, None, refl, sym, ap, ◌∙◌}
use Rattle.std.specs.Prelude.{is_some}
use Rattle.std.specs.FinMap.{get}
use Rattle.mi_text.specs.Maps.{Name}
use Rattle.mi_base.specs.declared.entry.FileHead.{FileHead}
use Rattle.mi_base.specs.declared.entry.Entry.{Entry}
use Rattle.mi_base.specs.declared.entry.Entry.TheVariants as entry
use Rattle.mi_base.specs.Names.{file_name, folder_name, key_name, value_name, shortcut_name, variable_name, client_name, product_name, system_name}
use Rattle.mi_base.specs.Spelling.{name_of}
use Rattle.mi_image.specs.declared.item.Item.{Item}
use Rattle.mi_image.specs.declared.item.Item.TheVariants.{Head, Whole}
use Rattle.mi_image.specs.Items.{Items, MayStand, HeadMayStand, AreRight}
use Rattle.mi_undo.specs.Names.{is_inside}

pub file_outside : (path : List ℕ) → is_inside (file_name path) ≡ false
unfolding file_name
file_outside path = refl

named_outside : (e : Entry) → is_inside (name_of e) ≡ false
unfolding folder_name key_name value_name shortcut_name variable_name client_name product_name system_name
named_outside (entry.File f) = file_outside f.shown
named_outside (entry.Folder t) = refl
named_outside (entry.Value k v) = refl
named_outside (entry.Key r t) = refl
named_outside (entry.Shortcut s) = refl
named_outside (entry.Variable v) = refl
named_outside (entry.Client c) = refl
named_outside (entry.Product p) = refl
named_outside (entry.System p t) = refl

pub may_outside : (q : Name) (i : Item) → MayStand q i → is_inside q ≡ false
may_outside q (Head h content) may = ap is_inside (sym may.named) ∙ file_outside h.shown
may_outside q (Whole e) may = ap is_inside (sym may.named) ∙ named_outside e

pub head_outside : (q : Name) (h : FileHead) → HeadMayStand q h → is_inside q ≡ false
head_outside q h may = ap is_inside (sym may.named) ∙ file_outside h.shown

-- what stands in an image
pub held_outside : (items : Items) (q : Name) → AreRight items → is_some (get items q) ≡ true → is_inside q ≡ false
held_outside items q right held = by_item (get items q) refl held
  where
    by_item : (o : Option Item) → get items q ≡ o → is_some o ≡ true → is_inside q ≡ false
    by_item None at held = absurd cc
    by_item (Some i) at held = may_outside q i (right q i at)
