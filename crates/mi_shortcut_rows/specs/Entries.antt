-- What a row of Shortcut says of its shortcut. (Shortcut Table.)
use Rattle.std.specs.Prelude.{◌≡◌, pos, negsuc, IfSome}
use Rattle.mi_base.specs.declared.entry.Entry.{Entry}
use Rattle.mi_base.specs.declared.entry.Entry.TheVariants as entry
use Rattle.mi_base.specs.declared.entry.Shortcut.{Shortcut}
use Rattle.mi_schema.specs.Laws.{IsWithin}
use Rattle.mi_schema.specs.declared.typed_rows.ShortcutRow.{ShortcutRow}
use Rattle.mi_model.specs.Texts.{Text}

-- its numbers are of their columns' ranges
pub record HasNumbers (r : ShortcutRow) : Type 0 where
  pub hotkey : IfSome r.hotkey (IsWithin (pos 0) (pos 65535))
  pub icon_index : IfSome r.icon_index (IsWithin (negsuc 32766) (pos 32767))
  pub show_cmd : IfSome r.show_cmd (IsWithin (pos 0) (pos 65535))

-- the entry is a shortcut of this path
pub record IsShortcutAt (path : Text) (e : Entry) : Type 0 where
  pub shortcut : Shortcut
  pub is : e ≡ entry.Shortcut shortcut
  pub shown : shortcut.shown ≡ path
