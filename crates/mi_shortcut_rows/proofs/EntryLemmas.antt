-- The entry of a row, by its fields.
use Rattle.std.proofs.Common.{◌≡◌, ℕ, []}
use Rattle.std.specs.Prelude.{ℤ, pos, unwrap_or}
use Rattle.mi_base.specs.declared.entry.Entry.TheVariants as entry
use Rattle.mi_schema.specs.declared.typed_rows.ShortcutRow.{ShortcutRow}
use Rattle.mi_model.specs.Texts.{Text}
use Rattle.mi_model.specs.World.{World}
use Rattle.mi_model.specs.Shortcuts.{natural, folder_text, shortcut_entry}

pub entry_is : (w : World) (r : ShortcutRow) (shown target arguments description icon folder : Text) (hotkey show : ℕ) (icon_index : ℤ)
    → description ≡ unwrap_or r.description [] → hotkey ≡ natural (unwrap_or r.hotkey (pos 0)) → icon ≡ unwrap_or r.icon [] → icon_index ≡ unwrap_or r.icon_index (pos 0) → show ≡ natural (unwrap_or r.show_cmd (pos 1)) → folder ≡ folder_text w r.wk_dir
    → entry.Shortcut (record { shown = shown; target = target; arguments = arguments; description = description; hotkey = hotkey; icon = icon; icon_index = icon_index; show = show; folder = folder }) ≡ shortcut_entry w r shown target arguments
entry_is w r shown target arguments description icon folder hotkey show icon_index a b c d e f = cc
