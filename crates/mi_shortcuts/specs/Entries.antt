-- What rows of Shortcut make, step by step. (Shortcut Table.)
use Rattle.std.specs.Prelude.{ℕ, if◌then◌else◌, List, Option, None, option_map, Result, Ok}
use Rattle.mi_text.specs.Maps.{Name}
use Rattle.mi_text.specs.Fold.{folded}
use Rattle.mi_text.specs.Path.{up_to_last}
use Rattle.mi_base.specs.declared.answers.Fault.{Fault}
use Rattle.mi_base.specs.declared.entry.Entry.{Entry}
use Rattle.mi_schema.specs.TableRows.{Numbered}
use Rattle.mi_schema.specs.declared.typed_rows.ShortcutRow.{ShortcutRow}
use Rattle.mi_model.specs.Texts.{Text}
use Rattle.mi_model.specs.World.{World, RowEffect}
use Rattle.mi_model.specs.Asked.{keeps, lookups}
use Rattle.mi_model.specs.Refusals.{◌>>=◌, expanded_or_empty, size_fault, unless}
use Rattle.mi_model.specs.Shortcuts.{shortcut_table, shortcut_path, shortcut_entry, shortcut_touches, shortcut_named, target_text, created_touches, removed_shortcut}

-- ---- a row that creates

-- the entry of a row with its path and its target
abbrev pub with_arguments : World → Numbered ShortcutRow → Text → Text → Result Entry Fault
with_arguments w r path target = expanded_or_empty (lookups w) shortcut_table r.number r.row.arguments >>= λ arguments. Ok (shortcut_entry w r.row path target arguments)

-- the entry of a row with its path
abbrev pub entry_of_row : World → Numbered ShortcutRow → Text → Result Entry Fault
entry_of_row w r path = target_text w r >>= with_arguments w r path

-- what the row with this number does that makes this entry
abbrev pub created_effect : ℕ → Text → Entry → RowEffect
created_effect row path e m = unless (size_fault shortcut_table row e) (Ok (shortcut_touches path e))

abbrev pub created_at : World → Numbered ShortcutRow → Text → RowEffect
created_at w r path m = entry_of_row w r path >>= λ e. created_effect r.number path e m

abbrev pub create_effect : World → Numbered ShortcutRow → RowEffect
create_effect w r m = created_touches w r

-- ---- a row that removes

abbrev pub remove_effect : World → Numbered ShortcutRow → RowEffect
remove_effect w r m = removed_shortcut w r

-- the shortcut that a row guards
abbrev pub guarded_by : World → ShortcutRow → Option Name
guarded_by w r = if keeps w r.component then shortcut_named w (record { number = 0; row = r }) else None

-- the folder in which it lies, folded
abbrev pub touched_by : World → Numbered ShortcutRow → Option (List ℕ)
touched_by w r = option_map (λ path. folded (up_to_last path)) (shortcut_path w r.row)
