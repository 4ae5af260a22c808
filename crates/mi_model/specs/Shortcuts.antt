-- CreateShortcuts and RemoveShortcuts. (CreateShortcuts Action; RemoveShortcuts Action; Shortcut Table. Shortcuts as records are this
-- project's own.)
use Rattle.std.specs.Prelude.{ℕ, ℤ, pos, negsuc, Bool, if◌then◌else◌, List, [], ◌∷◌, ◌++◌, map, codes, Option, Some, None, is_some, option_map, option_and_then, unwrap_or, ok_or, Result, Ok}
use Rattle.std.specs.List.{filter_map}
use Rattle.std.specs.Result.{result_ok}
use Rattle.std.specs.Option.{option_map_or}
use Rattle.mi_text.specs.Maps.{Name}
use Rattle.mi_text.specs.Path.{file_of, up_to_last}
use Rattle.mi_base.specs.declared.entry.Entry.{Entry}
use Rattle.mi_base.specs.declared.entry.Entry.TheVariants.{Shortcut}
use Rattle.mi_base.specs.Names.{shortcut_name}
use Rattle.mi_dirs.specs.Places.{target_of}
use Rattle.mi_schema.specs.declared.typed_rows.ShortcutRow.{ShortcutRow}
use Rattle.mi_model.specs.Texts.{Text}
use Rattle.mi_base.specs.declared.answers.Fault.{Fault}
use Rattle.mi_base.specs.declared.answers.Fault.TheVariants.{BadPath}
use Rattle.mi_model.specs.World.{World, Effect}
use Rattle.mi_schema.specs.TableRows.{Numbered, feature_row_of, component_row_of}
use Rattle.mi_changes.specs.Touches.{Touch, Set}
use Rattle.mi_model.specs.Asked.{comes, leaves, lookups, dirs_of}
use Rattle.mi_text.specs.FileNames.{long_name}
use Rattle.mi_model.specs.Refusals.{◌>>=◌, expanded, expanded_or_empty, size_fault, unless}
use Rattle.mi_model.specs.Parents.{parents_of_path}
use Rattle.mi_model.specs.ComponentRows.{rows_that, is_guarded_by}
use Rattle.mi_model.specs.ClientRows.{recorded_path}
use Rattle.mi_model.specs.Prune.{prune_folders}

abbrev pub shortcut_table : Text
shortcut_table = codes "Shortcut"

-- ---- where a shortcut lies

unfoldable pub shortcut_path : World → ShortcutRow → Option Text
shortcut_path w r = option_and_then (λ folder. result_ok (file_of folder (long_name r.name))) (target_of (dirs_of w) r.directory)

abbrev pub path_or_refused : World → Numbered ShortcutRow → Result Text Fault
path_or_refused w r = ok_or (shortcut_path w r.row) (BadPath shortcut_table r.number)

-- ---- what a shortcut is

-- a Feature key stands for the component's key path, and any other text is expanded
unfoldable pub target_text : World → Numbered ShortcutRow → Result Text Fault
target_text w r =
    if is_some (feature_row_of w.given.rows r.row.target)
    then option_map_or (recorded_path w) (component_row_of w.given.rows r.row.component) (Ok [])
    else expanded (lookups w) shortcut_table r.number r.row.target

abbrev pub natural : ℤ → ℕ
natural (pos n) = n
natural (negsuc n) = 0

-- the property that WkDir names
abbrev pub folder_text : World → Option Text → Text
folder_text w dir = option_map_or (lookups w).property dir []

abbrev pub shortcut_entry : World → ShortcutRow → Text → Text → Text → Entry
shortcut_entry w r path target arguments = Shortcut (record {
  shown = path;
  target = target;
  arguments = arguments;
  description = unwrap_or r.description [];
  hotkey = natural (unwrap_or r.hotkey (pos 0));
  icon = unwrap_or r.icon [];
  icon_index = unwrap_or r.icon_index (pos 0);
  show = natural (unwrap_or r.show_cmd (pos 1));
  folder = folder_text w r.wk_dir;
})

-- ---- CreateShortcuts

-- a shortcut brings its missing folders
abbrev pub shortcut_touches : Text → Entry → List (Touch Entry)
shortcut_touches path e = parents_of_path path ++ Set (shortcut_name path) (λ old. Some e) ∷ []

unfoldable pub created_touches : World → Numbered ShortcutRow → Result (List (Touch Entry)) Fault
created_touches w r = do
  path ← path_or_refused w r
  target ← target_text w r
  arguments ← expanded_or_empty (lookups w) shortcut_table r.number r.row.arguments
  let e = shortcut_entry w r.row path target arguments in unless (size_fault shortcut_table r.number e) (Ok (shortcut_touches path e))

unfoldable pub create_shortcuts : Effect
create_shortcuts w = Ok (map (λ r m. created_touches w r) (rows_that (λ (r : ShortcutRow). r.shortcut) (λ (r : ShortcutRow). r.component) (comes w) w.given.rows.shortcut))

-- ---- RemoveShortcuts

abbrev pub shortcut_named : World → Numbered ShortcutRow → Option Name
shortcut_named w r = option_map shortcut_name (shortcut_path w r.row)

-- a row of a kept component names this shortcut
unfoldable pub is_guarded_shortcut : World → Name → Bool
is_guarded_shortcut w name = is_guarded_by w (λ (r : ShortcutRow). r.component) (shortcut_named w) w.given.rows.shortcut name

abbrev pub without_shortcut : World → Name → List (Touch Entry)
without_shortcut w name = if is_guarded_shortcut w name then [] else Set name (λ old. None) ∷ []

unfoldable pub removed_shortcut : World → Numbered ShortcutRow → Result (List (Touch Entry)) Fault
removed_shortcut w r = path_or_refused w r >>= λ path. Ok (without_shortcut w (shortcut_name path))

unfoldable pub leaving_shortcuts : World → List (Numbered ShortcutRow)
leaving_shortcuts w = rows_that (λ (r : ShortcutRow). r.shortcut) (λ (r : ShortcutRow). r.component) (leaves w) w.given.rows.shortcut

-- the folders in which they lie
abbrev pub touched_folders : World → List Text
touched_folders w = filter_map (λ (r : Numbered ShortcutRow). option_map up_to_last (shortcut_path w r.row)) (leaving_shortcuts w)

unfoldable pub remove_shortcuts : Effect
remove_shortcuts w = Ok (map (λ r m. removed_shortcut w r) (leaving_shortcuts w) ++ prune_folders w (touched_folders w) ∷ [])
