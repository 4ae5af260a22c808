-- Which values of the registry go, and by which rows. (RemoveRegistryValues Action; Registry Table; RemoveRegistry Table;
-- ProcessComponents Action; Component Table, Attributes, msidbComponentAttributesSharedDllRefCount.)
use Rattle.std.specs.Prelude.{◌≡◌, ℕ, Bool, true, false, not, ◌&&◌, ◌||◌, if◌then◌else◌, List, [], ◌∷◌, codes, Some, None, Result, Ok, Err}
use Rattle.std.specs.List.{list_any, AllByRecursion}
use Rattle.std.specs.Option.{option_map_or}
use Rattle.std.specs.Result.{result_ok}
use Rattle.std.specs.Str.{bytes_eq}
use Rattle.std.specs.FinMap.{get}
use Rattle.mi_text.specs.Maps.{Name, same_name}
use Rattle.mi_base.specs.declared.entry.Entry.{Entry}
use Rattle.mi_base.specs.declared.answers.Fault.{Fault}
use Rattle.mi_base.specs.Machine.{Machine}
use Rattle.mi_base.specs.Names.{value_name}
use Rattle.mi_schema.specs.TableRows.{Numbered}
use Rattle.mi_schema.specs.declared.typed_rows.ComponentRow.{ComponentRow}
use Rattle.mi_model.specs.Texts.{Text}
use Rattle.mi_model.specs.World.{World, Effect}
use Rattle.mi_model.specs.Asked.{leaves, lookups}
use Rattle.mi_model.specs.ClientRows.{recorded_path}
use Rattle.mi_model.specs.SharedCounts.{count_name}
use Rattle.mi_model.specs.RegistryRows.{RegistryPlace, RegistryMeaning, Says, KeyAlone, Makes, Removes, MakesAndRemoves, Writes, name_of_value, removal_place, registry_meaning}
use Rattle.mi_model.specs.RegistryGuards.{unguarded}
use Rattle.mi_model.specs.CountRows.{is_guarded}
use Rattle.mi_model.specs.WriteRegistryValues.{write_registry_values}
use Rattle.mi_model.specs.RemoveRegistryValues.{leaving_rows, removal_rows, remove_registry_values}
use Rattle.mi_model.specs.ProcessComponents.{process_components}
use Rattle.mi_model.specs.Shortcuts.{remove_shortcuts, create_shortcuts}
use Rattle.mi_model.specs.RemoveEnvironmentStrings.{remove_environment_strings}
use Rattle.mi_model.specs.DuplicateFiles.{remove_duplicate_files, duplicate_files}
use Rattle.mi_model.specs.RemoveFiles.{remove_files}
use Rattle.mi_model.specs.Folders.{remove_folders, create_folders}
use Rattle.mi_model.specs.InstallFiles.{install_files}
use Rattle.mi_model.specs.WriteEnvironmentStrings.{write_environment_strings}
use Rattle.mi_model.specs.PublishProduct.{publish_product}
use Rattle.mi_model_laws.specs.PhaseLaws.{IsAfter}
use Rattle.mi_model_laws.specs.RegistryLaws.{goes_with}
use Rattle.mi_model_laws.specs.RecordLaws.{counted_components, is_count}

-- ---- rows that name a value

-- a row takes the value: `-` and `*` all of its key and below it, another row its own; a guarded one stays
abbrev pub says_taken : (Name → Bool) → Name → RegistryPlace → Says → Bool
says_taken guarded q p KeyAlone = false
says_taken guarded q p Makes = false
says_taken guarded q p Removes = goes_with guarded p q
says_taken guarded q p MakesAndRemoves = goes_with guarded p q
says_taken guarded q p (Writes text) = same_name q (name_of_value p) && not (guarded q)

abbrev pub is_taken_by : (Name → Bool) → Name → Result RegistryMeaning Fault → Bool
is_taken_by guarded q (Ok r) = says_taken guarded q r.place r.says
is_taken_by guarded q (Err fault) = false

-- a row of Registry of a leaving component names it
abbrev pub is_named_by_leaving : World → Name → Bool
is_named_by_leaving w q = list_any (λ r. is_taken_by (is_guarded w) q (registry_meaning (lookups w) r)) (leaving_rows w)

abbrev pub is_removed_by : Name → Result RegistryPlace Fault → Bool
is_removed_by q (Ok p) = if bytes_eq p.name (codes "-") then goes_with unguarded p q else same_name q (name_of_value p)
is_removed_by q (Err fault) = false

-- a row of RemoveRegistry of a component that is made local names it
abbrev pub is_named_by_removal : World → Name → Bool
is_named_by_removal w q = list_any (λ r. is_removed_by q (removal_place (lookups w) r)) (removal_rows w)

-- ---- counts

-- the count of a component's file is a row of it: one that leaves takes it, where nothing guards it
abbrev pub is_count_of_leaving : World → Name → Bool
is_count_of_leaving w q =
    list_any (λ (c : Numbered ComponentRow). leaves w c.row.component && option_map_or (λ path. same_name q (count_name path)) (result_ok (recorded_path w c.row)) false && not (is_guarded w q)) (counted_components w)

-- ---- the law

-- a value that stood before a phase and doesn't behind it
pub record Goes (effect : Effect) (w : World) (q : Name) : Type 0 where
  pub machine : Machine
  pub after : IsAfter effect w machine
  pub entry : Entry
  pub stood : get w.machine q ≡ Some entry
  pub gone : get machine q ≡ None

-- values stand as they did
abbrev pub KeepsValues : Effect → Type 0
KeepsValues effect = (w : World) (m : Machine) → IsAfter effect w m → (root : ℕ) (key name : Text) → get m (value_name root key name) ≡ get w.machine (value_name root key name)

-- the phases but those of the registry and ProcessComponents
abbrev pub other_phases : List Effect
other_phases =
    remove_shortcuts
    ∷ remove_environment_strings
    ∷ remove_duplicate_files
    ∷ remove_files
    ∷ remove_folders
    ∷ create_folders
    ∷ install_files
    ∷ duplicate_files
    ∷ create_shortcuts
    ∷ write_environment_strings
    ∷ publish_product
    ∷ []

pub record ValuesGoByRows : Type 0 where
  -- a value that RemoveRegistryValues takes is named by a row of a leaving component, or by a row of RemoveRegistry
  pub removed : (w : World) (root : ℕ) (key name : Text) → Goes remove_registry_values w (value_name root key name) → (is_named_by_leaving w (value_name root key name) || is_named_by_removal w (value_name root key name)) ≡ true
  -- WriteRegistryValues takes none
  pub written : (w : World) (root : ℕ) (key name : Text) → ¬ Goes write_registry_values w (value_name root key name)
  -- one that ProcessComponents takes is the count of a leaving component
  pub counted : (w : World) (root : ℕ) (key name : Text) → Goes process_components w (value_name root key name) → is_count_of_leaving w (value_name root key name) ≡ true
  -- and it leaves as it was what is the count of no component
  pub uncounted : (w : World) (m : Machine) → IsAfter process_components w m → (root : ℕ) (key name : Text) → is_count w (value_name root key name) ≡ false → get m (value_name root key name) ≡ get w.machine (value_name root key name)
  pub others : AllByRecursion KeepsValues other_phases
