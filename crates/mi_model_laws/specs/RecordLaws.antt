-- What ProcessComponents, PublishProduct and the phases of shortcuts and variables leave, name by name. (ProcessComponents Action;
-- PublishProduct Action; CreateShortcuts Action; RemoveShortcuts Action; WriteEnvironmentStrings Action; RemoveEnvironmentStrings Action.)
use Rattle.std.specs.Prelude.{◌≡◌, ℕ, Bool, true, false, if◌then◌else◌, ◌&&◌, not, List, [], flat_map, map, filter, nat_eq, codes, Option, Some, None, Result, Ok, Err}
use Rattle.std.specs.List.{list_any, starts_with}
use Rattle.std.specs.Option.{option_map_or, option_or}
use Rattle.std.specs.FinMap.{get, keys}
use Rattle.mi_text.specs.Maps.{Name, same_name}
use Rattle.mi_text.specs.Path.{up_to_last}
use Rattle.mi_text.specs.declared.guid.Guid.{Guid}
use Rattle.mi_base.specs.declared.entry.Entry.{Entry}
use Rattle.mi_base.specs.declared.entry.Entry.TheVariants as entry
use Rattle.mi_base.specs.declared.answers.Fault.{Fault}
use Rattle.mi_base.specs.Machine.{Machine, as_variable}
use Rattle.mi_base.specs.Names.{client_name, product_name, shortcut_name, folder_name, key_name, value_name}
use Rattle.mi_schema.specs.TableRows.{Numbered, in_key_order, product_code}
use Rattle.mi_schema.specs.declared.typed_rows.ComponentRow.{ComponentRow}
use Rattle.mi_schema.specs.declared.typed_rows.ShortcutRow.{ShortcutRow}
use Rattle.mi_schema.specs.declared.typed_rows.EnvironmentRow.{EnvironmentRow}
use Rattle.mi_model.specs.Texts.{Text}
use Rattle.mi_model.specs.World.{World, Action, MakeLocal, MakeAbsent}
use Rattle.mi_model.specs.Asked.{chosen, comes, leaves, lookups}
use Rattle.mi_model.specs.Conditions.{has}
use Rattle.mi_model.specs.ComponentRows.{action_in, rows_that}
use Rattle.mi_model.specs.Components.{is_made_local}
use Rattle.mi_model.specs.States.{is_present}
use Rattle.mi_model.specs.PhaseRows.{Touches, after_rows, by_rows}
use Rattle.mi_model.specs.Parents.{folders_down_to, keys_down_to}
use Rattle.mi_model.specs.Prune.{Seat, Holder, goes, key_place, key_seat}
use Rattle.mi_model.specs.RegistryGuards.{kept_keys}
use Rattle.mi_model.specs.ClientRows.{recorded_path, the_system, client}
use Rattle.mi_model.specs.SharedCounts.{shared_key, count_name, raised, lowered, is_counted}
use Rattle.mi_model.specs.CountRows.{is_guarded, counted_path}
use Rattle.mi_model.specs.ProcessComponents.{processed, touched_counts, process_components}
use Rattle.mi_model.specs.PublishProduct.{product_after, publish_product}
use Rattle.mi_model.specs.Shortcuts.{shortcut_path, shortcut_entry, target_text, is_guarded_shortcut, shortcut_named, leaving_shortcuts, create_shortcuts, remove_shortcuts, shortcut_table}
use Rattle.mi_model.specs.Refusals.{expanded_or_empty}
use Rattle.mi_model.specs.EnvironmentRows.{Form, environment_form, named_variable}
use Rattle.mi_model.specs.WriteEnvironmentStrings.{variable_after, write_environment_strings}
use Rattle.mi_model.specs.RemoveEnvironmentStrings.{removing_rows, is_guarded_variable, variable_less, remove_environment_strings}
use Rattle.mi_model_laws.specs.PhaseLaws.{IsAfter, in_turn, first_named}

-- ---- clients: at each the components with its id, in key order

-- a local component's client, and with a permanent one the system's
abbrev pub client_made : World → ComponentRow → Guid → Name → Result Text Fault → Option Entry → Option Entry
client_made w c id q (Err fault) old = old
client_made w c id q (Ok path) old =
    if has 16 c.attributes && same_name q (client_name id.number the_system) then Some (client id the_system path)
    else if same_name q (client_name id.number (product_code w.given.rows)) then Some (client id (product_code w.given.rows) path)
    else old

-- an absent one's goes
abbrev pub client_after : World → ComponentRow → Guid → Name → Option Action → Option Entry → Option Entry
client_after w c id q (Some MakeLocal) old = client_made w c id q (recorded_path w c) old
client_after w c id q (Some MakeAbsent) old = if same_name q (client_name id.number (product_code w.given.rows)) then None else old
client_after w c id q None old = old

abbrev pub client_by : World → Name → Numbered ComponentRow → Option Entry → Option Entry
client_by w q c old = option_map_or (λ (id : Guid). client_after w c.row id q (action_in w c.row.component) old) c.row.component_id old

abbrev pub component_rows : World → List (Numbered ComponentRow)
component_rows w = in_key_order (λ (c : ComponentRow). c.component) w.given.rows.component

-- ---- counts: at each the counted components, in key order

abbrev pub counted_components : World → List (Numbered ComponentRow)
counted_components w = filter (λ (c : Numbered ComponentRow). is_counted w.given.rows c.row) (component_rows w)

-- one that comes to the machine raises it, one that others hold lowers it, and with one that leaves it goes where nothing guards it
abbrev pub count_after : World → ComponentRow → Text → Action → Option Entry → Option Entry
count_after w c path MakeLocal old = if is_present w.given c then old else raised path old
count_after w c path MakeAbsent old = if leaves w c.component then (if is_guarded w (count_name path) then old else None) else lowered old

-- the count of the path that is recorded
abbrev pub count_of : World → ComponentRow → Name → Action → Result Text Fault → Option Entry → Option Entry
count_of w c q action (Err fault) old = old
count_of w c q action (Ok path) old = if same_name q (count_name path) then count_after w c path action old else old

abbrev pub count_by : World → Name → Numbered ComponentRow → Option Entry → Option Entry
count_by w q c old = option_map_or (λ (action : Action). count_of w c.row q action (recorded_path w c.row) old) (action_in w c.row.component) old

-- the keys that a count needs where it is raised
abbrev pub keys_of_count : World → Numbered ComponentRow → List Entry
keys_of_count w c = if is_made_local (action_in w c.row.component) && not (is_present w.given c.row) then map (entry.Key 2) (keys_down_to shared_key) else []

-- the machine behind the components, before the pruning
pub record IsProcessed (w : World) (n : Machine) : Type 0 where
  pub rows : List Touches
  pub touched : by_rows w.machine (map (λ (c : Numbered ComponentRow) m. processed w c.row) (component_rows w)) ≡ Ok rows
  pub machine : n ≡ after_rows w.machine rows

-- a key that stands stays, and a missing one is made with the first count that is raised
abbrev pub MakesKeys : World → Machine → Type 0
MakesKeys w n = (root : ℕ) (key : Text) →
    get n (key_name root key) ≡ option_or (get w.machine (key_name root key)) (first_named (key_name root key) (flat_map (keys_of_count w) (counted_components w)))

-- of the keys that stand before the pruning those that it takes go
abbrev pub PrunesKeys : World → Machine → Machine → Type 0
PrunesKeys w n m = (root : ℕ) (key : Text) → get m (key_name root key) ≡ (if goes key_seat (keys n) (touched_counts w) (kept_keys w) (key_name root key) then None else get n (key_name root key))

-- a name that counts the file of a component
abbrev pub is_count : World → Name → Bool
is_count w q = list_any (λ (c : Numbered ComponentRow). option_map_or (λ path. same_name q (count_name path)) (counted_path w c.row) false) (component_rows w)

-- the key of the counts, or one above it
abbrev pub leads_to_counts : Seat → Bool
leads_to_counts (Holder path) = starts_with nat_eq (key_place 2 shared_key) path
leads_to_counts other = false

pub record ProcessesComponents : Type 0 where
  pub clients : (w : World) (m : Machine) → IsAfter process_components w m → (q : Name) → starts_with nat_eq q (codes "c/") ≡ true → get m q ≡ in_turn (client_by w q) (component_rows w) (get w.machine q)
  pub counts : (w : World) (m : Machine) → IsAfter process_components w m → (root : ℕ) (key name : Text) →
      get m (value_name root key name) ≡ in_turn (count_by w (value_name root key name)) (counted_components w) (get w.machine (value_name root key name))
  pub keys : (w : World) (m : Machine) → IsAfter process_components w m → (n : Machine) × IsProcessed w n × MakesKeys w n × PrunesKeys w n m
  -- no other name changes
  pub others : (w : World) (m : Machine) → IsAfter process_components w m → (q : Name) → starts_with nat_eq q (codes "c/") ≡ false → is_count w q ≡ false → leads_to_counts (key_seat q) ≡ false → get m q ≡ get w.machine q
  -- a component without attribute 8 isn't counted: where all are so, clients alone change
  pub uncounted : (w : World) (m : Machine) → IsAfter process_components w m → list_any (λ (c : ComponentRow). has 8 c.attributes) w.given.rows.component ≡ false →
      (q : Name) → get m q ≡ in_turn (client_by w q) (component_rows w) (get w.machine q)

-- ---- the product

pub record PublishesProduct : Type 0 where
  pub product : (w : World) (m : Machine) → IsAfter publish_product w m → get m (product_name (product_code w.given.rows)) ≡ product_after w.given.rows (chosen w (λ s. s.local_after))
  pub others : (w : World) (m : Machine) → IsAfter publish_product w m → (q : Name) → same_name q (product_name (product_code w.given.rows)) ≡ false → get m q ≡ get w.machine q

-- ---- shortcuts: at each the rows that name it, in key order

abbrev pub shortcut_of_texts : World → ShortcutRow → Text → Result Text Fault → Result Text Fault → Option Entry
shortcut_of_texts w r path (Ok target) (Ok arguments) = Some (shortcut_entry w r path target arguments)
shortcut_of_texts w r path target arguments = None

-- the shortcut that a row makes at a path
abbrev pub made_at : World → Numbered ShortcutRow → Text → Option Entry
made_at w r path = shortcut_of_texts w r.row path (target_text w r) (expanded_or_empty (lookups w) shortcut_table r.number r.row.arguments)

abbrev pub shortcut_by : World → Name → Numbered ShortcutRow → Option Entry → Option Entry
shortcut_by w q r old = option_map_or (λ (path : Text). if same_name q (shortcut_name path) then made_at w r path else old) (shortcut_path w r.row) old

abbrev pub coming_shortcuts : World → List (Numbered ShortcutRow)
coming_shortcuts w = rows_that (λ (r : ShortcutRow). r.shortcut) (λ (r : ShortcutRow). r.component) (comes w) w.given.rows.shortcut

-- the folders in which a row's shortcut lies
abbrev pub shortcut_folders : World → Numbered ShortcutRow → List Entry
shortcut_folders w r = option_map_or (λ (path : Text). map entry.Folder (folders_down_to (up_to_last path))) (shortcut_path w r.row) []

abbrev pub names_shortcut : World → Name → Numbered ShortcutRow → Bool
names_shortcut w q r = option_map_or (same_name q) (shortcut_named w r) false

pub record ShortcutsStand : Type 0 where
  pub created : (w : World) (m : Machine) → IsAfter create_shortcuts w m → (path : Text) →
      get m (shortcut_name path) ≡ in_turn (shortcut_by w (shortcut_name path)) (coming_shortcuts w) (get w.machine (shortcut_name path))
  -- a folder that stands stays, and a missing one in which a shortcut lies is made
  pub folders : (w : World) (m : Machine) → IsAfter create_shortcuts w m → (folder : Text) →
      get m (folder_name folder) ≡ option_or (get w.machine (folder_name folder)) (first_named (folder_name folder) (flat_map (shortcut_folders w) (coming_shortcuts w)))
  -- one that a leaving row names goes, where no kept row names it
  pub removed : (w : World) (m : Machine) → IsAfter remove_shortcuts w m → (path : Text) →
      get m (shortcut_name path) ≡ (if list_any (names_shortcut w (shortcut_name path)) (leaving_shortcuts w) && not (is_guarded_shortcut w (shortcut_name path)) then None else get w.machine (shortcut_name path))

-- ---- variables: at each the rows that name it, in key order

abbrev pub written_as : Text → Option Entry → Result Form Fault → Option Entry
written_as name old (Ok form) = variable_after name form old
written_as name old (Err fault) = old

abbrev pub variable_by : World → Name → Numbered EnvironmentRow → Option Entry → Option Entry
variable_by w q r old = if same_name q (named_variable r.row.name) then written_as r.row.name old (environment_form (lookups w) r) else old

abbrev pub coming_variables : World → List (Numbered EnvironmentRow)
coming_variables w = rows_that (λ (r : EnvironmentRow). r.environment) (λ (r : EnvironmentRow). r.component) (comes w) w.given.rows.environment

abbrev pub left_as : Bool → Option Entry → Result Form Fault → Option Entry
left_as leaving old (Ok form) = variable_less leaving form (as_variable old)
left_as leaving old (Err fault) = old

abbrev pub variable_less_by : World → Name → Numbered EnvironmentRow → Option Entry → Option Entry
variable_less_by w q r old =
    if same_name q (named_variable r.row.name)
    then (if leaves w r.row.component && is_guarded_variable w q then old else left_as (leaves w r.row.component) old (environment_form (lookups w) r))
    else old

pub record VariablesStand : Type 0 where
  pub written : (w : World) (m : Machine) → IsAfter write_environment_strings w m → (q : Name) → get m q ≡ in_turn (variable_by w q) (coming_variables w) (get w.machine q)
  pub removed : (w : World) (m : Machine) → IsAfter remove_environment_strings w m → (q : Name) → get m q ≡ in_turn (variable_less_by w q) (removing_rows w) (get w.machine q)
