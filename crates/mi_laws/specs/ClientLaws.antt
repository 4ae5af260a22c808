-- Which client rows go, and by which components. (ProcessComponents Action; Component Table.)
use Rattle.std.specs.Prelude.{◌≡◌, ◌&&◌, Bool, true, false, List, [], ◌∷◌, nat_eq, codes}
use Rattle.std.specs.List.{list_any, starts_with, AllByRecursion}
use Rattle.std.specs.Option.{option_map_or}
use Rattle.std.specs.FinMap.{get}
use Rattle.mi_text.specs.Maps.{Name, same_name}
use Rattle.mi_text.specs.declared.guid.Guid.{Guid}
use Rattle.mi_base.specs.Machine.{Machine}
use Rattle.mi_base.specs.Names.{client_name}
use Rattle.mi_schema.specs.TableRows.{Numbered, product_code}
use Rattle.mi_schema.specs.declared.typed_rows.ComponentRow.{ComponentRow}
use Rattle.mi_model.specs.World.{World, Effect}
use Rattle.mi_model.specs.ComponentRows.{action_in}
use Rattle.mi_model.specs.Components.{is_made_absent}
use Rattle.mi_model.specs.Prune.{key_seat}
use Rattle.mi_model.specs.ProcessComponents.{process_components}
use Rattle.mi_model.specs.WriteRegistryValues.{write_registry_values}
use Rattle.mi_model.specs.RemoveRegistryValues.{remove_registry_values}
use Rattle.mi_model.specs.Shortcuts.{remove_shortcuts, create_shortcuts}
use Rattle.mi_model.specs.RemoveEnvironmentStrings.{remove_environment_strings}
use Rattle.mi_model.specs.DuplicateFiles.{remove_duplicate_files, duplicate_files}
use Rattle.mi_model.specs.RemoveFiles.{remove_files}
use Rattle.mi_model.specs.Folders.{remove_folders, create_folders}
use Rattle.mi_model.specs.InstallFiles.{install_files}
use Rattle.mi_model.specs.WriteEnvironmentStrings.{write_environment_strings}
use Rattle.mi_model.specs.PublishProduct.{publish_product}
use Rattle.mi_model_laws.specs.PhaseLaws.{IsAfter}
use Rattle.mi_model_laws.specs.RecordLaws.{component_rows, is_count, leads_to_counts}
use Rattle.mi_laws.specs.ValueLaws.{Goes}

-- the row of this product for the id of a component that is made Absent
abbrev pub is_client_of : World → Name → Numbered ComponentRow → Bool
is_client_of w q c = option_map_or (λ (id : Guid). is_made_absent (action_in w c.row.component) && same_name q (client_name id.number (product_code w.given.rows))) c.row.component_id false

abbrev pub is_client_of_absent : World → Name → Bool
is_client_of_absent w q = list_any (is_client_of w q) (component_rows w)

-- the rows of clients stand as they did
abbrev pub KeepsClients : Effect → Type 0
KeepsClients effect = (w : World) (m : Machine) → IsAfter effect w m → (q : Name) → starts_with nat_eq q (codes "c/") ≡ true → get m q ≡ get w.machine q

abbrev pub phases_but_clients : List Effect
phases_but_clients =
    remove_registry_values
    ∷ remove_shortcuts
    ∷ remove_environment_strings
    ∷ remove_duplicate_files
    ∷ remove_files
    ∷ remove_folders
    ∷ create_folders
    ∷ install_files
    ∷ duplicate_files
    ∷ create_shortcuts
    ∷ write_registry_values
    ∷ write_environment_strings
    ∷ publish_product
    ∷ []

pub record ClientsGoByAbsence : Type 0 where
  -- a client row that ProcessComponents takes away is the one of this product for a component that is made Absent
  pub removed : (w : World) (q : Name) → starts_with nat_eq q (codes "c/") ≡ true → Goes process_components w q → is_client_of_absent w q ≡ true
  -- beside rows of clients it changes counts of components, and keys on the way to the counts
  pub beside : (w : World) (m : Machine) → IsAfter process_components w m → (q : Name) → starts_with nat_eq q (codes "c/") ≡ false → is_count w q ≡ false → leads_to_counts (key_seat q) ≡ false → get m q ≡ get w.machine q
  pub others : AllByRecursion KeepsClients phases_but_clients
