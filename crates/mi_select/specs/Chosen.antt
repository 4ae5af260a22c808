-- What is kept of components. (Component Table.)
use Rattle.std.specs.Prelude.{◌≡◌, ℕ, ◌-◌, ◌<◌, ◌≤◌, Bool, List, slice_get, Some, Result, Ok}
use Rattle.std.specs.Borrow.{Bor}
use Rattle.mi_text.specs.Maps.{Name}
use Rattle.mi_text.specs.Lookups.{Lookups}
use Rattle.mi_base.specs.Machine.{Machine}
use Rattle.mi_base.specs.declared.answers.Fault.{Fault}
use Rattle.mi_dirs.specs.Places.{Place}
use Rattle.mi_schema.specs.declared.typed_rows.ComponentRow.{ComponentRow}
use Rattle.mi_schema.specs.TableRows.{Rows}
use Rattle.mi_model.specs.Components.{is_coming, is_leaving, is_kept}
use Rattle.mi_model.specs.SharedCounts.{has_other_count}
use Rattle.mi_model.specs.KeyPaths.{KeyPath, key_path_text, is_there, key_path_of}
use Rattle.mi_model.specs.Refusals.{◌>>=◌}
use Rattle.mi_components.specs.declared.component.ComponentChoice.{ComponentChoice}
use Rattle.mi_select.specs.declared.selection.Chosen.{Chosen}
use Rattle.mi_components.specs.Actions.{as_action}

-- with this key path its component leaves, over the machine before the run
abbrev pub leaves_by : Machine → Rows → ComponentRow → ComponentChoice → KeyPath → Bool
leaves_by m rows c choice p = is_leaving c (as_action choice.action) choice.other_client (has_other_count rows m c (Ok p))

-- what is kept of a component with this key path
abbrev pub chosen_by : Machine → Rows → ComponentRow → ComponentChoice → KeyPath → Chosen
chosen_by m rows c choice p = record {
  choice = choice;
  coming = is_coming c (as_action choice.action) (is_there m p);
  leaving = leaves_by m rows c choice p;
  kept = is_kept (as_action choice.action) choice.present (leaves_by m rows c choice p);
  key_path = key_path_text p;
}

-- by its name, or the refusal of its key path
abbrev pub chosen_entry : Machine → Rows → List Place → Lookups → (ComponentRow → ComponentChoice) → ComponentRow → Result (Name × Chosen) Fault
chosen_entry m rows dirs L choice c = key_path_of rows dirs L c >>= λ p. Ok (c.component, chosen_by m rows c (choice c) p)

-- the number of a row is among so many
abbrev pub IsNumberedWithin : {R : Type 0} → ℕ → ℕ × Bor R → Type 0
IsNumberedWithin rows r = (0 < r.0) × (r.0 ≤ rows)

-- at the number of a row stands what is chosen of it
abbrev pub IsChosenAt : {R C : Type 0} → List C → (R → C) → ℕ × Bor R → Type 0
IsChosenAt choices choice r = slice_get choices (r.0 - 1) ≡ Some (choice r.1.now)
