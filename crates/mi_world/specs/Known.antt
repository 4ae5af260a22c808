-- What is known from the start, as the program keeps it. (This project's own.)
use Rattle.std.specs.Prelude.{◌≡◌, ℕ, ◌&&◌, ◌||◌, Bool, List, map, filter, drop}
use Rattle.std.specs.List.{list_any, filter_map}
use Rattle.mi_text.specs.Maps.{Name, Map, same_name, is_among}
use Rattle.mi_base.specs.Machine.{Machine}
use Rattle.mi_schema.specs.declared.typed_rows.ComponentRow.{ComponentRow}
use Rattle.mi_schema.specs.declared.typed_rows.FeatureRow.{FeatureRow}
use Rattle.mi_schema.specs.declared.typed_rows.FeatureComponentsRow.{FeatureComponentsRow}
use Rattle.mi_schema.specs.TableRows.{Rows}
use Rattle.mi_model.specs.Settings.{variable_of, system_properties}
use Rattle.mi_model.specs.States.{is_present}
use Rattle.mi_world.specs.Ground.{ground, recorded_in, is_set, present_by}
use Rattle.mi_world.specs.Rows.{AreTold}
use Rattle.mi_world.specs.Systems.{pair_folder}
use Rattle.mi_world.specs.Variables.{variable_in}
use Rattle.mi_world.specs.declared.known.Known.{Known}

-- ---- while it is made, from the last row to the first

-- the features of these names hold these components, by the rows from this place on
abbrev pub AreHeld : List FeatureComponentsRow → ℕ → Map Bool → Map Bool → Type 0
AreHeld rows place names held =
    (c : Name) → is_set held c ≡ list_any (is_set names) (map (λ (r : FeatureComponentsRow). r.feature) (filter (λ (r : FeatureComponentsRow). same_name c r.component) (drop place rows)))

-- one row more
abbrev pub is_held_by : Map Bool → FeatureComponentsRow → Map Bool → Name → Bool
is_held_by names row held c = (same_name c row.component && is_set names row.feature) || is_set held c

abbrev pub ArePresent : List ComponentRow → Machine → ℕ → Map Bool → ℕ → Map Bool → Type 0
ArePresent rows m code held place flags = AreTold (λ (r : ComponentRow). r.component) (λ r. present_by m code (is_set held) r r.component_id) rows place flags

-- ---- what it is

abbrev pub AreDirectories : List ComponentRow → ℕ → Map (List ℕ) → Type 0
AreDirectories rows place table = AreTold (λ (r : ComponentRow). r.component) (λ r. r.directory) rows place table

abbrev pub AreRecorded : List FeatureRow → (Name → Bool) → ℕ → Map Bool → Type 0
AreRecorded rows recorded place flags = AreTold (λ (r : FeatureRow). r.feature) (λ r. recorded r.feature) rows place flags

-- this is known of these rows and of this former machine
pub record IsKnown (rows : Rows) (m : Machine) (k : Known) : Type 0 where
  pub variables : (name : Name) → variable_in k.variables name ≡ variable_of m name
  pub directories : AreDirectories rows.component 0 k.directories
  pub present : AreTold (λ (r : ComponentRow). r.component) (is_present (ground rows m)) rows.component 0 k.present
  pub recorded : AreRecorded rows.feature (λ f. is_among f (recorded_in rows m)) 0 k.recorded
  pub system : k.system.items ≡ filter_map pair_folder (system_properties m)
