-- What texts and conditions ask of the world, and which components come, leave and are kept. (Formatted; Conditional Statement Syntax; Component Table.)
use Rattle.std.specs.Prelude.{Bool, List, [], Option, option_map, option_and_then, unwrap_or}
use Rattle.std.specs.Result.{result_ok}
use Rattle.mi_text.specs.Maps.{Name, is_among}
use Rattle.mi_text.specs.Lookups.{Lookups}
use Rattle.mi_text.specs.Path.{file_of}
use Rattle.mi_props.specs.Props.{Values, value_in}
use Rattle.mi_dirs.specs.Places.{Place, Folder, target_of}
use Rattle.mi_schema.specs.declared.typed_rows.ComponentRow.{ComponentRow}
use Rattle.mi_schema.specs.declared.typed_rows.FileRow.{FileRow}
use Rattle.mi_model.specs.Texts.{Text}
use Rattle.mi_schema.specs.TableRows.{Rows, component_row_of, file_row_of}
use Rattle.mi_text.specs.FileNames.{long_name}
use Rattle.mi_model.specs.World.{Selection, Given, Costed, World}
use Rattle.mi_model.specs.Settings.{variable_of}
use Rattle.mi_model.specs.States.{state_of}

-- ---- what texts and conditions ask

-- the folder of a component
abbrev pub component_folder : Rows → List Place → Name → Option Folder
component_folder rows dirs c = option_and_then (λ (r : ComponentRow). target_of dirs r.directory) (component_row_of rows c)

-- the path of a row of File; None where it is past the limits
abbrev pub path_of_file : Rows → List Place → FileRow → Option Text
path_of_file rows dirs r = option_and_then (λ folder. result_ok (file_of folder (long_name r.file_name))) (component_folder rows dirs r.component)

abbrev pub file_path : Rows → List Place → Name → Option Text
file_path rows dirs key = option_and_then (path_of_file rows dirs) (file_row_of rows key)

-- Properties as they stand; variables of the former machine; files' paths and components' folders by these directories, and
-- states by this selection. While there are none, files and folders are empty and states -1.
unfoldable pub lookups_over : Given → Values → Option (List Place) → Option Selection → Lookups
lookups_over g props dirs choice = record {
  property = value_in props;
  variable = variable_of g.former;
  file = λ key. unwrap_or (option_and_then (λ d. file_path g.rows d key) dirs) [];
  folder = λ key. unwrap_or (option_and_then (λ d. component_folder g.rows d key) dirs) [];
  state = state_of g choice;
}

unfoldable pub lookups : World → Lookups
lookups w = lookups_over w.given w.props (option_map (λ (c : Costed). c.dirs) w.costed) (option_map (λ (c : Costed). c.choice) w.costed)

-- ---- of the components

abbrev pub chosen : World → (Selection → List Name) → List Name
chosen w part = unwrap_or (option_map (λ (c : Costed). part c.choice) w.costed) []

-- a component that this run installs, removes, or leaves in place or installs
unfoldable pub comes : World → Name → Bool
comes w c = is_among c (chosen w (λ s. s.coming))

unfoldable pub leaves : World → Name → Bool
leaves w c = is_among c (chosen w (λ s. s.leaving))

unfoldable pub keeps : World → Name → Bool
keeps w c = is_among c (chosen w (λ s. s.kept))

-- the directories, and none before CostFinalize
abbrev pub dirs_of : World → List Place
dirs_of w = unwrap_or (option_map (λ (c : Costed). c.dirs) w.costed) []
