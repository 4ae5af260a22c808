-- Properties and directories of a walk. (Order of Property Precedence; CostFinalize Action; Custom Action Type 35; Custom Action Type 51.)
use Rattle.std.specs.Prelude.{List, ◌++◌, map, codes, Option, Some, None, option_map, Result, Ok, Err, if◌then◌else◌}
use Rattle.std.specs.List.{filter_map}
use Rattle.std.specs.Result.{result_ok}
use Rattle.std.specs.FinMap.{insert, entries, from_entries}
use Rattle.mi_text.specs.Maps.{Name}
use Rattle.mi_text.specs.Path.{folder_of}
use Rattle.mi_text.specs.PropertyNames.{is_property_name}
use Rattle.mi_base.specs.declared.answers.Fault.TheVariants.{Cycle, BadPath, BadName}
use Rattle.mi_props.specs.Props as start
use Rattle.mi_props.specs.Props.{Value, Values}
use Rattle.mi_dirs.specs.declared.rows.DirRow.{DirRow}
use Rattle.mi_dirs.specs.declared.fault.DirFault.{DirFault}
use Rattle.mi_dirs.specs.declared.fault.DirFault.TheVariants as dir
use Rattle.mi_dirs.specs.Places.{Place, target_of, with_own}
use Rattle.mi_dirs.specs.Rows as rows
use Rattle.mi_dirs.specs.Rows.{given}
use Rattle.mi_dirs.specs.Faults.{path_fault, judged}
use Rattle.mi_schema.specs.declared.typed_rows.DirectoryRow.{DirectoryRow}
use Rattle.mi_schema.specs.declared.typed_rows.PropertyRow.{PropertyRow}
use Rattle.mi_model.specs.Texts.{Text}
use Rattle.mi_base.specs.declared.answers.Fault.{Fault}
use Rattle.mi_schema.specs.TableRows.{Rows}
use Rattle.mi_text.specs.FileNames.{short_name, long_name, target_part, source_part}
use Rattle.mi_model.specs.World.{Given, Costed, Selection, World}
use Rattle.mi_model.specs.Settings.{settings}
use Rattle.mi_model.specs.Refusals.{◌>>=◌}
use Rattle.mi_model.specs.Remembered.{remembered}
use Rattle.mi_model.specs.Selecting.{select}

-- ---- at the start

-- the rows of Property
abbrev pub table_properties : Rows → List (Name × Value)
table_properties rows = map (λ (r : PropertyRow). (r.property, r.value)) rows.property

-- the system's, else the command line's, else the table's
unfoldable pub first_properties : Given → Values
first_properties g = start.started (settings g) g.words (table_properties g.rows)

-- the world before any action
unfoldable pub started : Given → World
started g = record { given = g; props = first_properties g; costed = None; machine = g.former }

-- ---- directories

-- a row of Directory: its name at the target, and its short and long names at the source (Directory Table, DefaultDir)
abbrev pub dir_row : DirectoryRow → DirRow
dir_row r = record {
  key = r.directory;
  parent = r.directory_parent;
  target = long_name (target_part r.default_dir);
  short_source = short_name (source_part r.default_dir);
  long_source = long_name (source_part r.default_dir);
}

abbrev pub as_fault : DirFault → Fault
as_fault (dir.BadPath row) = BadPath (codes "Directory") row
as_fault (dir.Cycle row) = Cycle (codes "Directory") row

abbrev pub in_table : {A : Type 0} → Result A DirFault → Result A Fault
in_table (Ok x) = Ok x
in_table (Err fault) = Err (as_fault fault)

-- the directories by the properties as they stand, or the first row whose target is refused
abbrev pub resolved : Given → Values → Result (List Place) Fault
resolved g props = in_table (rows.resolved (given (map dir_row g.rows.directory) props (remembered g) g.folder g.rows.short_names))

-- the property of a row of Directory whose key is a property name
abbrev pub directory_property : List Place → DirectoryRow → Option (Name × Value)
directory_property dirs r = if is_property_name r.directory then option_map (λ target. (r.directory, target)) (target_of dirs r.directory) else None

-- the properties with those of the directories set, whatever they were
unfoldable pub with_directories : Rows → List Place → Values → Values
with_directories rows dirs props = from_entries (filter_map (directory_property dirs) rows.directory ++ entries props)

-- ---- what actions do to them

-- the world with these directories and this selection
abbrev pub placed : List Place → Selection → World → World
placed dirs choice w = record w { props = with_directories w.given.rows dirs w.props; costed = Some (record { dirs = dirs; choice = choice }) }

-- CostFinalize: the directories, then the selection over the properties as they were, then the properties of the directories
unfoldable pub cost : World → Result World Fault
cost w = resolved w.given w.props >>= λ dirs. select w.given w.props dirs >>= λ choice. Ok (placed dirs choice w)

-- a directory's target is the folder that a text names from now on, as an action of type 35 asks for
abbrev pub moved : Name → Text → Costed → World → Result World Fault
moved directory text c w =
    let dirs = with_own directory (result_ok (folder_of text)) c.dirs in
    in_table (judged dirs (path_fault dirs)) >>= λ moved_dirs. Ok (placed moved_dirs c.choice w)

-- before CostFinalize there are none to move
abbrev pub moved_if : Name → Text → Option Costed → World → Result World Fault
moved_if directory text (Some c) w = moved directory text c w
moved_if directory text None w = Ok w

unfoldable pub set_dir : Name → Text → World → Result World Fault
set_dir directory text w = moved_if directory text w.costed w

-- the property that an action of type 51 names
unfoldable pub set_property : Name → Name → Text → World → Result World Fault
set_property action name text w = if is_property_name name then Ok (record w { props = insert w.props name text }) else Err (BadName action)
