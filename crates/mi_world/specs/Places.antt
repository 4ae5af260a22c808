-- Folders of components and paths of files, by what the program keeps. (Component Table; File Table.)
use Rattle.std.specs.Prelude.{ℕ, List, [], Option, option_and_then, unwrap_or}
use Rattle.std.specs.Result.{result_ok}
use Rattle.std.specs.FinMap.{get}
use Rattle.mi_text.specs.Maps.{Name, Map}
use Rattle.mi_text.specs.Path.{file_of}
use Rattle.mi_text.specs.FileNames.{long_name}
use Rattle.mi_dirs.specs.Places.{Place, Folder, target_of}
use Rattle.mi_schema.specs.declared.typed_rows.FileRow.{FileRow}
use Rattle.mi_world.specs.Rows.{AreTold}

-- the folder of a component, by the directories of components
abbrev pub kept_folder : Map (List ℕ) → List Place → Name → Option Folder
kept_folder directories dirs c = option_and_then (target_of dirs) (get directories c)

-- the path of the file of a row; the empty text where it is past the limits
abbrev pub kept_path : Map (List ℕ) → List Place → FileRow → List ℕ
kept_path directories dirs r = unwrap_or (option_and_then (λ folder. result_ok (file_of folder (long_name r.file_name))) (kept_folder directories dirs r.component)) []

-- each file's path, by the rows from this place on
abbrev pub AreKeptPaths : Map (List ℕ) → List Place → List FileRow → ℕ → Map (List ℕ) → Type 0
AreKeptPaths directories dirs rows place files = AreTold (λ (r : FileRow). r.file) (kept_path directories dirs) rows place files
