-- The package that is made for tests: one feature, and for each file a value of the registry. (This project's own.)
use Rattle.std.specs.Prelude.{ℕ, pos, suc, ◌+◌, ◌/◌, ◌%◌, ◌==◌, Bool, List, [], ◌∷◌, ◌++◌, map, filter, codes, None, if◌then◌else◌}
use Rattle.std.specs.List.{range_with_len}
use Rattle.std.specs.FinMap.{from_entries}
use Rattle.mi_text.specs.Maps.{Name}
use Rattle.mi_text.specs.Guid.{guid_text}
use Rattle.mi_base.specs.Names.{four_digits}
use Rattle.mi_source.specs.Paths.{Files, path_in}
use Rattle.mi_idt.specs.Cells.{Cell, Nothing, Text, Number, ColumnValue}
use Rattle.mi_idt.specs.Written.{written}
use Rattle.mi_rows.specs.declared.column.Kind.TheVariants.{Integer}
use Rattle.mi_rows.specs.declared.column.Kind.{Kind}
use Rattle.mi_schema.specs.declared.known.Known.TheVariants as known
use Rattle.mi_schema.specs.Tables.{layout_of}
use Rattle.mi_rows.specs.Columns.{Table, Column}
use Rattle.mi_rows.specs.Rows.{key_places}

-- ---- tables

abbrev pub letter_of : Kind → Bool → ℕ
letter_of Integer nullable = if nullable then 73 else 105
letter_of other nullable = if nullable then 83 else 115

abbrev pub width_of : Kind → ℕ
width_of Integer = 4
width_of other = 0

abbrev pub column_of : Column → ColumnValue
column_of c = record { name = c.name; letter = letter_of c.kind c.nullable; width = width_of c.kind }

-- a table's file, with exactly the known columns
abbrev pub file_of : Table → List (List Cell) → Name × List ℕ
file_of t rows = (path_in (codes "self") (t.name ++ codes ".idt"), written (record { name = t.name; page = None; columns = map column_of t.columns; keys = key_places 0 t.columns; rows = rows }))

abbrev pub number : ℕ → Cell
number n = Number (pos n)

abbrev pub pair : List ℕ → List ℕ → List Cell
pair a b = Text a ∷ Text b ∷ []

abbrev pub properties : List (List Cell)
properties =
    pair (codes "Manufacturer") (codes "Acme")
    ∷ pair (codes "ProductCode") (codes "{00000000-0000-0000-0000-0000000000FF}")
    ∷ pair (codes "ProductLanguage") (codes "1033")
    ∷ pair (codes "ProductName") (codes "Selftest")
    ∷ pair (codes "ProductVersion") (codes "1.0")
    ∷ []

abbrev pub features : List (List Cell)
features = (Text (codes "Main") ∷ Nothing ∷ Nothing ∷ Nothing ∷ number 1 ∷ number 1 ∷ Nothing ∷ number 0 ∷ []) ∷ []

abbrev pub at : List ℕ → ℕ → List Cell
at action place = Text action ∷ Nothing ∷ number place ∷ []

abbrev pub actions : List (List Cell)
actions =
    at (codes "LaunchConditions") 100 ∷ at (codes "CostInitialize") 800 ∷ at (codes "FileCost") 900 ∷ at (codes "CostFinalize") 1000
    ∷ at (codes "InstallValidate") 1400 ∷ at (codes "InstallInitialize") 1500 ∷ at (codes "ProcessComponents") 1600
    ∷ at (codes "RemoveRegistryValues") 2600 ∷ at (codes "RemoveShortcuts") 3200 ∷ at (codes "RemoveEnvironmentStrings") 3300
    ∷ at (codes "RemoveDuplicateFiles") 3400 ∷ at (codes "RemoveFiles") 3500 ∷ at (codes "RemoveFolders") 3600
    ∷ at (codes "CreateFolders") 3700 ∷ at (codes "InstallFiles") 4000 ∷ at (codes "DuplicateFiles") 4210 ∷ at (codes "CreateShortcuts") 4500
    ∷ at (codes "WriteRegistryValues") 5000 ∷ at (codes "WriteEnvironmentStrings") 5200 ∷ at (codes "PublishProduct") 6400
    ∷ at (codes "InstallFinalize") 6600 ∷ []

abbrev pub directories : List (List Cell)
directories =
    (Text (codes "TARGETDIR") ∷ Nothing ∷ Text (codes "SourceDir") ∷ [])
    ∷ (Text (codes "APP") ∷ Text (codes "TARGETDIR") ∷ Text (codes "App") ∷ [])
    ∷ []

-- ---- rows by the number of a file

-- a letter and four digits
abbrev pub numbered : List ℕ → ℕ → List ℕ
numbered letter i = letter ++ four_digits i

-- ten files have one component
abbrev pub component_of : ℕ → List ℕ
component_of i = numbered (codes "C") (i / 10)

abbrev pub name_of_file : ℕ → List ℕ
name_of_file i = numbered (codes "f") i ++ codes ".txt"

-- the first file of a component is its key path
abbrev pub component : ℕ → List Cell
component i = Text (component_of i) ∷ Text (guid_text (4096 + i / 10)) ∷ Text (codes "APP") ∷ number 0 ∷ Nothing ∷ Text (numbered (codes "F") i) ∷ []

abbrev pub file : ℕ → List Cell
file i = Text (numbered (codes "F") i) ∷ Text (component_of i) ∷ Text (name_of_file i) ∷ number 4 ∷ Nothing ∷ Nothing ∷ Nothing ∷ number (suc i) ∷ []

abbrev pub registry : ℕ → List Cell
registry i = Text (numbered (codes "R") i) ∷ number 2 ∷ Text (codes "Software\\Selftest") ∷ Text (numbered (codes "v") i) ∷ Text (four_digits i) ∷ Text (component_of i) ∷ []

abbrev pub content : ℕ → Name × List ℕ
content i = (path_in (codes "self/App") (name_of_file i), four_digits i)

-- the source that holds the package and nothing else, with so many files
unfoldable pub selftest_files : ℕ → Files
selftest_files n =
    let all = range_with_len 0 n in
    let firsts = filter (λ i. i % 10 == 0) all in
    from_entries (
    file_of (layout_of known.Property) properties
    ∷ file_of (layout_of known.Feature) features
    ∷ file_of (layout_of known.InstallExecuteSequence) actions
    ∷ file_of (layout_of known.Directory) directories
    ∷ file_of (layout_of known.Component) (map component firsts)
    ∷ file_of (layout_of known.FeatureComponents) (map (λ i. pair (codes "Main") (component_of i)) firsts)
    ∷ file_of (layout_of known.File) (map file all)
    ∷ file_of (layout_of known.Registry) (map registry all)
    ∷ map content all)
