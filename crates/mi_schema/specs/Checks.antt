-- The first fault of a package. (Database Tables; the order of the checks is this project's own.)
use Rattle.std.specs.Prelude.{ℕ, suc, ◌+◌, not, Bool, if◌then◌else◌, List, [], ◌∷◌, length, map, find, Option, Some, None, is_none, is_some, option_map, option_and_then}
use Rattle.mi_text.specs.Maps.{Name, same_name}
use Rattle.mi_text.specs.Version.{version_of}
use Rattle.mi_source.specs.Paths.{Files}
use Rattle.mi_base.specs.declared.answers.Fault.{Fault}
use Rattle.mi_base.specs.declared.answers.Fault.TheVariants.{MissingTable, MissingProperty, Cycle}
use Rattle.mi_dirs.specs.Chains.{ends_in}
use Rattle.mi_dirs.specs.Order.{parent_in}
use Rattle.mi_dirs.specs.Places.{first_row}
use Rattle.mi_dirs.specs.Faults.{numbers}
pub use Rattle.mi_rows.specs.Rows.{Content, table_path, content_of, rows_at}
use Rattle.mi_schema.specs.declared.known.Known.TheVariants as known
use Rattle.mi_schema.specs.Tables.{listed, tables, layout_of, required_properties}
use Rattle.mi_rows.specs.Columns.{Table}
use Rattle.mi_schema.specs.References.{table_dangling}
use Rattle.mi_rows.specs.Rows.{◌or_else◌, table_fault}
use Rattle.mi_schema.specs.RowsOf.{rows_of_content}
use Rattle.mi_schema.specs.Source.{is_source_compressed, file_fault}
use Rattle.mi_schema.specs.TableRows.{Rows}
use Rattle.mi_schema.specs.TypedRows.{DirectoryRow, FeatureRow, FileRow, PropertyRow}
use Rattle.mi_rows.specs.Values.{is_key_in, is_root_below}

-- the first fault of the parts of a list
abbrev pub first_fault : {A : Type 0} → (A → Option Fault) → List A → Option Fault
first_fault f [] = None
first_fault f (x ∷ xs) = f x or_else first_fault f xs

-- ---- tables and properties that each package has

abbrev pub missing_table : Content → Name → Option Fault
missing_table content table = if is_none (content table) then Some (MissingTable table) else None

abbrev pub missing_property : List PropertyRow → Name → Option Fault
missing_property rows name = if is_key_in (map (λ r. r.property) rows) name then None else Some (MissingProperty name)

-- ---- chains of parents

-- a root row of Directory has no parent
abbrev pub parent_of_directory : DirectoryRow → Option Name
parent_of_directory r = if is_root_below r.directory r.directory_parent then None else r.directory_parent

-- the parent of a companion is the file that its Version names
abbrev pub companion_of : Option (List ℕ) → Option Name
companion_of None = None
companion_of (Some text) = if is_some (version_of text) then None else Some text

-- the place of the first row of a key, from 0
abbrev pub row_with : List Name → Name → Option ℕ
row_with keys q = first_row (same_name q) keys

-- the rows of the parents, by the keys of the rows
abbrev pub parents_of : {R : Type 0} → (R → Name) → (R → Option Name) → List R → List (Option ℕ)
parents_of key parent rows = map (λ r. option_and_then (row_with (map key rows)) (parent r)) rows

-- a chain of parents that ends has no row twice, so it has at most as many rows as there are
abbrev pub ends_at : List (Option ℕ) → ℕ → Bool
ends_at parents row = ends_in (parent_in parents) (suc (length parents)) row

-- the first row whose chain of parents doesn't end
abbrev pub endless_row : List (Option ℕ) → Option ℕ
endless_row parents = find (λ row. not (ends_at parents row)) (numbers parents)

abbrev pub chain_fault : {R : Type 0} → Name → (R → Name) → (R → Option Name) → List R → Option Fault
chain_fault table key parent rows = option_map (λ row. Cycle table (row + 1)) (endless_row (parents_of key parent rows))

-- ---- the checks in their order

abbrev pub required_fault : Rows → Option Fault
required_fault rows = first_fault (missing_property rows.property) required_properties

abbrev pub references_fault : Rows → Option Fault
references_fault rows = first_fault (table_dangling rows) listed

abbrev pub cycles_fault : Rows → Option Fault
cycles_fault rows =
    chain_fault (layout_of known.Directory).name (λ (r : DirectoryRow). r.directory) parent_of_directory rows.directory
    or_else chain_fault (layout_of known.Feature).name (λ (r : FeatureRow). r.feature) (λ r. r.feature_parent) rows.feature
    or_else chain_fault (layout_of known.File).name (λ (r : FileRow). r.file) (λ r. companion_of r.version) rows.file

abbrev pub compressed_fault : Rows → Option Fault
compressed_fault rows = file_fault (is_source_compressed rows.summary_information) rows.file

-- what the rows of all tables have to meet together
unfoldable pub package_fault : Rows → Option Fault
package_fault rows = required_fault rows or_else references_fault rows or_else cycles_fault rows or_else compressed_fault rows

abbrev pub missing_fault : Content → Option Fault
missing_fault content = missing_table content (layout_of known.Property).name or_else missing_table content (layout_of known.InstallExecuteSequence).name

abbrev pub tables_fault : Content → List Table → Option Fault
tables_fault content ts = first_fault (λ (t : Table). table_fault t (content t.name)) ts

-- the first fault of the package in a folder
unfoldable pub load_fault : Files → Name → Option Fault
load_fault files folder =
    missing_fault (content_of files folder)
    or_else tables_fault (content_of files folder) tables
    or_else package_fault (rows_of_content (content_of files folder))
