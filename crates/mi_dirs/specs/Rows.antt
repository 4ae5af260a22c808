-- The rows of the Directory table as they are given, and the directories that they define (Directory Table).
use Rattle.std.specs.Prelude.{ℕ, suc, ◌==◌, Bool, if◌then◌else◌, List, [], ◌∷◌, ◌++◌, length, Option, Some, None, option_and_then, slice_get, codes, Result}
use Rattle.std.specs.Option.{option_map_or}
use Rattle.std.specs.Result.{result_ok}
use Rattle.std.specs.Str.{bytes_eq}
use Rattle.std.specs.FinMap as fin
use Rattle.mi_text.specs.Maps.{Name, name_cmp, same_name}
use Rattle.mi_text.specs.Path.{folder_of}
use Rattle.mi_props.specs.Props.{Values, value_in}
use Rattle.mi_dirs.specs.declared.rows.DirRow.{DirRow}
use Rattle.mi_dirs.specs.Chains.{along}
use Rattle.mi_dirs.specs.declared.fault.DirFault.{DirFault}
use Rattle.mi_dirs.specs.Places.{Folder, Place, bound, first_row}
use Rattle.mi_dirs.specs.Faults.{dir_fault, judged}

-- the row with this key
abbrev pub row_with : List DirRow → Name → Option ℕ
row_with rows key = first_row (λ (r : DirRow). same_name key r.key) rows

-- the row of a row's parent; a row without one, or with itself, is a root row
abbrev pub parent_of : List DirRow → DirRow → Option ℕ
parent_of rows row = option_and_then (λ p. if same_name p row.key then None else row_with rows p) row.parent

abbrev pub row_parent : List DirRow → ℕ → Option ℕ
row_parent rows row = option_and_then (parent_of rows) (slice_get rows row)

abbrev pub source_name : Bool → DirRow → List ℕ
source_name short row = if short then row.short_source else row.long_source

-- below a folder by a name, joined by `/`, where `.` is the folder itself
abbrev pub below_source : List ℕ → List ℕ → List ℕ
below_source above name = if bytes_eq name (codes ".") then above else above ++ 47 ∷ name

-- the source of a root row is the package's folder; another row's is below its parent's by its name
abbrev pub source_from : List ℕ → List ℕ → Option (List ℕ) → List ℕ
source_from folder name None = folder
source_from folder name (Some above) = below_source above name

abbrev pub source_step : List DirRow → List ℕ → Bool → ℕ → Option (List ℕ) → List ℕ
source_step rows folder short row above = option_map_or (λ (r : DirRow). source_from folder (source_name short r) above) (slice_get rows row) []

-- the source of a row
unfoldable pub source_at : List DirRow → List ℕ → Bool → ℕ → List ℕ
source_at rows folder short row = along (row_parent rows) (source_step rows folder short) [] (bound rows) row

-- the folder that the property of its name gives, where that isn't empty
abbrev pub from_property : List ℕ → Option (Option Folder)
from_property value = if length value == 0 then None else Some (result_ok (folder_of value))

abbrev pub remembered_or : Option Folder → Option (Option Folder) → Option (Option Folder)
remembered_or None other = other
remembered_or (Some folder) other = Some (Some folder)

-- what stands for a target at the start: the remembered folder, else the property of its name
abbrev pub own_of : Values → List (Name × Folder) → Name → Option (Option Folder)
own_of values remembered key = remembered_or (fin.find name_cmp key remembered) (from_property (value_in values key))

-- what the rows are given with
pub record Given : Type 0 where
  pub rows : List DirRow
  pub values : Values  -- the properties
  pub remembered : List (Name × Folder)
  pub folder : List ℕ  -- the package's folder
  pub short : Bool  -- whether short source names are taken

abbrev pub place : Given → ℕ → DirRow → Place
place g row r = record {
  key = r.key;
  parent = parent_of g.rows r;
  name = r.target;
  own = own_of g.values g.remembered r.key;
  source = source_at g.rows g.folder g.short row;
}

abbrev pub places_from : Given → ℕ → List DirRow → List Place
places_from g row [] = []
places_from g row (r ∷ rs) = place g row r ∷ places_from g (suc row) rs

-- the directories that the rows define
abbrev pub places_of : Given → List Place
places_of g = places_from g 0 g.rows

abbrev pub given : List DirRow → Values → List (Name × Folder) → List ℕ → Bool → Given
given rows values remembered folder short = record { rows = rows; values = values; remembered = remembered; folder = folder; short = short }

-- the directories that the rows define, or the first row whose chain of parents doesn't end, else the first whose target is refused
abbrev pub resolved : Given → Result (List Place) DirFault
resolved g = judged (places_of g) (dir_fault (places_of g))
