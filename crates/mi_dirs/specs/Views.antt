-- What the program keeps of a directory.
use Rattle.std.specs.Prelude.{◌≡◌, ℕ, zero, suc, IsTrue, List, [], ◌∷◌, Option, Some, None, slice_get}
use Rattle.mi_text.specs.Path.{is_folder_path}
use Rattle.mi_dirs.specs.declared.dir.Own.{Own}
use Rattle.mi_dirs.specs.declared.dir.Own.TheVariants.{Inherited, Refused, Folder}
use Rattle.mi_dirs.specs.declared.dir.Dir.{Dir}
use Rattle.mi_dirs.specs.declared.rows.DirRow.{DirRow}
use Rattle.mi_dirs.specs.Places as spec
use Rattle.mi_dirs.specs.Places.{Place}
use Rattle.mi_dirs.specs.Rows.{parent_of, own_of}
use Rattle.mi_text.specs.Maps.{Name}
use Rattle.mi_props.specs.Props.{Values}

abbrev pub own_view : Own → Option (Option spec.Folder)
own_view Inherited = None
own_view Refused = Some None
own_view (Folder p) = Some (Some p)

abbrev pub place_of_dir : Dir → List ℕ → Place
place_of_dir d source = record { key = d.key; parent = d.parent; name = d.name; own = own_view d.own; source = source }

-- the places of directories and of their sources, which stand row by row
abbrev pub places_in : List Dir → List (List ℕ) → List Place
places_in [] sources = []
places_in (d ∷ ds) [] = place_of_dir d [] ∷ places_in ds []
places_in (d ∷ ds) (s ∷ ss) = place_of_dir d s ∷ places_in ds ss

-- a row's place without its source
abbrev pub bare : List DirRow → Values → List (Name × spec.Folder) → DirRow → Place
bare rows values remembered r = record { key = r.key; parent = parent_of rows r; name = r.target; own = own_of values remembered r.key; source = [] }

abbrev pub bare_dir : Dir → Place
bare_dir d = place_of_dir d []

-- the row's place stands by itself: this is its target whatever stood before
abbrev pub with_row_own : ℕ → Option (Option spec.Folder) → List Place → List Place
with_row_own row own [] = []
with_row_own zero own (p ∷ ps) = record p { own = own } ∷ ps
with_row_own (suc row) own (p ∷ ps) = p ∷ with_row_own row own ps

abbrev pub IsFolder : List ℕ → Type 0
IsFolder p = IsTrue (is_folder_path p)

abbrev pub IsFolderOwn : Own → Type 0
IsFolderOwn Inherited = Unit {0}
IsFolderOwn Refused = Unit {0}
IsFolderOwn (Folder p) = IsFolder p

abbrev pub OwnFolders : List Dir → Type 0
OwnFolders ds = (row : ℕ) (d : Dir) → slice_get ds row ≡ Some d → IsFolderOwn d.own

abbrev pub TargetFolders : List (Option (List ℕ)) → Type 0
TargetFolders ts = (row : ℕ) (p : List ℕ) → slice_get ts row ≡ Some (Some p) → IsFolder p
