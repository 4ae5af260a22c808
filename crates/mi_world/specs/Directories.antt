-- The properties that directories set, while they are set from the last row to the first. (CostFinalize Action.)
use Rattle.std.specs.Prelude.{◌≡◌, ℕ, ◌++◌, List, drop, Option, Some, None}
use Rattle.std.specs.List.{filter_map}
use Rattle.std.specs.FinMap.{insert, entries, from_entries}
use Rattle.mi_text.specs.Maps.{Name}
use Rattle.mi_props.specs.Props.{Value, Values}
use Rattle.mi_dirs.specs.Places.{Place}
use Rattle.mi_schema.specs.declared.typed_rows.DirectoryRow.{DirectoryRow}
use Rattle.mi_model.specs.Properties.{directory_property}

-- with this property set, if there is one
abbrev pub with_pair : Option (Name × Value) → Values → Values
with_pair None props = props
with_pair (Some p) props = insert props p.0 p.1

-- the properties of before with those of the rows from this place on
abbrev pub HasDirectories : List DirectoryRow → List Place → Values → ℕ → Values → Type 0
HasDirectories rows dirs before place props = props ≡ from_entries (filter_map (directory_property dirs) (drop place rows) ++ entries before)
