-- What the former machine gives a run: properties of the system and environment variables. (Property Reference; Installed and UILevel Properties.)
use Rattle.std.specs.Prelude.{Bool, true, false, if◌then◌else◌, List, [], ◌∷◌, ◌++◌, codes, Option, Some, None, is_some, option_map, unwrap_or}
use Rattle.std.specs.List.{filter_map}
use Rattle.std.specs.Option.{option_or}
use Rattle.std.specs.FinMap.{entries}
use Rattle.mi_text.specs.Maps.{Name}
use Rattle.mi_base.specs.declared.entry.Entry.{Entry}
use Rattle.mi_base.specs.declared.entry.Entry.TheVariants as entry
use Rattle.mi_base.specs.declared.entry.Variable.{Variable}
use Rattle.mi_base.specs.Machine.{Machine, variable_at, product_at}
use Rattle.mi_base.specs.System.{default_system, has_system}
use Rattle.mi_props.specs.Props.{Value}
use Rattle.mi_model.specs.Texts.{Text}
use Rattle.mi_schema.specs.TableRows.{Rows, product_code}
use Rattle.mi_model.specs.World.{Given}

abbrev pub system_pair : Name × Entry → Option (Name × Value)
system_pair (q, entry.System property text) = Some (property, text)
system_pair other = None

-- the properties of the system; where none at all is held, the default ones (Property Reference)
unfoldable pub system_properties : Machine → List (Name × Value)
system_properties m = if has_system m then filter_map system_pair (entries m) else default_system

-- the product is recorded
unfoldable pub is_recorded : Rows → Machine → Bool
is_recorded rows m = is_some (product_at m (product_code rows))

-- the system's properties of a run: those of the machine, `Installed` where the product is recorded, and `UILevel` 2
unfoldable pub settings : Given → List (Name × Value)
settings g = system_properties g.former ++ (if is_recorded g.rows g.former then (codes "Installed", codes "1") ∷ [] else []) ++ (codes "UILevel", codes "2") ∷ []

-- an environment variable: the user's, else the system's
unfoldable pub variable_of : Machine → Name → Text
variable_of m name = unwrap_or (option_map (λ (v : Variable). v.value) (option_or (variable_at m false name) (variable_at m true name))) []
