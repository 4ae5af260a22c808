-- Properties as a map from names to values, and which value holds (Order of Property Precedence).
use Rattle.std.specs.Prelude.{ℕ, Bool, if◌then◌else◌, List, [], ◌++◌, map, reverse, Option, Some, None, unwrap_or, string_bytes, String}
use Rattle.std.specs.List.{list_all}
use Rattle.std.specs.Option.{option_or}
use Rattle.std.specs.declared.alloc.Global.{Global}
use Rattle.std.specs.Coded.{Coded, coded_list, coded_ℕ}
use Rattle.std.specs.FinMap as fin
use Rattle.std.specs.FinMap.{find, get, from_entries}
use Rattle.mi_text.specs.Maps.{Name, name_cmp, Map}
use Rattle.mi_props.specs.declared.props.PropFault.{PropFault}
use Rattle.mi_props.specs.declared.props.PropFault.TheVariants.{PrivateName, BadName}
use Rattle.mi_text.specs.PropertyNames.{is_property_name, is_public_name}

abbrev pub Value : Type 0
Value = List ℕ

-- the values of the properties that are set
abbrev pub Values : Type 0
Values = Map Value

abbrev pub values_code : Coded Values
values_code = fin.code (coded_list coded_ℕ) (coded_list coded_ℕ)

abbrev pub pair_of : String Global × Value → Name × Value
pair_of e = (string_bytes e.0, e.1)

-- what the entries of the program's map mean
abbrev pub values_of : List (String Global × Value) → Values
values_of es = from_entries (map pair_of es)

-- the value that a list gives a name: of two entries with one name the later holds
abbrev pub given : List (Name × Value) → Name → Option Value
given pairs name = find name_cmp name (reverse pairs)

-- the value of a name at the start: the system's, else the words', else the table's
abbrev pub first_value : (system words table : List (Name × Value)) → Name → Option Value
first_value system words table name = option_or (given system name) (option_or (given words name) (given table name))

-- all of them as a map; where a name stands twice in the list below, `from_entries` takes the first
abbrev pub started : (system words table : List (Name × Value)) → Values
started system words table = from_entries (reverse system ++ reverse words ++ reverse table)

abbrev pub all_names : (Name → Bool) → List (Name × Value) → Bool
all_names test pairs = list_all (λ p. test p.0) pairs

-- the first refusal, in the order of the lists: a word whose name isn't public, a name that is no property name
abbrev pub start_fault : (system words table : List (Name × Value)) → Option PropFault
start_fault system words table =
    if all_names is_property_name system then (
    if all_names is_public_name words then (
    if all_names is_property_name table then None else Some BadName
    ) else Some PrivateName
    ) else Some BadName

-- the value of a property, and no bytes where it isn't set
abbrev pub value_in : Values → Name → Value
value_in values name = unwrap_or (get values name) []
