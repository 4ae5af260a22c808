-- Environment variables as the program keeps them. (Environment Table.)
use Rattle.std.specs.Prelude.{ℕ, ◌++◌, ◌∷◌, [], Bool, if◌then◌else◌, List, codes, Option, unwrap_or, option_map}
use Rattle.std.specs.Option.{option_or}
use Rattle.std.specs.FinMap.{get}
use Rattle.mi_text.specs.Maps.{Name}
use Rattle.mi_text.specs.Fold.{folded}
use Rattle.mi_text.specs.Folded.{value_at_fold}
use Rattle.mi_base.specs.declared.entry.Variable.{Variable}
use Rattle.mi_base.specs.Machine.{as_variable}
use Rattle.mi_base.specs.Names.{digit}
use Rattle.mi_image.specs.Items.{Items}
use Rattle.mi_image.specs.Lookups.{whole_of}
use Rattle.mi_world.specs.declared.variables.Variables.{Variables}

-- what the names of the user's variables begin with, or those of the system's
abbrev pub front : Bool → Name
front system = codes "n/" ++ (if system then digit 1 else digit 0) ∷ []

-- the variable that stands at a name of an image
abbrev pub variable_at_name : Items → Name → Option Variable
variable_at_name items q = as_variable (whole_of (get items q))

-- its name, folded, and its value
abbrev pub variable_pair : Variable → Name × List ℕ
variable_pair v = (folded v.name, v.value)

abbrev pub pair_at : Items → Name → Option (Name × List ℕ)
pair_at items q = option_map variable_pair (variable_at_name items q)

-- the value of a variable: the user's, else the system's
abbrev pub variable_in : Variables → Name → List ℕ
variable_in v name = unwrap_or (option_or (value_at_fold v.user name) (value_at_fold v.system name)) []
