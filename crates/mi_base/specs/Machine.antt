-- The machine: one map from the names of the volume to entries, each under its own name.
use Rattle.std.specs.Prelude.{◌≡◌, ℕ, Bool, true, List, Option, Some, None, Result, Ok, Err}
use Rattle.std.specs.FinMap.{get}
use Rattle.mi_text.specs.Maps.{Name, Map, map_values}
use Rattle.mi_base.specs.declared.rec_error.RecFault.{RecFault}
use Rattle.mi_base.specs.declared.rec_error.RecFault.TheVariants.{Field}
use Rattle.mi_base.specs.declared.entry.FileHead.{FileHead}
use Rattle.mi_base.specs.declared.entry.FileEntry.{FileEntry}
use Rattle.mi_base.specs.declared.entry.RegValue.{RegValue}
use Rattle.mi_base.specs.declared.entry.Shortcut.{Shortcut}
use Rattle.mi_base.specs.declared.entry.Variable.{Variable}
use Rattle.mi_base.specs.declared.entry.Client.{Client}
use Rattle.mi_base.specs.declared.entry.Product.{Product}
use Rattle.mi_base.specs.declared.entry.Entry.{Entry}
use Rattle.mi_base.specs.declared.entry.Entry.TheVariants as entry
use Rattle.mi_base.specs.Limits.{fits, IsEntry}
use Rattle.mi_base.specs.Names.{file_name, folder_name, key_name, value_name, shortcut_name, variable_name, client_name, product_name, system_name}
use Rattle.mi_base.specs.Spelling.{name_of, head_of, record_of}
use Rattle.mi_base.specs.Reading.{◌>>=◌}
use Rattle.mi_base.specs.Records.{entry_of}
use Rattle.mi_base.specs.SpelledMaps.{spelled_map}

abbrev pub Machine : Type 0
Machine = Map Entry

-- the entry has a record
abbrev pub Fits : Entry → Type 0
Fits e = IsEntry e × (fits e ≡ true)

-- each entry stands at its own name and has a record
abbrev pub IsMachine : Machine → Type 0
IsMachine m = (q : Name) (e : Entry) → get m q ≡ Some e → (name_of e ≡ q) × Fits e

-- the map of the volume that spells a machine
unfoldable pub volume_of : Machine → Map (List ℕ)
volume_of m = map_values record_of m

abbrev pub ok_entry : Result Entry RecFault → Option Entry
ok_entry (Ok e) = Some e
ok_entry (Err f) = None

-- the entry that a name and its record spell
abbrev pub read_entry : Name → List ℕ → Option Entry
read_entry name bytes = ok_entry (entry_of name bytes)

-- the machine whose entries the held names spell, or the first name in byte order that isn't spelled;
-- names of the rollback area are no part of it
abbrev pub machine_of : Map (List ℕ) → Result Machine Name
machine_of d = spelled_map read_entry d

-- ---- typed look-ups

abbrev pub as_file : Option Entry → Option FileEntry
as_file (Some (entry.File f)) = Some f
as_file other = None

abbrev pub as_folder : Option Entry → Option (List ℕ)
as_folder (Some (entry.Folder shown)) = Some shown
as_folder other = None

abbrev pub as_key : Option Entry → Option (List ℕ)
as_key (Some (entry.Key root shown)) = Some shown
as_key other = None

-- the shown name and the value
abbrev pub as_value : Option Entry → Option (List ℕ × RegValue)
as_value (Some (entry.Value k v)) = Some (k.shown, v)
as_value other = None

abbrev pub as_shortcut : Option Entry → Option Shortcut
as_shortcut (Some (entry.Shortcut s)) = Some s
as_shortcut other = None

abbrev pub as_variable : Option Entry → Option Variable
as_variable (Some (entry.Variable v)) = Some v
as_variable other = None

abbrev pub as_client : Option Entry → Option Client
as_client (Some (entry.Client c)) = Some c
as_client other = None

abbrev pub as_product : Option Entry → Option Product
as_product (Some (entry.Product p)) = Some p
as_product other = None

abbrev pub as_system : Option Entry → Option (List ℕ)
as_system (Some (entry.System property text)) = Some text
as_system other = None

-- the file of a path, in whichever case
abbrev pub file_at : Machine → List ℕ → Option FileEntry
file_at m path = as_file (get m (file_name path))

abbrev pub folder_at : Machine → List ℕ → Option (List ℕ)
folder_at m path = as_folder (get m (folder_name path))

abbrev pub key_at : Machine → ℕ → List ℕ → Option (List ℕ)
key_at m root key = as_key (get m (key_name root key))

abbrev pub value_at : Machine → ℕ → List ℕ → List ℕ → Option (List ℕ × RegValue)
value_at m root key name = as_value (get m (value_name root key name))

abbrev pub shortcut_at : Machine → List ℕ → Option Shortcut
shortcut_at m path = as_shortcut (get m (shortcut_name path))

abbrev pub variable_at : Machine → Bool → List ℕ → Option Variable
variable_at m system name = as_variable (get m (variable_name system name))

abbrev pub client_at : Machine → ℕ → ℕ → Option Client
client_at m component product = as_client (get m (client_name component product))

abbrev pub product_at : Machine → ℕ → Option Product
product_at m code = as_product (get m (product_name code))

abbrev pub system_at : Machine → List ℕ → Option (List ℕ)
system_at m property = as_system (get m (system_name property))

-- two machines answer each typed look-up alike
pub record AgreeEverywhere (m n : Machine) : Type 0 where
  pub files : (path : List ℕ) → file_at m path ≡ file_at n path
  pub folders : (path : List ℕ) → folder_at m path ≡ folder_at n path
  pub values : (root : ℕ) (key name : List ℕ) → value_at m root key name ≡ value_at n root key name
  pub keys : (root : ℕ) (key : List ℕ) → key_at m root key ≡ key_at n root key
  pub shortcuts : (path : List ℕ) → shortcut_at m path ≡ shortcut_at n path
  pub variables : (system : Bool) (name : List ℕ) → variable_at m system name ≡ variable_at n system name
  pub clients : (component product : ℕ) → client_at m component product ≡ client_at n component product
  pub products : (code : ℕ) → product_at m code ≡ product_at n code
  pub systems : (property : List ℕ) → system_at m property ≡ system_at n property

-- the head of an entry that is a file
abbrev pub head_of_entry : Entry → Result FileHead RecFault
head_of_entry (entry.File f) = Ok (head_of f)
head_of_entry other = Err Field

abbrev pub head_of_read : Result Entry RecFault → Result FileHead RecFault
head_of_read read = read >>= head_of_entry
