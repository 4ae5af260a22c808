-- The count of a shared file: how many hold it, with what doesn't know of clients. It stands under SharedDLLs, by the path of the file.
-- (Component Table, Attributes, msidbComponentAttributesSharedDllRefCount. The rules of the counts are this project's own.)
use Rattle.std.specs.Prelude.{ℕ, ◌+◌, ◌-◌, ◌&&◌, min, nat_lt, Bool, false, codes, Option, Some, None, is_some, Result, Ok, Err}
use Rattle.std.specs.FinMap.{get}
use Rattle.mi_text.specs.Maps.{Name}
use Rattle.mi_text.specs.Fold.{folded}
use Rattle.mi_base.specs.declared.entry.Entry.{Entry}
use Rattle.mi_base.specs.declared.entry.Entry.TheVariants as entry
use Rattle.mi_base.specs.declared.entry.RegValue.TheVariants as value
use Rattle.mi_base.specs.declared.answers.Fault.{Fault}
use Rattle.mi_base.specs.Names.{value_name}
use Rattle.mi_base.specs.Machine.{Machine}
use Rattle.mi_schema.specs.declared.typed_rows.ComponentRow.{ComponentRow}
use Rattle.mi_schema.specs.TableRows.{Rows}
use Rattle.mi_model.specs.Texts.{Text}
use Rattle.mi_model.specs.Conditions.{has}
use Rattle.mi_model.specs.KeyPaths.{KeyPath, key_path_text, file_row}

-- the key of the counts, under HKEY_LOCAL_MACHINE
abbrev pub shared_key : Text
shared_key = codes "Software\\Microsoft\\Windows\\CurrentVersion\\SharedDLLs"

abbrev pub count_name : Text → Name
count_name path = value_name 2 shared_key path

abbrev pub count_entry : Text → ℕ → Entry
count_entry path n = entry.Value (record { root = 2; key = folded shared_key; shown = path }) (value.Int n)

-- the number that stands there; 0 where there is none, or the value is no integer
abbrev pub count_in : Option Entry → ℕ
count_in (Some (entry.Value key (value.Int n))) = n
count_in other = 0

-- one that comes counts one more, up to the greatest number that a value holds
abbrev pub raised : Text → Option Entry → Option Entry
raised path old = Some (count_entry path (min (count_in old + 1) 4294967295))

-- one that goes counts one less, down to 0; what is no integer stays
abbrev pub lowered : Option Entry → Option Entry
lowered (Some (entry.Value key (value.Int n))) = Some (entry.Value key (value.Int (n - 1)))
lowered old = old

-- a component is counted that has attribute 8, an id, and a file as its key path
abbrev pub is_counted : Rows → ComponentRow → Bool
is_counted rows c = has 8 c.attributes && is_some c.component_id && is_some (file_row rows c)

-- others than the component hold its file, by the count of its key path in the former machine
unfoldable pub has_other_count : Rows → Machine → ComponentRow → Result KeyPath Fault → Bool
has_other_count rows former c (Ok p) = is_counted rows c && nat_lt 1 (count_in (get former (count_name (key_path_text p))))
has_other_count rows former c (Err fault) = false
