-- What a row of Registry or RemoveRegistry names, and what it says of it. (Registry Table; RemoveRegistry Table.)
use Rattle.std.specs.Prelude.{ℕ, ℤ, pos, negsuc, if◌then◌else◌, [], codes, Option, Some, None, Result, Ok, Err}
use Rattle.std.specs.Str.{bytes_eq}
use Rattle.mi_text.specs.Maps.{Name}
use Rattle.mi_text.specs.Lookups.{Lookups}
use Rattle.mi_base.specs.Limits.{is_key, is_value_name}
use Rattle.mi_base.specs.Names.{value_name}
use Rattle.mi_schema.specs.declared.typed_rows.RegistryRow.{RegistryRow}
use Rattle.mi_schema.specs.declared.typed_rows.RemoveRegistryRow.{RemoveRegistryRow}
use Rattle.mi_model.specs.Texts.{Text}
use Rattle.mi_base.specs.declared.answers.Fault.{Fault}
use Rattle.mi_base.specs.declared.answers.Fault.TheVariants.{BadKey}
use Rattle.mi_schema.specs.TableRows.{Numbered}
use Rattle.mi_model.specs.Refusals.{◌>>=◌, expanded, expanded_or_empty}
use Rattle.mi_model.specs.Parents.{parts_of, key_text}

-- ---- what a row names

-- Where a value stands; the key and the name as they are shown.
pub record RegistryPlace : Type 0 where
  pub root : ℕ
  pub key : Text
  pub name : Text

abbrev pub name_of_value : RegistryPlace → Name
name_of_value p = value_name p.root p.key p.name

-- HKEY_CLASSES_ROOT, HKEY_CURRENT_USER, HKEY_LOCAL_MACHINE, HKEY_USERS; -1 is the machine's where ALLUSERS is `1`, else the user's
abbrev pub root_of : Lookups → ℤ → ℕ
root_of L (pos root) = root
root_of L (negsuc n) = if bytes_eq (L.property (codes "ALLUSERS")) (codes "1") then 2 else 1

-- an expanded key without its empty parts
abbrev pub good_key : Text → ℕ → Text → Result Text Fault
good_key table row key = if is_key (key_text (parts_of key)) then Ok (key_text (parts_of key)) else Err (BadKey table row)

abbrev pub good_name : Text → ℕ → Text → Result Text Fault
good_name table row name = if is_value_name name then Ok name else Err (BadKey table row)

-- what the columns Root, Key and Name of a row name; a null Name is the empty name
abbrev pub place_in : Lookups → Text → ℕ → ℤ → Text → Option Text → Result RegistryPlace Fault
place_in L table row root key name = do
  expanded_key ← expanded L table row key
  whole_key ← good_key table row expanded_key
  expanded_name ← expanded_or_empty L table row name
  whole_name ← good_name table row expanded_name
  Ok (record { root = root_of L root; key = whole_key; name = whole_name })

unfoldable pub registry_place : Lookups → Numbered RegistryRow → Result RegistryPlace Fault
registry_place L r = place_in L (codes "Registry") r.number r.row.root r.row.key r.row.name

unfoldable pub removal_place : Lookups → Numbered RemoveRegistryRow → Result RegistryPlace Fault
removal_place L r = place_in L (codes "RemoveRegistry") r.number r.row.root r.row.key r.row.name

-- ---- what a row says

pub data Says : Type 0 where
  -- null Name and Value: the key is made
  KeyAlone : Says
  -- a null Value and the Name `+`: the key is made; `-`: it is removed; `*`: both
  Makes : Says
  Removes : Says
  MakesAndRemoves : Says
  -- the value that this text stands for; a null Value of another Name is the empty text
  Writes : (text : Text) → Says

abbrev pub of_key : Text → Says
of_key name =
    if bytes_eq name (codes "+") then Makes
    else if bytes_eq name (codes "-") then Removes
    else if bytes_eq name (codes "*") then MakesAndRemoves
    else Writes []

-- by the columns Name and Value, and the expanded Name
abbrev pub said : Option Text → Text → Option Text → (Text → Result Text Fault) → Result Says Fault
said field name (Some value) expand = expand value >>= λ text. Ok (Writes text)
said None name None expand = Ok KeyAlone
said (Some field) name None expand = Ok (of_key name)

pub record RegistryMeaning : Type 0 where
  pub place : RegistryPlace
  pub says : Says

-- a whole row, or its first refusal
unfoldable pub registry_meaning : Lookups → Numbered RegistryRow → Result RegistryMeaning Fault
registry_meaning L r = do
  place ← registry_place L r
  says ← said r.row.name place.name r.row.value (expanded L (codes "Registry") r.number)
  Ok (record { place = place; says = says })
