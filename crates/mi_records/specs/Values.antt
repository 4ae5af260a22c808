-- The value that a text makes at a place, as the program tells it. (Registry Table, column Value.)
use Rattle.std.specs.Prelude.{◌≡◌, ◌<◌, ◌||◌, nat_lt, Bool, true, false, length, Result, Ok, Err}
use Rattle.std.specs.FinMap.{get}
use Rattle.mi_base.specs.declared.entry.Entry.{Entry}
use Rattle.mi_base.specs.declared.entry.RegValue.{RegValue}
use Rattle.mi_base.specs.Limits.{is_key, is_value_name, fits}
use Rattle.mi_base.specs.Machine.{Machine}
use Rattle.mi_base.specs.Spelling.{record_of}
use Rattle.mi_regval.specs.declared.error.ValueFault.{ValueFault}
use Rattle.mi_regval.specs.Values.{value_of}
use Rattle.mi_model.specs.Texts.{Text}
use Rattle.mi_model.specs.Refusals.{has_too_many}
use Rattle.mi_model.specs.RegistryRows.{RegistryPlace, name_of_value}
use Rattle.mi_model.specs.WriteRegistryValues.{old_value, value_entry}
use Rattle.mi_records.specs.declared.stop.Why.TheVariants.{BadValue}
use Rattle.mi_records.specs.declared.stop.Stop.{Stop}
use Rattle.mi_records.specs.declared.stop.Stop.TheVariants.{NoMemory, Refused}

-- what a text makes of the value that stands at a place
abbrev pub value_over : Machine → RegistryPlace → Text → Result RegValue ValueFault
value_over m p text = value_of text (old_value (get m (name_of_value p)))

-- each place of the program is a value's
pub record IsPlace (p : RegistryPlace) : Type 0 where
  pub root : p.root < 4
  pub key : is_key p.key ≡ true
  pub name : is_value_name p.name ≡ true

-- the record is longer than 16,777,216 bytes, or the list has more than 65,535 items
abbrev pub is_too_large : Entry → Bool
is_too_large e = nat_lt 16777216 (length (record_of e)) || has_too_many e

-- the program's answer is this value, or that the text is none
abbrev pub ReadsValue : Result RegValue ValueFault → Result RegValue Stop → Type 0
ReadsValue does (Ok v) = does ≡ Ok v
ReadsValue does (Err NoMemory) = Unit {0}
ReadsValue does (Err (Refused why)) = (why ≡ BadValue) × (fault : ValueFault) × (does ≡ Err fault)

-- the program's answer is this entry, or that it is too large
abbrev pub KeepsSize : Entry → Result Entry Stop → Type 0
KeepsSize e (Ok same) = (same ≡ e) × (is_too_large e ≡ false)
KeepsSize e (Err NoMemory) = Unit {0}
KeepsSize e (Err (Refused why)) = (why ≡ BadValue) × (is_too_large e ≡ true)

-- the program's answer is the entry of a value that the text makes and that is small enough, or the text is refused
pub record IsValueAt (m : Machine) (p : RegistryPlace) (text : Text) (e : Entry) : Type 0 where
  pub value : RegValue
  pub reads : value_over m p text ≡ Ok value
  pub is : e ≡ value_entry p value
  pub small : is_too_large e ≡ false
  pub right : fits e ≡ true

pub record IsRefusedAt (m : Machine) (p : RegistryPlace) (text : Text) : Type 0 where
  pub reads : (value : RegValue) → value_over m p text ≡ Ok value → is_too_large (value_entry p value) ≡ true

abbrev pub MakesValue : Machine → RegistryPlace → Text → Result Entry Stop → Type 0
MakesValue m p text (Ok e) = IsValueAt m p text e
MakesValue m p text (Err NoMemory) = Unit {0}
MakesValue m p text (Err (Refused why)) = (why ≡ BadValue) × IsRefusedAt m p text
