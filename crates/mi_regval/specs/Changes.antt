-- What a text of the Registry table makes of an old value (Registry table, column Value).
use Rattle.std.specs.Prelude.{ℕ, if◌then◌else◌, List, Option, Some, None, Result, Ok, Err}
use Rattle.mi_base.specs.declared.entry.RegValue.{RegValue}
use Rattle.mi_base.specs.declared.entry.RegValue.TheVariants as value
use Rattle.mi_regval.specs.declared.change.Change.{Change}
use Rattle.mi_regval.specs.declared.change.Change.TheVariants as change
use Rattle.mi_regval.specs.declared.error.ValueFault.{ValueFault}
use Rattle.mi_regval.specs.Lists.{same_items}
use Rattle.mi_regval.specs.Values.{old_items, value_of}

abbrev pub list_change : List (List ℕ) → Option (List (List ℕ)) → Change
list_change items (Some old) = if same_items items old then change.Unchanged else change.Value (value.List items)
list_change items None = change.Value (value.List items)

-- a list that equals the old one leaves it as it is, and any other value takes the old one's place
abbrev pub changed : Option (List (List ℕ)) → RegValue → Change
changed old (value.List items) = list_change items old
changed old v = change.Value v

abbrev pub change_in : Option (List (List ℕ)) → Result RegValue ValueFault → Result Change ValueFault
change_in old (Ok v) = Ok (changed old v)
change_in old (Err f) = Err f

-- what a text makes of the value that stood before, or what is wrong with the text
abbrev pub change_of : List ℕ → Option RegValue → Result Change ValueFault
change_of text old = change_in (old_items old) (value_of text old)
