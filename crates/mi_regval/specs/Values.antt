-- What a text of the Registry table stands for (Registry table, column Value).
use Rattle.std.specs.Prelude.{ℕ, ◌==◌, if◌then◌else◌, List, [], ◌∷◌, Option, Some, None, Result, Ok, Err}
use Rattle.std.specs.List.{list_any}
use Rattle.hex.specs.Hex.{decode_of}
use Rattle.hex.specs.declared.FromHexError.{FromHexError}
use Rattle.mi_base.specs.declared.entry.RegValue.{RegValue}
use Rattle.mi_base.specs.declared.entry.RegValue.TheVariants as value
use Rattle.mi_regval.specs.declared.error.ValueFault.{ValueFault}
use Rattle.mi_regval.specs.declared.error.ValueFault.TheVariants.{BadInt, BadHex}
use Rattle.mi_regval.specs.Lists.{is_zero}
use Rattle.mi_regval.specs.ListTexts.{list_of}
use Rattle.mi_regval.specs.Numbers.{int_of}

abbrev pub int_value : Option ℕ → Result RegValue ValueFault
int_value None = Err BadInt
int_value (Some n) = Ok (value.Int n)

-- an even number of hexadecimal digits of either case
abbrev pub binary_value : Result (List ℕ) FromHexError → Result RegValue ValueFault
binary_value (Ok bytes) = Ok (value.Binary bytes)
binary_value (Err e) = Err BadHex

-- what stands behind a `#`: a text from the second `#` on, `%` and a text to be expanded, `x` and bytes, or an integer
abbrev pub typed_value : List ℕ → Result RegValue ValueFault
typed_value [] = Err BadInt
typed_value (b ∷ rest) =
    if b == 35 then Ok (value.Text (b ∷ rest))
    else if b == 37 then Ok (value.Expand rest)
    else if b == 120 then binary_value (decode_of rest)
    else int_value (int_of (b ∷ rest))

-- a text without a byte 0
abbrev pub plain_value : List ℕ → Result RegValue ValueFault
plain_value [] = Ok (value.Text [])
plain_value (b ∷ rest) = if b == 35 then typed_value rest else Ok (value.Text (b ∷ rest))

-- the items of an old value, where it is a list
abbrev pub old_items : Option RegValue → Option (List (List ℕ))
old_items (Some (value.List items)) = Some items
old_items old = None

-- the value that a text stands for where this value stood before, or what is wrong with the text
abbrev pub value_of : List ℕ → Option RegValue → Result RegValue ValueFault
value_of text old = if list_any is_zero text then Ok (value.List (list_of text (old_items old))) else plain_value text
