-- Lines 1 and 2: the columns. (Column Definition Format.)
use Rattle.std.specs.Prelude.{ℕ, ◌+◌, ◌==◌, ◌||◌, nat_lt, Bool, if◌then◌else◌, List, [], ◌∷◌, ◌++◌, length, codes, is_some, Option, Some, None, option_map, unwrap_or, is_none}
use Rattle.std.specs.Str.{bytes_eq}
use Rattle.mi_text.specs.declared.answers.IdtFault.{IdtFault}
use Rattle.mi_text.specs.declared.answers.IdtFault.TheVariants.{ColumnName, ColumnCount, Definition}
use Rattle.mi_idt.specs.Cells.{ColumnValue}
use Rattle.mi_idt.specs.Fields.{fields_of, number_within}

-- the first of two faults
infixr 5 ◌or_else◌
abbrev pub ◌or_else◌ : Option IdtFault → Option IdtFault → Option IdtFault
None or_else g = g
(Some f) or_else g = Some f

-- s and l are texts, i integers, v streams
abbrev pub is_text : ℕ → Bool
is_text letter = (letter == 115) || (letter == 83) || (letter == 108) || (letter == 76)

abbrev pub is_int : ℕ → Bool
is_int letter = (letter == 105) || (letter == 73)

abbrev pub is_stream : ℕ → Bool
is_stream letter = (letter == 118) || (letter == 86)

-- an upper-case letter allows null
abbrev pub is_nullable : ℕ → Bool
is_nullable letter = nat_lt letter 97

-- the greatest size of an integer
abbrev pub limit_of : ℕ → ℕ
limit_of width = if width == 2 then 32767 else 2147483647

-- the width that follows a letter
abbrev pub width_of : ℕ → List ℕ → Option ℕ
width_of letter digits =
    if is_text letter then number_within 255 digits
    else if is_int letter then (if bytes_eq digits (codes "2") then Some 2 else if bytes_eq digits (codes "4") then Some 4 else None)
    else if is_stream letter then (if bytes_eq digits (codes "0") then Some 0 else None)
    else None

-- a column of a name and a definition, where that is one
abbrev pub column_of : List ℕ → List ℕ → Option ColumnValue
column_of name [] = None
column_of name (letter ∷ digits) = option_map (λ w. record { name = name; letter = letter; width = w }) (width_of letter digits)

-- ---- the first fault

-- the place of the first column of a name, from 0
abbrev pub place_of : List (List ℕ) → List ℕ → Option ℕ
place_of [] q = None
place_of (n ∷ ns) q = if bytes_eq q n then Some 0 else option_map (λ i. i + 1) (place_of ns q)

-- a name that is empty or among those before it
abbrev pub names_fault : List (List ℕ) → ℕ → List (List ℕ) → Option IdtFault
names_fault seen place [] = None
names_fault seen place (n ∷ ns) = if (length n == 0) || is_some (place_of seen n) then Some (ColumnName place) else names_fault (seen ++ n ∷ []) (place + 1) ns

abbrev pub definitions_fault : ℕ → List (List ℕ) → List (List ℕ) → Option IdtFault
definitions_fault place (n ∷ ns) (d ∷ ds) = if is_none (column_of n d) then Some (Definition place) else definitions_fault (place + 1) ns ds
definitions_fault place names definitions = None

abbrev pub second_fault : List (List ℕ) → List (List ℕ) → Option IdtFault
second_fault names definitions = if length definitions == length names then definitions_fault 1 names definitions else Some (ColumnCount 2)

abbrev pub columns_fault : List ℕ → List ℕ → Option IdtFault
columns_fault names definitions = names_fault [] 1 (fields_of names) or_else second_fault (fields_of names) (fields_of definitions)

-- ---- the columns

abbrev pub columns_in : List (List ℕ) → List (List ℕ) → List ColumnValue
columns_in (n ∷ ns) (d ∷ ds) = unwrap_or (column_of n d) (record { name = n; letter = 0; width = 0 }) ∷ columns_in ns ds
columns_in names definitions = []

abbrev pub columns_of : List ℕ → List ℕ → List ColumnValue
columns_of names definitions = columns_in (fields_of names) (fields_of definitions)
