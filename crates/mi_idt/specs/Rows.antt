-- The rows, from line 4 on.
use Rattle.std.specs.Prelude.{ℕ, ◌+◌, ◌==◌, ◌&&◌, not, Bool, true, false, if◌then◌else◌, List, [], ◌∷◌, ◌++◌, length, map, Option, Some, None, is_none, pos, unwrap_or}
use Rattle.std.specs.List.{list_any}
use Rattle.std.specs.Str.{is_utf8}
use Rattle.mi_text.specs.declared.answers.IdtFault.{IdtFault}
use Rattle.mi_text.specs.declared.answers.IdtFault.TheVariants as fault
use Rattle.mi_idt.specs.Cells.{Cell, Nothing, Text, Number, ColumnValue, key_of, same_key}
use Rattle.mi_idt.specs.Fields.{fields_of, unescaped, is_ascii, integer_within}
use Rattle.mi_idt.specs.Columns.{◌or_else◌, is_int, is_nullable, limit_of}

-- ---- values of whatever stands there

abbrev pub cell_in : Bool → ℕ → List ℕ → Cell
cell_in false limit field = Text (map unescaped field)
cell_in true limit field = Number (unwrap_or (integer_within limit field) (pos 0))

abbrev pub cell_of : ColumnValue → List ℕ → Cell
cell_of c [] = Nothing
cell_of c (b ∷ bs) = cell_in (is_int c.letter) (limit_of c.width) (b ∷ bs)

abbrev pub cells_of : List ColumnValue → List (List ℕ) → List Cell
cells_of (c ∷ cs) (f ∷ fs) = cell_of c f ∷ cells_of cs fs
cells_of cs fs = []

-- ---- the first fault

-- code page 1252 allows ASCII alone
abbrev pub is_in_page : Option ℕ → List ℕ → Bool
is_in_page None line = true
is_in_page (Some page) line = if page == 1252 then is_ascii line else true

abbrev pub is_line : Option ℕ → List ℕ → Bool
is_line page line = is_utf8 line && is_in_page page line

abbrev pub field_fault : ColumnValue → ℕ → ℕ → List ℕ → Option IdtFault
field_fault c row place field =
    if length field == 0 then (if is_nullable c.letter then None else Some (fault.Null row place))
    else if is_int c.letter && is_none (integer_within (limit_of c.width) field) then Some (fault.Integer row place)
    else None

abbrev pub fields_fault : ℕ → ℕ → List ColumnValue → List (List ℕ) → Option IdtFault
fields_fault row place (c ∷ cs) (f ∷ fs) = field_fault c row place f or_else fields_fault row (place + 1) cs fs
fields_fault row place cs fs = None

abbrev pub line_fault : Option ℕ → List ColumnValue → ℕ → List ℕ → Option IdtFault
line_fault page columns row line =
    if not (is_line page line) then Some (fault.NotUtf8 (row + 3))
    else if length (fields_of line) == length columns then fields_fault row 1 columns (fields_of line)
    else Some (fault.ColumnCount (row + 3))

abbrev pub rows_fault : Option ℕ → List ColumnValue → ℕ → List (List ℕ) → Option IdtFault
rows_fault page columns row [] = None
rows_fault page columns row (line ∷ lines) = line_fault page columns row line or_else rows_fault page columns (row + 1) lines

-- a row whose key is among those of earlier rows
abbrev pub repeat_fault : List (List Cell) → ℕ → List (List Cell) → Option IdtFault
repeat_fault seen row [] = None
repeat_fault seen row (k ∷ ks) = if list_any (same_key k) seen then Some (fault.TwoKeys row) else repeat_fault (seen ++ k ∷ []) (row + 1) ks

abbrev pub keys_of : List ColumnValue → List ℕ → List (List (List ℕ)) → List (List Cell)
keys_of columns keys rows = map (λ fields. key_of keys (cells_of columns fields)) rows
