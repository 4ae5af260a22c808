-- The rows of a table, its first fault, and the files of a package. (Database Tables.)
use Rattle.std.specs.Prelude.{◌≡◌, ℕ, ◌+◌, ◌&&◌, Bool, true, false, if◌then◌else◌, List, [], ◌∷◌, ◌++◌, map, length, codes, nat_lt, Option, Some, None, option_map}
use Rattle.std.specs.Str.{bytes_eq}
use Rattle.std.specs.FinMap.{get}
use Rattle.mi_text.specs.Maps.{Name}
use Rattle.mi_source.specs.Paths.{Files, path_in}
use Rattle.mi_base.specs.declared.answers.Fault.{Fault}
use Rattle.mi_base.specs.declared.answers.Fault.TheVariants.{Idt, Columns, Unsupported, Value, Condition}
use Rattle.mi_text.specs.declared.answers.IdtFault.TheVariants.{TooLarge}
use Rattle.mi_idt.specs.Cells as raw
use Rattle.mi_idt.specs.Columns.{is_text, is_int}
use Rattle.mi_idt.specs.Fault.{idt_fault}
use Rattle.mi_idt.specs.Raw as spelled
use Rattle.mi_rows.specs.declared.field.Bad.{Bad}
use Rattle.mi_rows.specs.declared.field.Bad.TheVariants as bad
use Rattle.mi_rows.specs.declared.column.Kind.{Kind}
use Rattle.mi_rows.specs.declared.column.Kind.TheVariants.{Integer}
use Rattle.mi_rows.specs.Columns.{Column, Table}
use Rattle.mi_rows.specs.Values.{Row, text_at, value_of, row_of, kind_fault, meets, unless, keys_tell}

-- the first of two
infixr 5 ◌or_else◌
abbrev pub ◌or_else◌ : {X : Type 0} → Option X → Option X → Option X
None or_else g = g
(Some f) or_else g = Some f

-- ---- columns

-- an integer column holds integers, and any other texts; a stream is neither
abbrev pub is_of_class : Kind → ℕ → Bool
is_of_class Integer letter = is_int letter
is_of_class other letter = is_text letter

-- the columns begin with the known ones, in this order; further ones are unread
abbrev pub begins_with : List Column → List raw.ColumnValue → Bool
begins_with [] columns = true
begins_with (k ∷ known) [] = false
begins_with (k ∷ known) (c ∷ columns) = bytes_eq c.name k.name && is_of_class k.kind c.letter && begins_with known columns

-- the places of the key columns, from 0
abbrev pub key_places : ℕ → List Column → List ℕ
key_places place [] = []
key_places place (c ∷ cs) = if c.key then place ∷ key_places (place + 1) cs else key_places (place + 1) cs

abbrev pub has_columns : List Column → raw.TableValue → Bool
has_columns known t = bytes_eq t.keys (key_places 0 known) && begins_with known t.columns

-- ---- values, by row and by column

-- why a field isn't a value of its column: by its kind, then by its rule
abbrev pub cell_fault : Column → List Name → List Row → Row → raw.Cell → Option Bad
cell_fault c keys before front x = kind_fault c.kind c.nullable x or_else unless (meets c.rule keys before front (value_of c.kind x))

-- the fault of a row and a column, from 1
abbrev pub fault_at : Name → ℕ → ℕ → Bad → Fault
fault_at table row column bad.Value = Value table row column
fault_at table row column (bad.Condition place) = Condition table row place

abbrev pub cells_fault : Name → ℕ → List Name → List Row → ℕ → Row → List Column → List raw.Cell → Option Fault
cells_fault table number keys before column front (c ∷ cs) (x ∷ xs) =
    option_map (fault_at table number column) (cell_fault c keys before front x)
    or_else cells_fault table number keys before (column + 1) (front ++ value_of c.kind x ∷ []) cs xs
cells_fault table number keys before column front cs xs = None

abbrev pub row_fault : Table → ℕ → List Name → List Row → List raw.Cell → Option Fault
row_fault t number keys before cells = cells_fault t.name number keys before 1 [] t.columns cells

abbrev pub rows_fault : Table → List Name → List Row → ℕ → List (List raw.Cell) → Option Fault
rows_fault t keys before number [] = None
rows_fault t keys before number (cells ∷ rows) = row_fault t number keys before cells or_else rows_fault t keys (before ++ row_of t.columns cells ∷ []) (number + 1) rows

-- ---- the table

abbrev pub are_none : List Column → Bool
are_none [] = true
are_none (c ∷ cs) = false

abbrev pub is_refused : Table → Bool
is_refused t = are_none t.columns

-- one that isn't, and the values of its key columns tell the fields
abbrev pub IsReadable : Table → Type 0
IsReadable t = (is_refused t ≡ false) × (keys_tell t.columns ≡ true)

-- the rows of a known table, whatever they hold
abbrev pub rows_in : Table → raw.TableValue → List Row
rows_in t v = map (row_of t.columns) v.rows

-- the texts of the first column
abbrev pub keys_of : List Row → List Name
keys_of rows = map (λ row. text_at row 0) rows

abbrev pub unsupported : Name → List (List raw.Cell) → Option Fault
unsupported table [] = None
unsupported table (row ∷ rows) = Some (Unsupported table)

-- what is wrong with a table that its bytes spell
abbrev pub value_fault : Table → raw.TableValue → Option Fault
value_fault t v =
    if is_refused t then unsupported t.name v.rows
    else if has_columns t.columns v then rows_fault t (keys_of (rows_in t v)) [] 1 v.rows
    else Some (Columns t.name)

-- the value of the table that bytes spell
abbrev pub spelled_value : List ℕ → raw.TableValue
spelled_value bytes = spelled.value_of (spelled.raw_of bytes)

-- more bytes than a table may have
abbrev pub size_fault : Name → Option (List ℕ) → Option Fault
size_fault table None = None
size_fault table (Some bytes) = if nat_lt 16777216 (length bytes) then Some (Idt table TooLarge) else None

-- the first fault of a table in a file; a table without a file has no rows
abbrev pub table_fault : Table → Option (List ℕ) → Option Fault
table_fault t None = None
table_fault t (Some bytes) = option_map (Idt t.name) (idt_fault bytes) or_else value_fault t (spelled_value bytes)

abbrev pub table_rows : Table → Option (List ℕ) → List Row
table_rows t None = []
table_rows t (Some bytes) = rows_in t (spelled_value bytes)

-- ---- what a folder holds of a package

-- the bytes of each table's file, by the name of the table
abbrev pub Content : Type 0
Content = Name → Option (List ℕ)

-- the file of a table
abbrev pub table_path : Name → Name → Name
table_path folder table = path_in folder (table ++ codes ".idt")

abbrev pub content_of : Files → Name → Content
content_of files folder = λ table. get files (table_path folder table)

-- the rows of a table, as they stand in its file
abbrev pub rows_at : Content → Table → List Row
rows_at content t = table_rows t (content t.name)
