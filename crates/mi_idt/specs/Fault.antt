-- The first fault of bytes that spell no table.
use Rattle.std.specs.Prelude.{ℕ, ◌+◌, nat_lt, Bool, true, if◌then◌else◌, List, [], ◌∷◌, length, map, Option, Some, None}
use Rattle.std.specs.Str.{is_utf8}
use Rattle.std.specs.Str.Lines.{lines}
use Rattle.mi_text.specs.declared.answers.IdtFault.{IdtFault}
use Rattle.mi_text.specs.declared.answers.IdtFault.TheVariants.{TooLarge, TooFewLines, NotUtf8}
use Rattle.mi_idt.specs.Fields.{fields_of}
use Rattle.mi_idt.specs.Columns.{◌or_else◌, columns_fault, columns_of}
use Rattle.mi_idt.specs.Cells.{ColumnValue}
use Rattle.mi_idt.specs.Head.{head_fault, page_of, after_page, keys_in, places_of}
use Rattle.mi_idt.specs.Rows.{rows_fault, repeat_fault, keys_of}

-- more than 65,535 rows or 32 columns
abbrev pub columns_at : List (List ℕ) → ℕ
columns_at [] = 0
columns_at (names ∷ ls) = length (fields_of names)

abbrev pub is_too_large : List (List ℕ) → Bool
is_too_large ls = if nat_lt (65535 + 3) (length ls) then true else nat_lt 32 (columns_at ls)

abbrev pub size_fault : List (List ℕ) → Option IdtFault
size_fault ls = if is_too_large ls then Some TooLarge else None

abbrev pub text_fault : ℕ → List ℕ → Option IdtFault
text_fault number line = if is_utf8 line then None else Some (NotUtf8 number)

abbrev pub texts_fault : List ℕ → List ℕ → List ℕ → Option IdtFault
texts_fault names definitions head = text_fault 1 names or_else text_fault 2 definitions or_else text_fault 3 head

-- of the rows, and last of their keys
abbrev pub body_fault : Option ℕ → List ColumnValue → List ℕ → List (List ℕ) → Option IdtFault
body_fault page columns keys rows = rows_fault page columns 1 rows or_else repeat_fault [] 1 (keys_of columns keys (map fields_of rows))

-- of the columns, the head and the rows, in this order
unfoldable pub parts_fault : List ℕ → List ℕ → List ℕ → List (List ℕ) → Option IdtFault
parts_fault names definitions head rows =
    columns_fault names definitions
    or_else head_fault (fields_of names) (fields_of head)
    or_else body_fault (page_of (fields_of head)) (columns_of names definitions) (places_of (fields_of names) (keys_in (after_page (fields_of head)))) rows

abbrev pub table_fault : List (List ℕ) → Option IdtFault
table_fault (names ∷ definitions ∷ head ∷ rows) = texts_fault names definitions head or_else parts_fault names definitions head rows
table_fault ls = Some TooFewLines

unfoldable pub lines_fault : List (List ℕ) → Option IdtFault
lines_fault ls = size_fault ls or_else table_fault ls

-- more than 16,777,216 bytes come first
unfoldable pub idt_fault : List ℕ → Option IdtFault
idt_fault bytes = if nat_lt 16777216 (length bytes) then Some TooLarge else lines_fault (lines bytes)
