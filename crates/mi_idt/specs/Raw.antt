-- A table as it stands in its lines, its fields still escaped, and its value.
use Rattle.std.specs.Prelude.{ℕ, List, [], ◌∷◌, map, Option, Some, None}
use Rattle.std.specs.List.{slice_index_or}
use Rattle.std.specs.Str.Lines.{lines}
use Rattle.mi_idt.specs.Cells.{ColumnValue, TableValue}
use Rattle.mi_idt.specs.Fields.{fields_of, unescaped}
use Rattle.mi_idt.specs.Columns.{columns_of}
use Rattle.mi_idt.specs.Head.{page_of, after_page, name_in, keys_in, places_of}
use Rattle.mi_idt.specs.Rows.{cells_of}

pub record RawTable : Type 0 where
  pub name : List ℕ
  pub page : Option ℕ
  pub columns : List ColumnValue
  pub keys : List ℕ
  pub rows : List (List (List ℕ))

-- what stands in the lines
abbrev pub raw_of_lines : List (List ℕ) → RawTable
raw_of_lines (names ∷ definitions ∷ head ∷ rows) = record {
  name = name_in (after_page (fields_of head));
  page = page_of (fields_of head);
  columns = columns_of names definitions;
  keys = places_of (fields_of names) (keys_in (after_page (fields_of head)));
  rows = map fields_of rows;
}
raw_of_lines ls = record { name = []; page = None; columns = []; keys = []; rows = [] }

unfoldable pub raw_of : List ℕ → RawTable
raw_of bytes = raw_of_lines (lines bytes)

-- the value of a table as it stands
abbrev pub value_of : RawTable → TableValue
value_of t = record { name = t.name; page = t.page; columns = t.columns; keys = t.keys; rows = map (cells_of t.columns) t.rows }

-- ---- fields

-- the field of a row and a column, from 0, as it stands
abbrev pub field_at : RawTable → ℕ → ℕ → List ℕ
field_at t row column = slice_index_or (slice_index_or t.rows row []) column []

-- the text that a field stands for: its bytes unescaped, and none where it is empty
abbrev pub text_of : List ℕ → Option (List ℕ)
text_of [] = None
text_of (b ∷ bs) = Some (map unescaped (b ∷ bs))
