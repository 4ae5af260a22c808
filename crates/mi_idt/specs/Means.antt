-- What a table in memory means.
use Rattle.std.specs.Prelude.{◌≡◌, ◌<◌, ℕ, List, [], ◌∷◌, length, map, Option, Some, None}
use Rattle.std.specs.List.{slice_index_or, flat_map}
use Rattle.mi_idt.specs.declared.table.Column.{Column}
use Rattle.mi_idt.specs.declared.table.Row.{Row}
use Rattle.mi_idt.specs.declared.table.Table.{Table}
use Rattle.mi_idt.specs.Cells.{Cell, Nothing, Text, Number, ColumnValue, TableValue}
use Rattle.mi_idt.specs.Fields.{fields_of}
use Rattle.mi_idt.specs.Raw.{RawTable, raw_of, value_of}
use Rattle.mi_idt.specs.Spells.{Spells, SpellsInteger}
use denote.Ref.{Bor}

abbrev pub column_value : Column → ColumnValue
column_value c = record { name = c.name.now; letter = c.letter; width = c.width }

abbrev pub raw_row : Row → List (List ℕ)
raw_row r = fields_of r.line.now

-- the fields of all rows, one row behind the other
abbrev pub AreLaid : List Row → List (Bor (List ℕ)) → Type 0
AreLaid rows fields = map (λ b. b.now) fields ≡ flat_map raw_row rows

abbrev pub raw : Table → RawTable
raw t = record { name = t.name.now; page = t.page; columns = map column_value t.columns.items; keys = t.keys.items; rows = map raw_row t.rows.items }

-- a table in memory of these lines, whose fields are laid so
abbrev pub IsRaw : Table → RawTable → Type 0
IsRaw t r = (raw t ≡ r) × AreLaid t.rows.items t.fields.items

-- the value of a table in memory
unfoldable pub meaning : Table → TableValue
meaning t = value_of (raw t)

-- the bytes spell what the table means, and its fields stand in them so
pub record IsSpelledBy (bytes : List ℕ) (t : Table) : Type 0 where
  pub spells : Spells bytes (meaning t)
  pub stands : raw t ≡ raw_of bytes
  pub laid : AreLaid t.rows.items t.fields.items

-- some bytes spell it
abbrev pub IsSpelled : Table → Type 0
IsSpelled t = (bytes : List ℕ) × IsSpelledBy bytes t

-- the cell of a row and a column, from 0
abbrev pub cell_at : TableValue → ℕ → ℕ → Cell
cell_at t row column = slice_index_or (slice_index_or t.rows row []) column Nothing

-- what is shown of a cell: nothing of a null, a text, or a text that spells the integer
abbrev pub Shows : Option (List ℕ) → Cell → Type 0
Shows None Nothing = Unit {0}
Shows (Some text) (Text bytes) = text ≡ bytes
Shows (Some text) (Number z) = SpellsInteger 2147483647 text z
Shows shown cell = ⊥

-- what is shown by a text: nothing by an empty one
abbrev pub text_shown : List ℕ → Option (List ℕ)
text_shown [] = None
text_shown (b ∷ bs) = Some (b ∷ bs)

-- the texts show the cells of a row, from 0
pub record ShowsRow (t : Table) (row : ℕ) (texts : List (List ℕ)) : Type 0 where
  pub many : length texts ≡ length t.columns.items
  pub cells : (column : ℕ) → column < length t.columns.items → Shows (text_shown (slice_index_or texts column [])) (cell_at (meaning t) row column)
