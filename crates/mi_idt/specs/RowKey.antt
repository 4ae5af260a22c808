-- The key of a row: its written form, and its fields where they stand so.
use Rattle.std.specs.Prelude.{◌≡◌, ℕ, List, map, length, take}
use Rattle.mi_idt.specs.declared.table.Column.{Column}
use Rattle.mi_idt.specs.declared.table.Row.{Row}
use Rattle.mi_idt.specs.Cells.{Cell, key_of}
use Rattle.mi_idt.specs.Means.{column_value, raw_row}
use Rattle.mi_idt.specs.Rows.{cells_of}
use Rattle.mi_idt.specs.Spells.{SpellsFields}
use Rattle.mi_idt.specs.Written.{written_cell, written_row}

abbrev pub row_cells : List Column → Row → List Cell
row_cells columns row = cells_of (map column_value columns) (raw_row row)

abbrev pub row_key : List Column → List ℕ → Row → List ℕ
row_key columns keys row = written_row (key_of keys (row_cells columns row))

-- the first so many fields
abbrev pub row_front : ℕ → Row → List (List ℕ)
row_front count row = take count (raw_row row)

-- the fields spell the cells
abbrev pub IsSpelledRow : List Column → Row → Type 0
IsSpelledRow columns row = SpellsFields (map column_value columns) (raw_row row) (row_cells columns row)

-- the first fields are those of the key, as they are written
abbrev pub KeyStands : List Column → List ℕ → Row → Type 0
KeyStands columns keys row = row_front (length keys) row ≡ map written_cell (key_of keys (row_cells columns row))
