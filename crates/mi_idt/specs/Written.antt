-- The form in which a table is written: each line ends by CR LF, and numbers have no leading zeros.
use Rattle.std.specs.Prelude.{ℕ, ◌==◌, if◌then◌else◌, List, [], ◌∷◌, ◌++◌, map, Option, Some, None}
use Rattle.std.specs.List.{flat_map, join_with_byte, slice_index_or}
use Rattle.std.specs.Fmt.{decimal, signed_decimal}
use Rattle.mi_idt.specs.Cells.{Cell, Nothing, Text, Number, ColumnValue, TableValue, names_of}

abbrev pub escaped : ℕ → ℕ
escaped b = if b == 0 then 21 else if b == 8 then 27 else if b == 9 then 16 else if b == 10 then 25 else if b == 12 then 24 else if b == 13 then 17 else b

abbrev pub written_cell : Cell → List ℕ
written_cell Nothing = []
written_cell (Text bytes) = map escaped bytes
written_cell (Number z) = signed_decimal z

abbrev pub written_row : List Cell → List ℕ
written_row row = join_with_byte 9 (map written_cell row)

abbrev pub written_definition : ColumnValue → List ℕ
written_definition c = c.letter ∷ decimal c.width

abbrev pub written_page : Option ℕ → List (List ℕ)
written_page None = []
written_page (Some n) = decimal n ∷ []

abbrev pub names_at : List ColumnValue → List ℕ → List (List ℕ)
names_at columns keys = map (λ i. slice_index_or (names_of columns) i []) keys

abbrev pub written_lines : TableValue → List (List ℕ)
written_lines t =
    join_with_byte 9 (names_of t.columns)
    ∷ join_with_byte 9 (map written_definition t.columns)
    ∷ join_with_byte 9 (written_page t.page ++ t.name ∷ names_at t.columns t.keys)
    ∷ map written_row t.rows

-- each line behind the other, with its end
abbrev pub with_ends : List (List ℕ) → List ℕ
with_ends lines = flat_map (λ line. line ++ 13 ∷ 10 ∷ []) lines

unfoldable pub written : TableValue → List ℕ
written t = with_ends (written_lines t)
