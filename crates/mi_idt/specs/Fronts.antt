-- The texts that the writer adds one after the other.
use Rattle.std.specs.Prelude.{ℕ, List, [], ◌∷◌, ◌++◌, map, Option, Some, None}
use Rattle.std.specs.Fmt.{decimal}
use Rattle.mi_idt.specs.declared.table.Column.{Column}
use Rattle.mi_idt.specs.declared.table.Row.{Row}
use Rattle.mi_idt.specs.declared.table.Table.{Table}
use Rattle.mi_idt.specs.Means.{column_value, raw_row}
use Rattle.mi_idt.specs.Rows.{cells_of}
use Rattle.mi_idt.specs.Texts.{tabbed}
use Rattle.mi_idt.specs.Written.{written_cell, written_definition, names_at}

abbrev pub row_text : List Column → Row → List ℕ
row_text columns row = tabbed 0 (map written_cell (cells_of (map column_value columns) (raw_row row)))

-- the code page and its tab
abbrev pub page_text : Option ℕ → List ℕ
page_text None = []
page_text (Some n) = decimal n ++ 9 ∷ []

-- lines 1 to 3
abbrev pub front_texts : Table → List (List ℕ)
front_texts t =
    tabbed 0 (map (λ c. c.name.now) t.columns.items)
    ∷ tabbed 0 (map written_definition (map column_value t.columns.items))
    ∷ (page_text t.page ++ (t.name.now ++ tabbed 1 (names_at (map column_value t.columns.items) t.keys.items)))
    ∷ []
