-- Tables that are made of rows by their keys. (Database Tables.)
use Rattle.std.specs.Prelude.{◌≡◌, ℕ, List, drop, Option, Some, None, option_map, if◌then◌else◌}
use Rattle.std.specs.Str.{bytes_eq}
use Rattle.std.specs.FinMap.{get}
use Rattle.mi_text.specs.Maps.{Name, Map}
use Rattle.mi_schema.specs.declared.typed_rows.PropertyRow.{PropertyRow}
use Rattle.mi_schema.specs.TableRows.{row_of}

-- each row from this place on tells what stands at its key; of two rows of one key the first does
abbrev pub AreTold : {R X : Type 0} → (R → Name) → (R → X) → List R → ℕ → Map X → Type 0
AreTold key tells rows place m = (q : Name) → get m q ≡ option_map tells (row_of key (drop place rows) q)

-- the row, if it has this name
abbrev pub named_row : Name → Option PropertyRow → Option PropertyRow
named_row name None = None
named_row name (Some r) = if bytes_eq name r.property then Some r else None
