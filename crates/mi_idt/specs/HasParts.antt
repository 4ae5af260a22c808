-- A table made of the parts that were read.
use Rattle.std.specs.Prelude.{ℕ, List, map}
use Rattle.mi_idt.specs.declared.head.Head.{Head}
use Rattle.mi_idt.specs.declared.table.Column.{Column}
use Rattle.mi_idt.specs.declared.table.Table.{Table}
use Rattle.mi_idt.specs.Fields.{fields_of}
use Rattle.mi_idt.specs.Means.{IsRaw, column_value}

abbrev pub HasParts : Table → Head → List Column → List (List ℕ) → Type 0
HasParts t head columns lines = IsRaw t (record { name = head.name.now; page = head.page; columns = map column_value columns; keys = head.keys.items; rows = map fields_of lines })
