-- The columns of a table: their names, what they hold, and the rules that their values meet.
use Rattle.std.specs.Prelude.{ℕ, Bool, List, [], map}
use Rattle.mi_rows.specs.declared.column.Column.{Column as InCode}
use Rattle.mi_rows.specs.declared.column.Layout.{Layout}
use Rattle.mi_rows.specs.declared.column.Kind.{Kind}
use Rattle.mi_rows.specs.declared.column.Rule.{Rule}

-- a column: its name, what it holds, whether it may be null, whether it is a key column, and its further rule
pub record Column : Type 0 where
  pub name : List ℕ
  pub kind : Kind
  pub nullable : Bool
  pub key : Bool
  pub rule : Rule

-- a table; one without columns is refused where it holds a row
pub record Table : Type 0 where
  pub name : List ℕ
  pub columns : List Column

abbrev pub refused : List ℕ → Table
refused n = record { name = n; columns = [] }

-- a column and a table as the program has them
abbrev pub column_as : InCode → Column
column_as c = record { name = c.name.now; kind = c.kind; nullable = c.nullable; key = c.key; rule = c.rule }

abbrev pub table_as : Layout → Table
table_as t = record { name = t.name.now; columns = map column_as t.columns.now }
