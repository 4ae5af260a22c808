-- The cells that fields are.
use Rattle.std.specs.Prelude.{pos}
use Rattle.mi_idt.specs.Cells.{Cell, Nothing, Text, Number}
use Rattle.mi_gen.specs.declared.cells.Field.{Field}
use Rattle.mi_gen.specs.declared.cells.Field.TheVariants as field

abbrev pub cell : Field → Cell
cell field.Null = Nothing
cell (field.Text text) = Text text.now
cell (field.Number n) = Number (pos n)
