-- Which columns and keys a table has.
use Rattle.std.proofs.Common.{◌≡◌, ◌<◌, Bool, true, false, ◌&&◌, List, [], ◌∷◌, length, refl, ap, ◌∙◌, arith}
use Rattle.std.specs.Str.{bytes_eq}
use Rattle.mi_idt.specs.Cells.{ColumnValue}
use Rattle.mi_rows.specs.Columns.{Column}
use Rattle.mi_rows.specs.Rows.{begins_with, is_of_class}

no_and : (a b : Bool) → (a && b && false) ≡ false
no_and true true = refl
no_and true false = refl
no_and false b = refl

-- too few columns
pub begins_short : (known : List Column) (columns : List ColumnValue) → length columns < length known → begins_with known columns ≡ false
begins_short [] columns h = absurd (omega arith)
begins_short (k ∷ known) [] h = refl
begins_short (k ∷ known) (c ∷ columns) h = ap (λ b. bytes_eq c.name k.name && is_of_class k.kind c.letter && b) (begins_short known columns (omega arith)) ∙ no_and (bytes_eq c.name k.name) (is_of_class k.kind c.letter)
