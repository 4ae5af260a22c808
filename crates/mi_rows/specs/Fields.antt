-- The fields of a row while it is read, and the values that they are.
use Rattle.std.specs.Prelude.{◌≡◌, ℕ, ℤ, pos, Bool, false, List, [], ◌∷◌, map, Option, None, option_map, unwrap_or}
use Rattle.mi_cond.specs.Tree.{Tree}
use Rattle.mi_idt.specs.Fields.{integer_within}
use Rattle.mi_idt.specs.Means.{text_shown}
use Rattle.mi_rows.specs.declared.column.Kind.{Kind}
use Rattle.mi_rows.specs.declared.column.Kind.TheVariants as kind
use Rattle.mi_rows.specs.declared.field.Field.{Field}
use Rattle.mi_rows.specs.Cells.{Cell, Integer}
use Rattle.mi_rows.specs.Rows.{◌or_else◌}
use Rattle.mi_rows.specs.Typed.{some_condition_in}
use Rattle.mi_rows.specs.Values.{Row, text_value}

abbrev pub number_of : List ℕ → ℤ
number_of text = unwrap_or (integer_within 2147483647 text) (pos 0)

abbrev pub shown_value : Kind → List ℕ → Cell
shown_value kind.Integer text = Integer (number_of text)
shown_value other text = text_value other text

abbrev pub field_value : Field → Option Cell
field_value f = option_map (shown_value f.kind) (text_shown f.text.now)

abbrev pub values_of : List Field → Row
values_of fields = map field_value fields

-- the last condition of a row
abbrev pub last_condition : Row → Option Tree
last_condition [] = None
last_condition (x ∷ xs) = last_condition xs or_else some_condition_in x

-- this holds, unless memory has run out by then
abbrev pub Takes : Bool → Bool → Type 0 → Type 0
Takes before after P = after ≡ false → (before ≡ false) × P
