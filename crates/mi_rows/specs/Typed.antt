-- The values of a row by their types, and its key. In a key a condition stands as its text.
use Rattle.std.specs.Prelude.{ℕ, ℤ, pos, List, map, Option, Some, None, unwrap_or}
use Rattle.mi_text.specs.declared.guid.Guid.{Guid}
use Rattle.mi_cond.specs.Tree.{Tree, Alone}
use Rattle.mi_cond.specs.declared.operand.Value.TheVariants as value
use Rattle.mi_rows.specs.Cells.{Cell}
use Rattle.mi_rows.specs.Cells.{Integer, Code, Condition}
use Rattle.mi_rows.specs.Values.{Row, cell_at, text_at, some_text_at, number_at}

-- ---- values by their types

abbrev pub some_number_in : Option Cell → Option ℤ
some_number_in (Some (Integer z)) = Some z
some_number_in other = None

abbrev pub some_number_at : Row → ℕ → Option ℤ
some_number_at row column = some_number_in (cell_at row column)

abbrev pub some_code_in : Option Cell → Option Guid
some_code_in (Some (Code code)) = Some code
some_code_in other = None

abbrev pub some_condition_in : Option Cell → Option Tree
some_condition_in (Some (Condition text tree)) = Some tree
some_condition_in other = None

-- the condition of a column that allows no null
abbrev pub condition_in : Option Cell → Tree
condition_in cell = unwrap_or (some_condition_in cell) (Alone (value.Integer (pos 0)))

-- a value that isn't null, and is such a one
abbrev pub IsSuch : Option Cell → (Cell → Type 0) → Type 0
IsSuch None P = ⊥
IsSuch (Some value) P = P value

-- ---- keys

abbrev pub text_key : Row → List ℕ
text_key row = text_at row 0

abbrev pub number_key : Row → ℤ
number_key row = number_at row 0

abbrev pub texts_key : Row → List ℕ × List ℕ
texts_key row = (text_at row 0, text_at row 1)

abbrev pub text_number_key : Row → List ℕ × ℤ
text_number_key row = (text_at row 0, number_at row 1)

-- of Upgrade
abbrev pub upgrade_key : Row → List ℕ × Option (List ℕ) × Option (List ℕ) × Option (List ℕ) × ℤ
upgrade_key row = (text_at row 0, some_text_at row 1, some_text_at row 2, some_text_at row 3, number_at row 4)

-- each row behind its key
abbrev pub keyed : {K R : Type 0} → (Row → K) → (Row → R) → List Row → List (K × R)
keyed key row rows = map (λ r. (key r, row r)) rows
