-- What a table is, apart from the bytes that spell it. (Database Tables; Column Definition Format.)
use Rattle.std.specs.Prelude.{ℕ, ℤ, pos, negsuc, ◌==◌, Bool, true, false, List, map, Option}
use Rattle.std.specs.List.{slice_index_or}
use Rattle.std.specs.Str.{bytes_eq}
use Rattle.std.specs.Cmp.Lexicographic.{pointwise}

-- the value of a field: null, a text or an integer; a stream's field is a text
pub data Cell : Type 0 where
  Nothing : Cell
  Text : (bytes : List ℕ) → Cell
  Number : (value : ℤ) → Cell

-- a column: its name, and the letter and the width of its definition
pub record ColumnValue : Type 0 where
  pub name : List ℕ
  pub letter : ℕ
  pub width : ℕ

-- a table; the keys are the places of the key columns, from 0
pub record TableValue : Type 0 where
  pub name : List ℕ
  pub page : Option ℕ
  pub columns : List ColumnValue
  pub keys : List ℕ
  pub rows : List (List Cell)

abbrev pub names_of : List ColumnValue → List (List ℕ)
names_of columns = map (λ c. c.name) columns

-- the key of a row: its cells in the key columns
abbrev pub key_of : List ℕ → List Cell → List Cell
key_of keys row = map (λ i. slice_index_or row i Nothing) keys

-- ---- equal cells, as a test

abbrev pub same_number : ℤ → ℤ → Bool
same_number (pos m) (pos n) = m == n
same_number (negsuc m) (negsuc n) = m == n
same_number m n = false

abbrev pub same_cell : Cell → Cell → Bool
same_cell Nothing Nothing = true
same_cell (Text a) (Text b) = bytes_eq a b
same_cell (Number m) (Number n) = same_number m n
same_cell a b = false

abbrev pub same_key : List Cell → List Cell → Bool
same_key = pointwise same_cell
