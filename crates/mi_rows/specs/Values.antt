-- The values of a row, and which of them are values of their columns.
use Rattle.std.specs.Prelude.{◌≡◌, if◌then◌else◌, ℕ, ℤ, pos, ◌==◌, ◌&&◌, ◌||◌, not, Bool, true, false, List, [], ◌∷◌, bit_and, int_le, Option, Some, None, is_some, is_none, unwrap_or, Result, Ok, Err}
use Rattle.std.specs.Int.{cast_unsigned, w32}
use Rattle.std.specs.Ordering.{int_eq}
use Rattle.std.specs.Option.{option_map_or}
use Rattle.std.specs.List.{slice_index_or, list_any}
use Rattle.std.specs.Str.{bytes_eq}
use Rattle.mi_text.specs.FileNames.{is_file_name, is_file_pattern, is_default_dir}
use Rattle.mi_text.specs.Maps.{Name, same_name}
use Rattle.mi_text.specs.Guid.{guid_of}
use Rattle.mi_text.specs.PropertyNames.{is_property_name}
use Rattle.mi_text.specs.Version.{version_of}
use Rattle.mi_text.specs.declared.guid.Guid.{Guid}
use Rattle.mi_idt.specs.Cells as raw
use Rattle.mi_cond.specs.Tree.{Tree, Alone}
use Rattle.mi_cond.specs.declared.operand.Value.TheVariants as value
use Rattle.mi_rows.specs.Cells.{Cell}
use Rattle.mi_rows.specs.Cells.{Text, Integer, Code, Condition}
use Rattle.mi_rows.specs.declared.field.Bad.{Bad}
use Rattle.mi_rows.specs.declared.field.Bad.TheVariants as bad
use Rattle.mi_rows.specs.declared.column.Kind.{Kind}
use Rattle.mi_rows.specs.declared.column.Kind.TheVariants as kind
use Rattle.mi_rows.specs.declared.column.Rule.{Rule}
use Rattle.mi_rows.specs.declared.column.Rule.TheVariants as rule
use Rattle.mi_rows.specs.Texts.{condition_of, is_decimal, are_languages, is_value_of}
use Rattle.mi_rows.specs.Columns.{Column}

-- the values of a row in the known columns; None is null
abbrev pub Row : Type 0
Row = List (Option Cell)

-- ---- parts of a row; columns count from 0 here

abbrev pub cell_at : Row → ℕ → Option Cell
cell_at row column = slice_index_or row column None

abbrev pub text_in : Option Cell → Option (List ℕ)
text_in (Some (Text text)) = Some text
text_in (Some (Condition text tree)) = Some text
text_in other = None

abbrev pub number_in : Option Cell → ℤ
number_in (Some (Integer z)) = z
number_in other = pos 0

-- the text of a column, and no bytes where there is none
abbrev pub text_at : Row → ℕ → List ℕ
text_at row column = unwrap_or (text_in (cell_at row column)) []

abbrev pub some_text_at : Row → ℕ → Option (List ℕ)
some_text_at row column = text_in (cell_at row column)

abbrev pub number_at : Row → ℕ → ℤ
number_at row column = number_in (cell_at row column)

-- the 32 bits of a number in two's complement
abbrev pub bits_of : ℤ → ℕ
bits_of z = cast_unsigned w32 z

-- none of these bits is set
abbrev pub lacks : ℕ → ℤ → Bool
lacks bits z = bit_and (bits_of z) bits == 0

-- ---- the value that a field means

abbrev pub tree_of : Result Tree ℕ → Tree
tree_of (Ok tree) = tree
tree_of (Err place) = Alone (value.Integer (pos 0))

abbrev pub code_of : Option ℕ → Guid
code_of number = record { number = unwrap_or number 0 }

abbrev pub text_value : Kind → List ℕ → Cell
text_value kind.Code text = Code (code_of (guid_of text))
text_value kind.Condition text = Condition text (tree_of (condition_of text))
text_value other text = Text text

abbrev pub value_of : Kind → raw.Cell → Option Cell
value_of kind raw.Nothing = None
value_of kind (raw.Text text) = Some (text_value kind text)
value_of kind (raw.Number z) = Some (Integer z)

abbrev pub row_of : List Column → List raw.Cell → Row
row_of (c ∷ cs) (x ∷ xs) = value_of c.kind x ∷ row_of cs xs
row_of cs xs = []

-- ---- kinds

abbrev pub unless : Bool → Option Bad
unless true = None
unless false = Some bad.Value

abbrev pub place_of_fault : Result Tree ℕ → Option Bad
place_of_fault (Ok tree) = None
place_of_fault (Err place) = Some (bad.Condition place)

abbrev pub text_fault : Kind → List ℕ → Option Bad
text_fault kind.Name text = unless (is_file_name text)
text_fault kind.Pattern text = unless (is_file_pattern text)
text_fault kind.Code text = unless (is_some (guid_of text))
text_fault kind.Condition text = place_of_fault (condition_of text)
text_fault other text = None

-- each field that a column of this kind can hold is of it
abbrev pub takes_any : Kind → Bool
takes_any kind.Text = true
takes_any kind.Formatted = true
takes_any kind.Integer = true
takes_any other = false

-- why a field isn't of its kind
abbrev pub kind_fault : Kind → Bool → raw.Cell → Option Bad
kind_fault kind nullable raw.Nothing = unless nullable
kind_fault kind nullable (raw.Text text) = text_fault kind text
kind_fault kind nullable (raw.Number z) = None

-- ---- rules

-- the parent of a root row of Directory is null or its own key
abbrev pub is_root_below : List ℕ → Option (List ℕ) → Bool
is_root_below own None = true
is_root_below own (Some parent) = bytes_eq parent own

abbrev pub is_root : Row → Bool
is_root row = is_root_below (text_at row 0) (text_in (cell_at row 1))

-- the id of a row of Component
abbrev pub code_in : Option Cell → Option ℕ
code_in (Some (Code code)) = Some code.number
code_in other = None

abbrev pub code_at : Row → Option ℕ
code_at row = code_in (cell_at row 1)

abbrev pub same_code : ℕ → Option ℕ → Bool
same_code number None = false
same_code number (Some code) = number == code

abbrev pub has_code : ℕ → Row → Bool
has_code number row = same_code number (code_at row)

abbrev pub is_new_code : List Row → Option Cell → Bool
is_new_code before (Some (Code code)) = not (list_any (has_code code.number) before)
is_new_code before other = true

-- a text that passes, or none
abbrev pub if_text : (List ℕ → Bool) → Option Cell → Bool
if_text test cell = option_map_or test (text_in cell) true

-- a key of a table
abbrev pub is_key_in : List Name → Name → Bool
is_key_in keys q = list_any (same_name q) keys

-- What a rule asks of a value, where `keys` are the texts of the table's first column, `before` the rows before this one
-- and `front` the values before this one in its row.
abbrev pub meets : Rule → List Name → List Row → Row → Option Cell → Bool
meets rule.PropertyName keys before front cell = if_text is_property_name cell
meets rule.PropertyValue keys before front cell = if_text (is_value_of (text_at front 0)) cell
meets rule.OneRoot keys before front cell = not (is_root_below (text_at front 0) (text_in cell) && list_any is_root before)
meets rule.DefaultDir keys before front cell = is_root front || if_text is_default_dir cell
meets rule.NewCode keys before front cell = is_new_code before cell
meets (rule.Without bits) keys before front cell = lacks bits (number_in cell)
meets (rule.Within low high) keys before front cell = is_none cell || (int_le low (number_in cell) && int_le (number_in cell) high)
meets rule.VersionOrKey keys before front cell = if_text (λ text. is_some (version_of text) || is_key_in keys text) cell
meets rule.Languages keys before front cell = if_text are_languages cell
meets rule.WordCount keys before front cell = not (int_eq (number_in (cell_at front 0)) (pos 15)) || is_decimal (unwrap_or (text_in cell) [])
meets rule.Free keys before front cell = true

-- ---- rows whose values are of the types of their columns (Column Data Types)

-- a value of the type that the kind has
abbrev pub suits_kind : Kind → Cell → Bool
suits_kind kind.Integer (Integer z) = true
suits_kind kind.Code (Code code) = true
suits_kind kind.Condition (Condition text tree) = true
suits_kind kind.Text (Text text) = true
suits_kind kind.Name (Text text) = true
suits_kind kind.Pattern (Text text) = true
suits_kind kind.Formatted (Text text) = true
suits_kind kind other = false

-- null only where the column allows it
abbrev pub suits : Column → Option Cell → Bool
suits c None = c.nullable
suits c (Some value) = suits_kind c.kind value

-- a value for each column, and no more
abbrev pub all_suit : List Column → Row → Bool
all_suit [] [] = true
all_suit (c ∷ cs) (x ∷ xs) = suits c x && all_suit cs xs
all_suit cs xs = false

-- ---- keys

-- a value in a key: a condition stands as its text
abbrev pub key_cell : Option Cell → Option Cell
key_cell (Some (Condition text tree)) = Some (Text text)
key_cell other = other

-- the values of a row in the key columns
abbrev pub key_cells : List Column → Row → Row
key_cells (c ∷ cs) (x ∷ xs) = if c.key then key_cell x ∷ key_cells cs xs else key_cells cs xs
key_cells cs xs = []

-- keys that compare equal have the same values in the key columns
abbrev pub KeysTell : {K : Type 0} → (K → K → Bool) → (Row → K) → List Column → Type 0
KeysTell eq key cs = (a b : Row) → all_suit cs a ≡ true → all_suit cs b ≡ true → eq (key a) (key b) ≡ true → key_cells cs a ≡ key_cells cs b

-- codes of other letters may be equal, so that the value doesn't tell the text
abbrev pub tells : Kind → Bool
tells kind.Code = false
tells other = true

-- the values of the key columns tell the fields
abbrev pub keys_tell : List Column → Bool
keys_tell [] = true
keys_tell (c ∷ cs) = (not c.key || tells c.kind) && keys_tell cs
