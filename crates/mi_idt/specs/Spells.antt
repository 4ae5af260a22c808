-- Which bytes spell which table, by cases on the values. (Importing and exporting tables; Column Definition Format.)
use Rattle.std.specs.Prelude.{◌≡◌, ◌≢◌, ◌⊎◌, ℕ, ℤ, pos, neg_ℤ, ◌+◌, ◌≤◌, true, false, List, [], ◌∷◌, length, map, Option, Some, None}
use Rattle.std.specs.List.{All, AllZip, AllPairs, list_all, slice_get}
use Rattle.std.specs.Str.{IsUtf8}
use Rattle.std.specs.Str.Lines.{lines}
use Rattle.mi_idt.specs.Cells.{Cell, Nothing, Text, Number, ColumnValue, TableValue, names_of, key_of}
use Rattle.mi_idt.specs.Fields.{fields_of, unescaped, is_ascii, is_digit, number_on}
use Rattle.mi_idt.specs.Columns.{is_text, is_int, is_stream, is_nullable, limit_of}

-- ---- numbers

abbrev pub AreDigits : List ℕ → Type 0
AreDigits ds = list_all is_digit ds ≡ true

abbrev pub IsNumeral : List ℕ → ℕ → Type 0
IsNumeral ds n = (ds ≢ []) × AreDigits ds × (n ≡ number_on 0 ds)

-- digits, or a minus sign and digits, within a limit either way
abbrev pub SpellsInteger : ℕ → List ℕ → ℤ → Type 0
SpellsInteger limit field z =
    ((n : ℕ) × IsNumeral field n × (n ≤ limit) × (z ≡ pos n))
    ⊎ ((ds : List ℕ) × (n : ℕ) × (field ≡ 45 ∷ ds) × IsNumeral ds n × (n ≤ limit) × (z ≡ neg_ℤ (pos n)))

-- ---- columns

-- a text has a width up to 255, an integer 2 or 4, a stream 0
abbrev pub IsWidth : ℕ → List ℕ → ℕ → Type 0
IsWidth letter digits width =
    ((is_text letter ≡ true) × IsNumeral digits width × (width ≤ 255))
    ⊎ ((is_int letter ≡ true) × (digits ≡ (48 + width) ∷ []) × ((width ≡ 2) ⊎ (width ≡ 4)))
    ⊎ ((is_stream letter ≡ true) × (digits ≡ 48 ∷ []) × (width ≡ 0))

abbrev pub SpellsDefinition : List ℕ → ColumnValue → Type 0
SpellsDefinition field c = (digits : List ℕ) × (field ≡ c.letter ∷ digits) × IsWidth c.letter digits c.width

-- ---- line 3

abbrev pub IsKnownPage : ℕ → Type 0
IsKnownPage n = (n ≡ 0) ⊎ (n ≡ 1252) ⊎ (n ≡ 65001)

-- a code page is digits alone, so a table whose name is digits alone has one
abbrev pub SpellsHead : Option ℕ → List (List ℕ) → List ℕ → List (List ℕ) → Type 0
SpellsHead None fields name keys = (fields ≡ name ∷ keys) × ((n : ℕ) → ¬ IsNumeral name n)
SpellsHead (Some n) fields name keys = (digits : List ℕ) × (fields ≡ digits ∷ name ∷ keys) × IsNumeral digits n × IsKnownPage n

-- the key columns by their names: at least one, each known, none twice
abbrev pub SpellsKeys : List (List ℕ) → List (List ℕ) → List ℕ → Type 0
SpellsKeys names key_names keys = (key_names ≢ []) × AllZip (λ key i. slice_get names i ≡ Some key) key_names keys × AllPairs (λ i j. i ≢ j) keys

-- ---- rows

abbrev pub SpellsField : ColumnValue → List ℕ → Cell → Type 0
SpellsField c field Nothing = (field ≡ []) × (is_nullable c.letter ≡ true)
SpellsField c field (Text t) = (field ≢ []) × (is_int c.letter ≡ false) × (t ≡ map unescaped field)
SpellsField c field (Number z) = (is_int c.letter ≡ true) × SpellsInteger (limit_of c.width) field z

abbrev pub SpellsFields : List ColumnValue → List (List ℕ) → List Cell → Type 0
SpellsFields [] [] [] = Unit {0}
SpellsFields (c ∷ cs) (f ∷ fs) (x ∷ xs) = SpellsField c f x × SpellsFields cs fs xs
SpellsFields cs fs xs = ⊥

-- code page 1252 allows ASCII alone
abbrev pub IsLine : Option ℕ → List ℕ → Type 0
IsLine page line = IsUtf8 line × (page ≡ Some 1252 → is_ascii line ≡ true)

abbrev pub SpellsRow : Option ℕ → List ColumnValue → List ℕ → List Cell → Type 0
SpellsRow page columns line row = IsLine page line × SpellsFields columns (fields_of line) row

-- ---- the table

-- the lines of a table, and what they spell
pub record SpellsLines (names definitions head : List ℕ) (rows : List (List ℕ)) (t : TableValue) : Type 0 where
  pub few_rows : length rows ≤ 65535
  pub few_columns : length (fields_of names) ≤ 32
  pub texts : IsUtf8 names × IsUtf8 definitions × IsUtf8 head
  pub named : fields_of names ≡ names_of t.columns
  pub no_empty_name : All (λ n. n ≢ []) (fields_of names)
  pub names_apart : AllPairs (λ m n. m ≢ n) (fields_of names)
  pub defined : AllZip SpellsDefinition (fields_of definitions) t.columns
  pub key_names : List (List ℕ)
  pub headed : SpellsHead t.page (fields_of head) t.name key_names
  pub keyed : SpellsKeys (fields_of names) key_names t.keys
  pub rows_are : AllZip (SpellsRow t.page t.columns) rows t.rows
  pub keys_apart : AllPairs (λ j k. j ≢ k) (map (key_of t.keys) t.rows)

pub record Spells (bytes : List ℕ) (t : TableValue) : Type 0 where
  pub small : length bytes ≤ 16777216
  pub names : List ℕ
  pub definitions : List ℕ
  pub head : List ℕ
  pub rows : List (List ℕ)
  pub lines_are : lines bytes ≡ names ∷ definitions ∷ head ∷ rows
  pub spelled : SpellsLines names definitions head rows t
