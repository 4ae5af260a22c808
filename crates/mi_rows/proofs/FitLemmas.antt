-- The fields of a table that has the columns of a layout fit their kinds.
use Rattle.std.proofs.Common.{◌≡◌, ℕ, zero, suc, ◌<◌, ◌≤◌, Bool, true, false, ◌&&◌, List, [], ◌∷◌, length, map, refl, ap, subst, ◌∙◌, arith, Bor}
use Rattle.std.specs.List.{slice_index_or, AllZip}
use Rattle.std.proofs.lemmas.Slice.Zip.{AllZip-long}
use Rattle.std.proofs.lemmas.Bool.Decides.{nat_tests}
use Rattle.std.proofs.lemmas.List.{length-map, get_or-map}
use Rattle.std.specs.Str.{bytes_eq}
use Rattle.mi_idt.specs.declared.table.Table.{Table}
use Rattle.mi_idt.specs.Cells.{Cell, Nothing, Text, Number, ColumnValue}
use Rattle.mi_idt.specs.Columns.{is_text, is_int}
use Rattle.mi_idt.specs.Fields.{fields_of}
use Rattle.mi_idt.specs.Means.{IsSpelled, Shows, ShowsRow, text_shown, meaning, column_value, raw_row as raw_fields}
use Rattle.mi_idt.specs.Rows.{cells_of}
use Rattle.mi_idt.specs.Spells.{SpellsField, SpellsFields}
use Rattle.mi_rows.specs.declared.column.Kind.{Kind}
use Rattle.mi_rows.specs.declared.column.Kind.TheVariants as kind
use Rattle.mi_rows.specs.declared.column.Column.{Column as Listed}
use Rattle.mi_rows.specs.Columns.{column_as, Column}
use Rattle.mi_rows.specs.Values.{row_of, text_at}
use Rattle.mi_rows.specs.Rows.{begins_with, is_of_class}
use Rattle.mi_rows.specs.Reads.{FitsKind, raw_row}

-- each cell fits the kind of its column
abbrev pub AllFit : List Column → List Cell → Type 0
AllFit [] row = Unit {0}
AllFit (k ∷ known) [] = ⊥
AllFit (k ∷ known) (x ∷ row) = FitsKind k.kind x × AllFit known row

pub front : (a b : Bool) → (a && b) ≡ true → a ≡ true
front true b e = refl
front false b e = cc

pub back : (a b : Bool) → (a && b) ≡ true → b ≡ true
back true b e = e
back false b e = cc

not_both : (letter : ℕ) → is_text letter ≡ true → is_int letter ≡ true → ⊥
not_both letter text int = grind (arith, nat_tests)

not_true : (b : Bool) → b ≡ true → b ≡ false → ⊥
not_true b t f = cc

fits_one : (k : Kind) (c : ColumnValue) (field : List ℕ) (x : Cell) → is_of_class k c.letter ≡ true → SpellsField c field x → FitsKind k x
fits_one k c field Nothing is spells = tt
fits_one kind.Integer c field (Text t) is spells = not_true (is_int c.letter) is spells.1
fits_one kind.Integer c field (Number z) is spells = tt
fits_one kind.Text c field (Text t) is spells = tt
fits_one kind.Text c field (Number z) is spells = not_both c.letter is spells.0
fits_one kind.Name c field (Text t) is spells = tt
fits_one kind.Name c field (Number z) is spells = not_both c.letter is spells.0
fits_one kind.Pattern c field (Text t) is spells = tt
fits_one kind.Pattern c field (Number z) is spells = not_both c.letter is spells.0
fits_one kind.Formatted c field (Text t) is spells = tt
fits_one kind.Formatted c field (Number z) is spells = not_both c.letter is spells.0
fits_one kind.Condition c field (Text t) is spells = tt
fits_one kind.Condition c field (Number z) is spells = not_both c.letter is spells.0
fits_one kind.Code c field (Text t) is spells = tt
fits_one kind.Code c field (Number z) is spells = not_both c.letter is spells.0

pub fits_all : (known : List Column) (columns : List ColumnValue) (fields : List (List ℕ)) (row : List Cell) → begins_with known columns ≡ true → SpellsFields columns fields row → AllFit known row
fits_all [] columns fields row is spells = tt
fits_all (k ∷ known) [] fields row is spells = cc
fits_all (k ∷ known) (c ∷ columns) [] row is spells = absurd spells
fits_all (k ∷ known) (c ∷ columns) (f ∷ fields) [] is spells = absurd spells
fits_all (k ∷ known) (c ∷ columns) (f ∷ fields) (x ∷ row) is spells =
    let named_class = front (bytes_eq c.name k.name && is_of_class k.kind c.letter) (begins_with known columns) is in
    (fits_one k.kind c f x (back (bytes_eq c.name k.name) (is_of_class k.kind c.letter) named_class) spells.0, fits_all known columns fields row (back (bytes_eq c.name k.name && is_of_class k.kind c.letter) (begins_with known columns) is) spells.1)

zip_at : {A B : Type 0} (R : A → B → Type 0) (xs : List A) (ys : List B) → AllZip R xs ys → (i : ℕ) (d : B) → i < length ys → (x : A) × R x (slice_index_or ys i d)
zip_at R [] [] zip i d lt = absurd (omega arith)
zip_at R [] (y ∷ ys) zip i d lt = absurd zip
zip_at R (x ∷ xs) [] zip i d lt = absurd zip
zip_at R (x ∷ xs) (y ∷ ys) zip zero d lt = (x, zip.0)
zip_at R (x ∷ xs) (y ∷ ys) zip (suc i) d lt = zip_at R xs ys zip.1 i d (omega arith)

pub rows_long : (t : Table) → length (meaning t).rows ≡ length t.rows.items
unfolding meaning
rows_long t = length-map (map raw_fields t.rows.items) (cells_of (map column_value t.columns.items)) ∙ length-map t.rows.items raw_fields

columns_long : (t : Table) → length (meaning t).columns ≡ length t.columns.items
unfolding meaning
columns_long t = length-map t.columns.items column_value

-- each row's cells fit
pub row_fits : (known : List Column) (t : Table) → IsSpelled t → begins_with known (meaning t).columns ≡ true → (i : ℕ) → i < length t.rows.items → AllFit known (raw_row t i)
row_fits known t spelled is i lt =
    let at = zip_at _ _ _ spelled.1.spells.spelled.rows_are i [] (let long = rows_long t in omega (arith, long)) in
    fits_all known (meaning t).columns (fields_of at.0) _ is at.1.1

as_many : (known : List Column) (columns : List ColumnValue) → begins_with known columns ≡ true → length known ≤ length columns
as_many [] columns is = omega arith
as_many (k ∷ known) [] is = let wrong : false ≡ true = is in absurd cc
as_many (k ∷ known) (c ∷ columns) is = let more = as_many known columns (back (bytes_eq c.name k.name && is_of_class k.kind c.letter) (begins_with known columns) is) in omega (arith, more)

-- there are as many columns
pub columns_there : (known : List Column) (t : Table) → begins_with known (meaning t).columns ≡ true → length known ≤ length t.columns.items
columns_there known t is = let many = as_many known (meaning t).columns is in let long = columns_long t in omega (arith, many, long)

-- there are at most 65,535 rows
pub few_rows : (t : Table) → IsSpelled t → length t.rows.items ≤ 65535
few_rows t spelled =
    let lines = spelled.1.spells.spelled.few_rows in
    let same = AllZip-long _ _ _ spelled.1.spells.spelled.rows_are in
    let long = rows_long t in
    omega (arith, lines, same, long)

-- a cell of a row that fits
pub fit_at : (listed : List Listed) (row : List Cell) → AllFit (map column_as listed) row → (j : ℕ) (d : Listed) → j < length listed → (FitsKind (slice_index_or listed j d).kind (slice_index_or row j Nothing)) × (j < length row)
fit_at [] row fit j d lt = absurd (omega arith)
fit_at (k ∷ known) [] fit j d lt = absurd fit
fit_at (k ∷ known) (x ∷ row) fit zero d lt = (fit.0, omega arith)
fit_at (k ∷ known) (x ∷ row) fit (suc j) d lt = let later = fit_at known row fit.1 j d (omega arith) in (later.0, omega (arith, later.1))

-- without columns
pub key_of_nothing : (listed : List Listed) (cells : List Cell) → length listed < 1 → [] ≡ text_at (row_of (map column_as listed) cells) 0
key_of_nothing [] cells lt = refl
key_of_nothing (k ∷ ks) cells lt = absurd (omega arith)

-- there are at most 32 columns
pub few_columns : (t : Table) → IsSpelled t → length t.columns.items ≤ 32
few_columns t spelled =
    let few = spelled.1.spells.spelled.few_columns in
    let same = ap length spelled.1.spells.spelled.named ∙ length-map (meaning t).columns (λ c. c.name) in
    let long = columns_long t in
    omega (arith, few, same, long)

-- what stands where there is no text
abbrev pub no_text : Bor (List ℕ)
no_text = record { ref_ptr = (0, 0); now = [] }

-- the text of a place shows its cell
pub text_shows : (t : Table) (number : ℕ) (texts : List (Bor (List ℕ))) → ShowsRow t number (map (λ b. b.now) texts) → (i : ℕ) → i < length t.columns.items → (d : Bor (List ℕ)) → Shows (text_shown (slice_index_or texts i d).now) (slice_index_or (raw_row t number) i Nothing)
text_shows t number texts shows i lt d =
    let long = length-map texts (λ (b : Bor (List ℕ)). b.now) in
    let there : i < length texts = omega (arith, long, shows.many, lt) in
    subst (λ (u : List ℕ). Shows (text_shown u) (slice_index_or (raw_row t number) i Nothing)) (get_or-map (λ (b : Bor (List ℕ)). b.now) texts i d [] there) (shows.cells i lt)
