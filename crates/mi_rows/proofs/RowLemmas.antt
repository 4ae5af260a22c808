-- Reading a row value by value, and a table row by row.
use Rattle.std.proofs.Common.{◌≡◌, ℕ, ◌+◌, ◌<◌, ◌≤◌, List, [], ◌∷◌, ◌++◌, length, map, take, drop, sym, ap, subst, ◌∙◌, append_assoc, Option, Some, None, add-one}
use Rattle.std.specs.Prelude.{option_map}
use Rattle.std.specs.List.{slice_index_or}
use Rattle.std.proofs.Math.Seq.{drop-cons, drop-length, take-suc}
use Rattle.std.proofs.lemmas.List.{append-nil, map-append, length-map, length-take-le}
use Rattle.mi_text.specs.Maps.{Name}
use Rattle.mi_rows.proofs.ListLemmas.{map_next}
use Rattle.mi_base.specs.declared.answers.Fault.{Fault}
use Rattle.mi_idt.specs.Cells as raw
use Rattle.mi_rows.specs.declared.field.Bad.{Bad}
use Rattle.mi_rows.specs.Cells.{Cell}
use Rattle.mi_rows.specs.declared.column.Column.{Column as Listed}
use Rattle.mi_rows.specs.Columns.{column_as, Column, Table}
use Rattle.mi_rows.specs.declared.error.LoadError.{LoadError}
use Rattle.mi_rows.specs.declared.error.LoadError.TheVariants.{NoMemory, Source, Table as TableFault}
use Rattle.mi_rows.specs.Reads.{Fails, Refuses, RefusesAs, IsBad}
use Rattle.mi_rows.specs.declared.field.FieldError.{FieldError}
use Rattle.mi_rows.specs.declared.field.FieldError.TheVariants.{NoMemory as NoCellMemory, Bad as BadCell}
use Rattle.mi_rows.specs.Values.{Row, value_of, row_of, text_at}
use Rattle.mi_rows.specs.Rows.{◌or_else◌, cell_fault, cells_fault, fault_at, row_fault, rows_fault, keys_of}

-- the front of a row has been read, and what follows of the rest is what follows of the whole
pub record IsReading (table : Name) (number : ℕ) (keys : List Name) (before : List Row) (cols : List Column) (cells : List raw.Cell) (i : ℕ) (row : Row) : Type 0 where
  pub value : row ++ row_of (drop i cols) (drop i cells) ≡ row_of cols cells
  pub fault : cells_fault table number keys before (i + 1) row (drop i cols) (drop i cells) ≡ cells_fault table number keys before 1 [] cols cells

module _ (listed : List Listed) (cells : List raw.Cell) (i : ℕ) (row : Row) (d : Listed) (lt : i < length listed) (there : i < length cells) where
  abbrev cols : List Column
  cols = map column_as listed

  abbrev c : Column
  c = column_as (slice_index_or listed i d)

  abbrev x : raw.Cell
  x = slice_index_or cells i raw.Nothing

  next_column : drop i cols ≡ c ∷ drop (i + 1) cols
  next_column = map_next column_as listed i d lt

  next_cell : drop i cells ≡ x ∷ drop (i + 1) cells
  next_cell = drop-cons cells i raw.Nothing there ∙ ap (λ n. x ∷ drop n cells) (sym (add-one i))

  module _ (table : Name) (number : ℕ) (keys : List Name) (before : List Row) (so : IsReading table number keys before cols cells i row) where
    abbrev later : Option Fault
    later = cells_fault table number keys before (i + 1 + 1) (row ++ value_of c.kind x ∷ []) (drop (i + 1) cols) (drop (i + 1) cells)

    here : cells_fault table number keys before (i + 1) row (drop i cols) (drop i cells) ≡ option_map (fault_at table number (i + 1)) (cell_fault c keys before row x) or_else later
    here = ap (λ (cs : List Column). cells_fault table number keys before (i + 1) row cs (drop i cells)) next_column
        ∙ ap (λ (xs : List raw.Cell). cells_fault table number keys before (i + 1) row (c ∷ drop (i + 1) cols) xs) next_cell

    reads_on : cell_fault c keys before row x ≡ None → IsReading table number keys before cols cells (i + 1) (row ++ value_of c.kind x ∷ [])
    reads_on none = record {
      value = append_assoc row (value_of c.kind x ∷ []) (row_of (drop (i + 1) cols) (drop (i + 1) cells))
          ∙ ap (λ (cs : List Column). row ++ row_of cs (x ∷ drop (i + 1) cells)) (sym next_column)
          ∙ ap (λ (xs : List raw.Cell). row ++ row_of (drop i cols) xs) (sym next_cell) ∙ so.value;
      fault = sym (ap (λ (f : Option Bad). option_map (fault_at table number (i + 1)) f or_else later) none) ∙ sym here ∙ so.fault;
    }

    -- one value more
    pub reads_more : (front next : Row) (cell : Option Cell) → front ≡ row → next ≡ row ++ cell ∷ [] → (cell_fault c keys before front x ≡ None) × (cell ≡ value_of c.kind x) → IsReading table number keys before cols cells (i + 1) next
    reads_more front next cell same is read =
        subst (IsReading table number keys before cols cells (i + 1)) (sym (is ∙ ap (λ v. row ++ v ∷ []) read.1))
        (reads_on (ap (λ (f : Row). cell_fault c keys before f x) (sym same) ∙ read.0))

    -- a value that isn't one
    pub fault_here : (front : Row) (bad : Bad) → front ≡ row → cell_fault c keys before front x ≡ Some bad → cells_fault table number keys before 1 [] cols cells ≡ Some (fault_at table number (i + 1) bad)
    fault_here front bad same some =
        sym so.fault ∙ here ∙ ap (λ (f : Option Bad). option_map (fault_at table number (i + 1)) f or_else later) (ap (λ (f : Row). cell_fault c keys before f x) (sym same) ∙ some)

-- the whole row
pub reads_all : (table : Name) (number : ℕ) (keys : List Name) (before : List Row) (cols : List Column) (cells : List raw.Cell) (i : ℕ) (row : Row) → i ≡ length cols → IsReading table number keys before cols cells i row
    → (cells_fault table number keys before 1 [] cols cells ≡ None) × (row ≡ row_of cols cells)
reads_all table number keys before cols cells i row all so =
    let none : drop i cols ≡ [] = ap (λ n. drop n cols) all ∙ drop-length cols in (
      sym so.fault ∙ ap (λ (cs : List Column). cells_fault table number keys before (i + 1) row cs (drop i cells)) none,
      sym (append-nil row) ∙ ap (λ (cs : List Column). row ++ row_of cs (drop i cells)) (sym none) ∙ so.value,
    )

-- ---- row by row

abbrev pub SameRows : Table → List Name → List (List raw.Cell) → ℕ → Type 0
SameRows t keys rows i = rows_fault t keys (map (row_of t.columns) (take i rows)) (i + 1) (drop i rows) ≡ rows_fault t keys [] 1 rows

-- an error of a value is the fault of its row
pub refused_at : (failed : Type 0) (e : LoadError) (f : Fault) (o : Option Fault) → Refuses e f → o ≡ Some f → Fails failed o e
refused_at failed NoMemory f o is at = tt
refused_at failed Source f o is at = absurd is
refused_at failed (TableFault g) f o is at = at ∙ ap Some (sym is)

pub refused_as : (fault : Option Bad) (at : Bad → Fault) (o : Option Fault) → ((b : Bad) → fault ≡ Some b → o ≡ Some (at b)) → (error : FieldError) (e : LoadError) → RefusesAs error at e → IsBad fault error → Fails ⊥ o e
refused_as fault at o h NoCellMemory e refuses bad = subst (Fails ⊥ o) (sym refuses) tt
refused_as fault at o h (BadCell b) e refuses bad = refused_at ⊥ e (at b) o refuses (h b bad)

module _ (t : Table) (keys : List Name) (rows : List (List raw.Cell)) (i : ℕ) (lt : i < length rows) (so : SameRows t keys rows i) where
  abbrev before : List Row
  before = map (row_of t.columns) (take i rows)

  abbrev this : List raw.Cell
  this = slice_index_or rows i []

  rows_here : rows_fault t keys before (i + 1) (drop i rows) ≡ row_fault t (i + 1) keys before this or_else rows_fault t keys (before ++ row_of t.columns this ∷ []) (i + 1 + 1) (drop (i + 1) rows)
  rows_here = ap (rows_fault t keys before (i + 1)) (drop-cons rows i [] lt ∙ ap (λ n. this ∷ drop n rows) (sym (add-one i)))

  pub before_more : before ++ row_of t.columns this ∷ [] ≡ map (row_of t.columns) (take (i + 1) rows)
  before_more = sym (ap (λ n. map (row_of t.columns) (take n rows)) (add-one i) ∙ ap (map (row_of t.columns)) (take-suc rows i [] lt) ∙ map-append (row_of t.columns) (take i rows) (this ∷ []))

  pub rows_more : row_fault t (i + 1) keys before this ≡ None → SameRows t keys rows (i + 1)
  rows_more none =
      ap (λ (b : List Row). rows_fault t keys b (i + 1 + 1) (drop (i + 1) rows)) (sym before_more)
      ∙ sym (ap (λ (f : Option Fault). f or_else rows_fault t keys (before ++ row_of t.columns this ∷ []) (i + 1 + 1) (drop (i + 1) rows)) none)
      ∙ sym rows_here ∙ so

  pub rows_fault_here : (f : Fault) → row_fault t (i + 1) keys before this ≡ Some f → rows_fault t keys [] 1 rows ≡ Some f
  rows_fault_here f some = sym so ∙ rows_here ∙ ap (λ (o : Option Fault). o or_else rows_fault t keys (before ++ row_of t.columns this ∷ []) (i + 1 + 1) (drop (i + 1) rows)) some

-- all rows
pub rows_all : (t : Table) (keys : List Name) (rows : List (List raw.Cell)) (i : ℕ) → i ≡ length rows → SameRows t keys rows i → rows_fault t keys [] 1 rows ≡ None
rows_all t keys rows i all so =
    sym so ∙ ap (rows_fault t keys (map (row_of t.columns) (take i rows)) (i + 1)) (ap (λ n. drop n rows) all ∙ drop-length rows)

-- the keys of one row more
pub keys_next : (cols : List Column) (rows : List (List raw.Cell)) (i : ℕ) → i < length rows
    → keys_of (map (row_of cols) (take i rows)) ++ text_at (row_of cols (slice_index_or rows i [])) 0 ∷ [] ≡ keys_of (map (row_of cols) (take (i + 1) rows))
keys_next cols rows i lt =
    sym (ap (λ n. keys_of (map (row_of cols) (take n rows))) (add-one i) ∙ ap (λ (rs : List (List raw.Cell)). keys_of (map (row_of cols) rs)) (take-suc rows i [] lt)
    ∙ ap keys_of (map-append (row_of cols) (take i rows) (slice_index_or rows i [] ∷ [])) ∙ map-append (λ (row : Row). text_at row 0) (map (row_of cols) (take i rows)) (row_of cols (slice_index_or rows i []) ∷ []))

pub keys_long : (cols : List Column) (rows : List (List raw.Cell)) (i : ℕ) → i ≤ length rows → length (keys_of (map (row_of cols) (take i rows))) ≡ i
keys_long cols rows i le = length-map (map (row_of cols) (take i rows)) (λ (row : Row). text_at row 0) ∙ length-map (take i rows) (row_of cols) ∙ length-take-le i rows le

-- an error is passed on
pub passed_on : (failed more : Type 0) → (failed → more) → (o p : Option Fault) → ((f : Fault) → o ≡ Some f → p ≡ Some f) → (e : LoadError) → Fails failed o e → Fails more p e
passed_on failed more up o p h NoMemory fails = tt
passed_on failed more up o p h Source fails = up fails
passed_on failed more up o p h (TableFault f) fails = h f fails

-- an error of the first of two checks, and of the second
pub fails_first : (failed : Type 0) (a b : Option Fault) (e : LoadError) → Fails failed a e → Fails failed (a or_else b) e
fails_first failed a b e fails = passed_on failed failed (λ x. x) a (a or_else b) (λ f some. ap (λ (o : Option Fault). o or_else b) some) e fails

pub fails_then : (failed : Type 0) (a b : Option Fault) (e : LoadError) → a ≡ None → Fails failed b e → Fails failed (a or_else b) e
fails_then failed a b e none fails = passed_on failed failed (λ x. x) b (a or_else b) (λ f some. ap (λ (o : Option Fault). o or_else b) none ∙ some) e fails
