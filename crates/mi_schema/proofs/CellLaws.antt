-- What each value of a table without a fault meets, by its place.
use Rattle.std.proofs.Common.{◌≡◌, ℕ, zero, suc, ◌+◌, ◌<◌, Bool, true, false, cond, List, [], ◌∷◌, ◌++◌, length, map, take, get_or, append_assoc, Option, Some, None, Result, Ok, Err, refl, sym, ap, subst, ◌∙◌, arith, inl, inr}
use Rattle.std.specs.Prelude.{option_map, find}
use Rattle.std.specs.Str.{bytes_eq}
use Rattle.std.proofs.lemmas.List.{append-nil}
use Rattle.mi_text.specs.FileNames.{is_file_name, is_file_pattern}
use Rattle.mi_text.specs.Maps.{Name}
use Rattle.mi_base.specs.declared.answers.Fault.{Fault}
use Rattle.mi_idt.specs.Cells as raw
use Rattle.mi_cond.specs.Tree.{Tree}
use Rattle.mi_rows.specs.Cells.{Cell}
use Rattle.mi_rows.specs.Cells as cell
use Rattle.mi_schema.specs.declared.known.Known.{Known}
use Rattle.mi_schema.specs.declared.known.Known.TheVariants as known
use Rattle.mi_rows.specs.declared.column.Kind.{Kind}
use Rattle.mi_rows.specs.declared.column.Kind.TheVariants as kind
use Rattle.mi_schema.specs.Checks.{Content, rows_at, first_fault, tables_fault, references_fault, required_fault, cycles_fault, compressed_fault, package_fault}
use Rattle.mi_schema.specs.Tables.{Listed, Loaded, table_of, listed, tables, layout_of}
use Rattle.mi_rows.specs.Columns.{Column, Table}
use Rattle.mi_schema.specs.TableRows.{Rows}
use Rattle.mi_rows.specs.Texts.{condition_of}
use Rattle.mi_rows.specs.Rows.{◌or_else◌, table_fault, keys_of, rows_in, cell_fault, cells_fault, fault_at, row_fault, rows_fault}
use Rattle.mi_rows.specs.Values.{suits, all_suit, Row, value_of, row_of, kind_fault, unless, place_of_fault, tree_of, meets}
use Rattle.mi_rows.proofs.FitLemmas.{AllFit, front, back}
use Rattle.mi_rows.proofs.SuitLemmas.{EachFits, or_none, map_none, allowed, faultless, rows_suit}
use Rattle.mi_rows.proofs.Words.{AreRowsOf, each_suits}

-- the value of a row and a column, from 0
abbrev pub value_at : List Row → ℕ → ℕ → Option Cell
value_at rows n i = get_or (get_or rows n []) i None

-- a name or a pattern is one, and a condition is what its text reads as
abbrev pub OfKind : Option Cell → Kind → Type 0
OfKind (Some (cell.Text text)) kind.Name = is_file_name text ≡ true
OfKind (Some (cell.Text text)) kind.Pattern = is_file_pattern text ≡ true
OfKind (Some (cell.Condition text tree)) kind.Condition = condition_of text ≡ Ok tree
OfKind value kind = Unit {0}

-- a value is of its kind and meets the rule
abbrev pub Stands : Column → List Name → List Row → Row → Option Cell → Type 0
Stands c keys before front value = (meets c.rule keys before front value ≡ true) × OfKind value c.kind

read_as : (r : Result Tree ℕ) → place_of_fault r ≡ None → r ≡ Ok (tree_of r)
read_as (Ok tree) e = refl
read_as (Err place) e = cc

of_kind : (k : Kind) (nullable : Bool) (x : raw.Cell) → kind_fault k nullable x ≡ None → OfKind (value_of k x) k
of_kind k nullable raw.Nothing e = tt
of_kind k nullable (raw.Number z) e = tt
of_kind kind.Name nullable (raw.Text text) e = allowed (is_file_name text) e
of_kind kind.Pattern nullable (raw.Text text) e = allowed (is_file_pattern text) e
of_kind kind.Condition nullable (raw.Text text) e = read_as (condition_of text) e
of_kind kind.Code nullable (raw.Text text) e = tt
of_kind kind.Text nullable (raw.Text text) e = tt
of_kind kind.Formatted nullable (raw.Text text) e = tt
of_kind kind.Integer nullable (raw.Text text) e = tt

module _ (table : Name) (number : ℕ) (keys : List Name) (before : List Row) where
  cells_stand : (column : ℕ) (front : Row) (cols : List Column) (cells : List raw.Cell) → cells_fault table number keys before column front cols cells ≡ None → AllFit cols cells → (i : ℕ) (d : Column) → i < length cols
      → Stands (get_or cols i d) keys before (front ++ take i (row_of cols cells)) (get_or (row_of cols cells) i None)
  cells_stand column front [] cells none fit i d lt = absurd (omega arith)
  cells_stand column front (c ∷ cs) [] none fit i d lt = absurd fit
  cells_stand column front (c ∷ cs) (x ∷ xs) none fit zero d lt =
      let parts = or_none (option_map (fault_at table number column) (cell_fault c keys before front x)) (cells_fault table number keys before (column + 1) (front ++ value_of c.kind x ∷ []) cs xs) none in
      let own = or_none (kind_fault c.kind c.nullable x) (unless (meets c.rule keys before front (value_of c.kind x))) (map_none (fault_at table number column) (cell_fault c keys before front x) parts.0) in
      subst (λ (f : Row). Stands c keys before f (value_of c.kind x)) (sym (append-nil front)) (allowed (meets c.rule keys before front (value_of c.kind x)) own.1, of_kind c.kind c.nullable x own.0)
  cells_stand column front (c ∷ cs) (x ∷ xs) none fit (suc i) d lt =
      let parts = or_none (option_map (fault_at table number column) (cell_fault c keys before front x)) (cells_fault table number keys before (column + 1) (front ++ value_of c.kind x ∷ []) cs xs) none in
      subst (λ (f : Row). Stands (get_or cs i d) keys before f (get_or (row_of cs xs) i None)) (append_assoc front (value_of c.kind x ∷ []) (take i (row_of cs xs)))
      (cells_stand (column + 1) (front ++ value_of c.kind x ∷ []) cs xs parts.1 fit.1 i d (omega arith))

rows_stand : (t : Table) (keys : List Name) (before : List Row) (number : ℕ) (rows : List (List raw.Cell)) → rows_fault t keys before number rows ≡ None → EachFits t.columns rows → (n i : ℕ) (d : Column) → n < length (map (row_of t.columns) rows) → i < length t.columns
    → Stands (get_or t.columns i d) keys (before ++ take n (map (row_of t.columns) rows)) (take i (get_or (map (row_of t.columns) rows) n [])) (value_at (map (row_of t.columns) rows) n i)
rows_stand t keys before number [] none fit n i d there lt = absurd (omega arith)
rows_stand t keys before number (cells ∷ rows) none fit zero i d there lt =
    let parts = or_none (row_fault t number keys before cells) (rows_fault t keys (before ++ row_of t.columns cells ∷ []) (number + 1) rows) none in
    subst (λ (b : List Row). Stands (get_or t.columns i d) keys b (take i (row_of t.columns cells)) (get_or (row_of t.columns cells) i None)) (sym (append-nil before))
    (cells_stand t.name number keys before 1 [] t.columns cells parts.0 fit.0 i d lt)
rows_stand t keys before number (cells ∷ rows) none fit (suc n) i d there lt =
    let parts = or_none (row_fault t number keys before cells) (rows_fault t keys (before ++ row_of t.columns cells ∷ []) (number + 1) rows) none in
    subst (λ (b : List Row). Stands (get_or t.columns i d) keys b (take i (get_or (map (row_of t.columns) rows) n [])) (value_at (map (row_of t.columns) rows) n i)) (append_assoc before (row_of t.columns cells ∷ []) (take n (map (row_of t.columns) rows)))
    (rows_stand t keys (before ++ row_of t.columns cells ∷ []) (number + 1) rows parts.1 fit.1 n i d (omega arith) lt)

-- each value stands behind the rows before it and the values before it in its row
pub stands_at : (t : Table) (rows : List Row) → AreRowsOf t rows → (n i : ℕ) (d : Column) → n < length rows → i < length t.columns → Stands (get_or t.columns i d) (keys_of rows) (take n rows) (take i (get_or rows n [])) (value_at rows n i)
stands_at t rows are n i d there lt = elim (faultless t rows are) [
  | inl none ↦ absurd (let long = ap length none in omega (arith, long, there))
  | inr known ↦
      subst (λ (rs : List Row). Stands (get_or t.columns i d) (keys_of rs) (take n rs) (take i (get_or rs n [])) (value_at rs n i)) known.1.held
      (rows_stand t (keys_of (rows_in t known.0)) [] 1 known.0.rows known.1.right known.1.fit n i d (let long = ap length known.1.held in omega (arith, long, there)) lt)
]

-- ---- a value suits its column

pub suit_at : (cs : List Column) (row : Row) → all_suit cs row ≡ true → (i : ℕ) (d : Column) → i < length cs → (suits (get_or cs i d) (get_or row i None) ≡ true) × (i < length row)
suit_at [] row on i d lt = absurd (omega arith)
suit_at (c ∷ cs) [] on i d lt = cc
suit_at (c ∷ cs) (x ∷ xs) on zero d lt = (front (suits c x) (all_suit cs xs) on, omega arith)
suit_at (c ∷ cs) (x ∷ xs) on (suc i) d lt = let rest = suit_at cs xs (back (suits c x) (all_suit cs xs) on) i d (omega arith) in (rest.0, omega (arith, rest.1))

pub each_suit_at : (cs : List Column) (rows : List Row) → each_suits cs rows ≡ true → (n : ℕ) → n < length rows → all_suit cs (get_or rows n []) ≡ true
each_suit_at cs [] on n lt = absurd (omega arith)
each_suit_at cs (row ∷ rows) on zero lt = front (all_suit cs row) (each_suits cs rows) on
each_suit_at cs (row ∷ rows) on (suc n) lt = each_suit_at cs rows (back (all_suit cs row) (each_suits cs rows) on) n (omega arith)

-- and there is one for each column
pub suits_at : (t : Table) (rows : List Row) → AreRowsOf t rows → (n i : ℕ) (d : Column) → n < length rows → i < length t.columns → (suits (get_or t.columns i d) (value_at rows n i) ≡ true) × (i < length (get_or rows n []))
suits_at t rows are n i d there lt = suit_at t.columns (get_or rows n []) (each_suit_at t.columns rows (rows_suit t rows are) n there) i d lt

-- ---- the tables of the list

-- what is found among parts without a fault has none
pub none_found : {X : Type 0} (f : X → Option Fault) (test : X → Bool) (xs : List X) (x : X) → find test xs ≡ Some x → first_fault f xs ≡ None → f x ≡ None
none_found f test [] x e none = cc
none_found f test (y ∷ ys) x e none =
    let parts = or_none (f y) (first_fault f ys) none in
    elim (test y) as (λ b. cond b (Some y) (find test ys) ≡ Some x → f x ≡ None) [
      | true ↦ λ s. let same : y ≡ x = cc in ap f (sym same) ∙ parts.0
      | false ↦ λ s. none_found f test ys x s parts.1
    ] e

pub record IsKnown (t : Table) : Type 0 where
  pub there : find (λ (u : Table). bytes_eq t.name u.name) tables ≡ Some t

pub is_known : (k : Known) → IsKnown (layout_of k)
unfolding listed
is_known = elim [ known.Component ↦ record { there = refl } | other ↦ record { there = refl } ]

pub is_listed : (k : Known) → find (λ (l : Listed). bytes_eq (layout_of k).name (table_of l).name) listed ≡ Some (Loaded k)
unfolding listed
is_listed = elim [ known.Component ↦ refl | other ↦ refl ]

-- no table has a fault
abbrev pub AreTables : Content → Type 0
AreTables content = tables_fault content tables ≡ None

pub of_table : (content : Content) → AreTables content → (t : Table) → IsKnown t → AreRowsOf t (rows_at content t)
of_table content are t there = (content t.name, (none_found (λ (u : Table). table_fault u (content u.name)) (λ (u : Table). bytes_eq t.name u.name) tables t there.there are, refl))

-- ---- the parts of what the rows of all tables meet together

pub record IsRight (rows : Rows) : Type 0 where
  pub required : required_fault rows ≡ None
  pub refer : references_fault rows ≡ None
  pub chains : cycles_fault rows ≡ None
  pub compressed : compressed_fault rows ≡ None

pub right_parts : (rows : Rows) → package_fault rows ≡ None → IsRight rows
unfolding package_fault
right_parts rows none =
    let first = or_none (required_fault rows) (references_fault rows or_else cycles_fault rows or_else compressed_fault rows) none in
    let second = or_none (references_fault rows) (cycles_fault rows or_else compressed_fault rows) first.1 in
    let third = or_none (cycles_fault rows) (compressed_fault rows) second.1 in
    record { required = first.0; refer = second.0; chains = third.0; compressed = third.1 }
