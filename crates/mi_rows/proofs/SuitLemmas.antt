-- Rows of a table without a fault have values of their columns.
use Rattle.std.proofs.Common.{◌≡◌, ◌&&◌, ◌⊎◌, ℕ, ℤ, ◌+◌, Bool, true, false, cond, List, [], ◌∷◌, ◌++◌, map, Option, Some, None, refl, sym, ap, ◌∙◌, inl, inr}
use Rattle.std.specs.Prelude.{option_map}
use Rattle.std.specs.List.{AllZip}
use Rattle.std.proofs.lemmas.Bool.{cases_Bool}
use Rattle.mi_text.specs.Maps.{Name}
use Rattle.mi_base.specs.declared.answers.Fault.{Fault}
use Rattle.mi_base.specs.declared.answers.Fault.TheVariants.{Idt, Columns, Unsupported}
use Rattle.mi_idt.specs.Cells as raw
use Rattle.mi_idt.specs.Fault.{idt_fault}
use Rattle.mi_idt.specs.Fields.{fields_of}
use Rattle.mi_idt.specs.Spells.{Spells, SpellsRow}
use Rattle.mi_idt.proofs.TableLaws.{bytes_spell}
use Rattle.mi_rows.specs.Cells.{Integer}
use Rattle.mi_rows.specs.declared.column.Kind.{Kind}
use Rattle.mi_rows.specs.declared.column.Kind.TheVariants as kind
use Rattle.mi_rows.specs.Reads.{FitsKind}
use Rattle.mi_rows.specs.Rows.{◌or_else◌, begins_with, has_columns, is_refused, keys_of, rows_in, unsupported, cell_fault, cells_fault, fault_at, row_fault, rows_fault, value_fault, spelled_value}
use Rattle.mi_rows.specs.Values.{suits, suits_kind, all_suit, Row, value_of, text_value, row_of, kind_fault, unless, meets}
use Rattle.mi_rows.specs.Columns.{Column, Table}
use Rattle.mi_rows.proofs.FitLemmas.{AllFit, front, back, fits_all}
use Rattle.mi_rows.proofs.Words.{AreRowsOf, each_suits}

pub or_none : {X : Type 0} (a b : Option X) → a or_else b ≡ None → (a ≡ None) × (b ≡ None)
or_none None b e = (refl, e)
or_none (Some x) b e = cc

pub map_none : {X Y : Type 0} (f : X → Y) (o : Option X) → option_map f o ≡ None → o ≡ None
map_none f None e = refl
map_none f (Some x) e = cc

pub allowed : (b : Bool) → unless b ≡ None → b ≡ true
allowed true e = refl
allowed false e = cc

pub both : (a b : Bool) → a ≡ true → b ≡ true → (a && b) ≡ true
both a b on more = ap (λ t. t && b) on ∙ more

-- ---- a table without a fault

-- each row's cells fit
abbrev pub EachFits : List Column → List (List raw.Cell) → Type 0
EachFits cs [] = Unit {0}
EachFits cs (cells ∷ rows) = AllFit cs cells × EachFits cs rows

-- the table that the rows are read from
pub record IsFaultless (t : Table) (v : raw.TableValue) (rows : List Row) : Type 0 where
  pub columns : has_columns t.columns v ≡ true
  pub fit : EachFits t.columns v.rows
  pub apart : (bytes : List ℕ) × Spells bytes v
  pub right : rows_fault t (keys_of (rows_in t v)) [] 1 v.rows ≡ None
  pub held : rows_in t v ≡ rows

pub each_fits : (known : List Column) (page : Option ℕ) (columns : List raw.ColumnValue) (lines : List (List ℕ)) (rows : List (List raw.Cell)) → begins_with known columns ≡ true → AllZip (SpellsRow page columns) lines rows → EachFits known rows
each_fits known page columns [] [] is zip = tt
each_fits known page columns [] (cells ∷ rows) is zip = absurd zip
each_fits known page columns (line ∷ lines) [] is zip = tt
each_fits known page columns (line ∷ lines) (cells ∷ rows) is zip =
    (fits_all known columns (fields_of line) cells is zip.0.1, each_fits known page columns lines rows is zip.1)

no_rows : (table : Name) (rows : List (List raw.Cell)) → unsupported table rows ≡ None → rows ≡ []
no_rows table [] e = refl
no_rows table (row ∷ rows) e = let some : Some (Unsupported table) ≡ None = e in absurd cc

of_columns : (t : Table) (v : raw.TableValue) → (if_known : Option Fault) → cond (has_columns t.columns v) if_known (Some (Columns t.name)) ≡ None → (has_columns t.columns v ≡ true) × (if_known ≡ None)
of_columns t v known e = elim (cases_Bool (has_columns t.columns v)) [
  | inl on ↦ (on, sym (ap (λ b. cond b known (Some (Columns t.name))) on) ∙ e)
  | inr off ↦ let some : Some (Columns t.name) ≡ None = sym (ap (λ b. cond b known (Some (Columns t.name))) off) ∙ e in absurd cc
]

module _ (t : Table) (v : raw.TableValue) (bytes : List ℕ) (spells : Spells bytes v) where
  abbrev known_fault : Option Fault
  known_fault = rows_fault t (keys_of (rows_in t v)) [] 1 v.rows

  abbrev with_columns : Option Fault
  with_columns = cond (has_columns t.columns v) known_fault (Some (Columns t.name))

  faultless_value : value_fault t v ≡ None → (rows_in t v ≡ []) ⊎ IsFaultless t v (rows_in t v)
  faultless_value e = elim (cases_Bool (is_refused t)) [
    | inl on ↦ inl (ap (map (row_of t.columns)) (no_rows t.name v.rows (sym (ap (λ b. cond b (unsupported t.name v.rows) with_columns) on) ∙ e)))
    | inr off ↦
        let p = of_columns t v known_fault (sym (ap (λ b. cond b (unsupported t.name v.rows) with_columns) off) ∙ e) in
        inr (record {
          columns = p.0;
          fit = each_fits t.columns v.page v.columns spells.rows v.rows (back _ (begins_with t.columns v.columns) p.0) spells.spelled.rows_are;
          apart = (bytes, spells);
          right = p.1;
          held = refl;
        })
  ]

-- there are no rows, or they are read from a table without a fault
pub faultless : (t : Table) (rows : List Row) → AreRowsOf t rows → (rows ≡ []) ⊎ ((v : raw.TableValue) × IsFaultless t v rows)
faultless t rows (None, (none, is)) = inl (sym is)
faultless t rows (Some bytes, (none, is)) =
    let parts = or_none (option_map (Idt t.name) (idt_fault bytes)) (value_fault t (spelled_value bytes)) none in
    let spells = bytes_spell bytes (map_none (Idt t.name) (idt_fault bytes) parts.0) in
    elim (faultless_value t (spelled_value bytes) bytes spells parts.1) [
      | inl empty ↦ inl (sym is ∙ empty)
      | inr known ↦ inr (spelled_value bytes, record { columns = known.columns; fit = known.fit; apart = known.apart; right = known.right; held = is })
    ]

-- ---- its rows suit their columns

text_suits : (k : Kind) (text : List ℕ) → FitsKind k (raw.Text text) → suits_kind k (text_value k text) ≡ true
text_suits kind.Integer text fits = absurd fits
text_suits kind.Code text fits = refl
text_suits kind.Condition text fits = refl
text_suits kind.Text text fits = refl
text_suits kind.Name text fits = refl
text_suits kind.Pattern text fits = refl
text_suits kind.Formatted text fits = refl

number_suits : (k : Kind) (z : ℤ) → FitsKind k (raw.Number z) → suits_kind k (Integer z) ≡ true
number_suits kind.Integer z h = refl
number_suits kind.Code z h = absurd h
number_suits kind.Condition z h = absurd h
number_suits kind.Text z h = absurd h
number_suits kind.Name z h = absurd h
number_suits kind.Pattern z h = absurd h
number_suits kind.Formatted z h = absurd h

suits_one : (c : Column) (x : raw.Cell) → kind_fault c.kind c.nullable x ≡ None → FitsKind c.kind x → suits c (value_of c.kind x) ≡ true
suits_one c raw.Nothing none fits = allowed c.nullable none
suits_one c (raw.Text text) none fits = text_suits c.kind text fits
suits_one c (raw.Number z) none fits = number_suits c.kind z fits

pub suits_row : (table : Name) (number : ℕ) (keys : List Name) (before : List Row) (column : ℕ) (front : Row) (cols : List Column) (cells : List raw.Cell) → cells_fault table number keys before column front cols cells ≡ None → AllFit cols cells → all_suit cols (row_of cols cells) ≡ true
suits_row table number keys before column front [] cells none fit = refl
suits_row table number keys before column front (c ∷ cs) [] none fit = absurd fit
suits_row table number keys before column front (c ∷ cs) (x ∷ xs) none fit =
    let parts = or_none (option_map (fault_at table number column) (cell_fault c keys before front x)) (cells_fault table number keys before (column + 1) (front ++ value_of c.kind x ∷ []) cs xs) none in
    let own = or_none (kind_fault c.kind c.nullable x) (unless (meets c.rule keys before front (value_of c.kind x))) (map_none (fault_at table number column) (cell_fault c keys before front x) parts.0) in
    both (suits c (value_of c.kind x)) (all_suit cs (row_of cs xs)) (suits_one c x own.0 fit.0) (suits_row table number keys before (column + 1) (front ++ value_of c.kind x ∷ []) cs xs parts.1 fit.1)

suits_rows : (t : Table) (keys : List Name) (before : List Row) (number : ℕ) (rows : List (List raw.Cell)) → rows_fault t keys before number rows ≡ None → EachFits t.columns rows → each_suits t.columns (map (row_of t.columns) rows) ≡ true
suits_rows t keys before number [] none fit = refl
suits_rows t keys before number (cells ∷ rows) none fit =
    let parts = or_none (row_fault t number keys before cells) (rows_fault t keys (before ++ row_of t.columns cells ∷ []) (number + 1) rows) none in
    both (all_suit t.columns (row_of t.columns cells)) (each_suits t.columns (map (row_of t.columns) rows)) (suits_row t.name number keys before 1 [] t.columns cells parts.0 fit.0)
    (suits_rows t keys (before ++ row_of t.columns cells ∷ []) (number + 1) rows parts.1 fit.1)

pub rows_suit : (t : Table) (rows : List Row) → AreRowsOf t rows → each_suits t.columns rows ≡ true
rows_suit t rows are = elim (faultless t rows are) [
  | inl none ↦ ap (each_suits t.columns) none
  | inr known ↦ ap (each_suits t.columns) (sym known.1.held) ∙ suits_rows t (keys_of (rows_in t known.0)) [] 1 known.0.rows known.1.right known.1.fit
]
