-- A table that has the columns of its layout: its faults with the keys that are asked, and its rows.
use Rattle.std.proofs.Common.{◌≡◌, ◌≢◌, ℕ, ◌+◌, ◌<◌, ◌||◌, Bool, true, false, cond, List, [], ◌∷◌, ◌++◌, length, map, refl, sym, ap, subst, ◌∙◌, inl, inr, Option, Some, None}
use Rattle.std.specs.Prelude.{option_map}
use Rattle.std.specs.List.{list_any, AllPairs}
use Rattle.std.specs.Str.{bytes_eq}
use Rattle.std.proofs.lemmas.Bool.{cases_Bool}
use Rattle.std.proofs.lemmas.Slice.Eq.{bytes_eq-Decides}
use Rattle.mi_text.specs.Maps.{Name}
use Rattle.mi_base.specs.declared.answers.Fault.{Fault}
use Rattle.mi_base.specs.declared.answers.Fault.TheVariants.{Columns}
use Rattle.mi_idt.specs.Cells as raw
use Rattle.mi_idt.specs.declared.table.Table.{Table as Spelled}
use Rattle.mi_idt.specs.Means.{IsSpelled, meaning}
use Rattle.mi_rows.specs.Cells.{Cell}
use Rattle.mi_rows.specs.declared.column.Column.{Column as Listed}
use Rattle.mi_rows.specs.declared.column.Rule.{Rule}
use Rattle.mi_rows.specs.declared.column.Rule.TheVariants as rule
use Rattle.mi_rows.specs.Reads.{asks_key, keys_asked, raw_row}
use Rattle.mi_rows.specs.Columns.{column_as, Column, Table}
use Rattle.mi_rows.specs.Rows.{◌or_else◌, begins_with, has_columns, is_refused, key_places, keys_of, rows_in, cell_fault, cells_fault, fault_at, row_fault, rows_fault, unsupported, value_fault}
use Rattle.mi_rows.specs.Values.{all_suit, Row, value_of, row_of, kind_fault, unless, meets, keys_tell}
use Rattle.mi_rows.proofs.FitLemmas.{front, back, row_fits}
use Rattle.mi_rows.proofs.SuitLemmas.{each_fits, suits_row}
use Rattle.mi_rows.proofs.DifferLemmas.{differ}
use Rattle.mi_rows.proofs.Words.{KeysDiffer}

-- ---- where no column asks for keys, the faults are the same whatever they are

meets_any : (r : Rule) (keys : List Name) (before : List Row) (front : Row) (cell : Option Cell) → asks_key r ≡ false → meets r keys before front cell ≡ meets r [] before front cell
meets_any rule.VersionOrKey keys before front cell off = cc
meets_any rule.PropertyName keys before front cell off = refl
meets_any rule.PropertyValue keys before front cell off = refl
meets_any rule.OneRoot keys before front cell off = refl
meets_any rule.DefaultDir keys before front cell off = refl
meets_any rule.NewCode keys before front cell off = refl
meets_any (rule.Without bits) keys before front cell off = refl
meets_any (rule.Within low high) keys before front cell off = refl
meets_any rule.Languages keys before front cell off = refl
meets_any rule.WordCount keys before front cell off = refl
meets_any rule.Free keys before front cell off = refl

neither : (a b : Bool) → (a || b) ≡ false → (a ≡ false) × (b ≡ false)
neither true b e = cc
neither false b e = (refl, e)

abbrev asks : Column → Bool
asks c = asks_key c.rule

cells_any : (table : Name) (number : ℕ) (keys : List Name) (before : List Row) (column : ℕ) (front : Row) (cols : List Column) (cells : List raw.Cell) → list_any asks cols ≡ false → cells_fault table number keys before column front cols cells ≡ cells_fault table number [] before column front cols cells
cells_any table number keys before column front [] cells off = refl
cells_any table number keys before column front (c ∷ cs) [] off = refl
cells_any table number keys before column front (c ∷ cs) (x ∷ xs) off =
    let none = neither (asks c) (list_any asks cs) off in
    ap (λ (b : Bool). option_map (fault_at table number column) (kind_fault c.kind c.nullable x or_else unless b) or_else cells_fault table number keys before (column + 1) (front ++ value_of c.kind x ∷ []) cs xs) (meets_any c.rule keys before front (value_of c.kind x) none.0)
    ∙ ap (λ (o : Option Fault). option_map (fault_at table number column) (cell_fault c [] before front x) or_else o) (cells_any table number keys before (column + 1) (front ++ value_of c.kind x ∷ []) cs xs none.1)

rows_any : (t : Table) (keys : List Name) (before : List Row) (number : ℕ) (rows : List (List raw.Cell)) → list_any asks t.columns ≡ false → rows_fault t keys before number rows ≡ rows_fault t [] before number rows
rows_any t keys before number [] off = refl
rows_any t keys before number (cells ∷ rows) off =
    ap (λ (o : Option Fault). o or_else rows_fault t keys (before ++ row_of t.columns cells ∷ []) (number + 1) rows) (cells_any t.name number keys before 1 [] t.columns cells off)
    ∙ ap (λ (o : Option Fault). row_fault t number [] before cells or_else o) (rows_any t keys (before ++ row_of t.columns cells ∷ []) (number + 1) rows off)

-- the faults with the keys that are asked
pub asked : (t : Table) (v : raw.TableValue) → rows_fault t (keys_asked t v) [] 1 v.rows ≡ rows_fault t (keys_of (rows_in t v)) [] 1 v.rows
asked t v = elim (cases_Bool (list_any asks t.columns)) [
  | inl on ↦ ap (λ b. rows_fault t (cond b (keys_of (rows_in t v)) []) [] 1 v.rows) on
  | inr off ↦ ap (λ b. rows_fault t (cond b (keys_of (rows_in t v)) []) [] 1 v.rows) off ∙ sym (rows_any t (keys_of (rows_in t v)) [] 1 v.rows off)
]

any_as : (listed : List Listed) → list_any asks (map column_as listed) ≡ list_any (λ (c : Listed). asks_key c.rule) listed
any_as [] = refl
any_as (c ∷ cs) = ap (λ b. asks_key c.rule || b) (any_as cs)

pub asked_on : (listed : List Listed) (name : Name) (v : raw.TableValue) → list_any (λ (c : Listed). asks_key c.rule) listed ≡ true → let t : Table = record { name = name; columns = map column_as listed } in keys_of (rows_in t v) ≡ keys_asked t v
asked_on listed name v on = ap (λ b. cond b (keys_of (map (row_of (map column_as listed)) v.rows)) []) (sym (any_as listed ∙ on))

pub asked_off : (listed : List Listed) (name : Name) (v : raw.TableValue) → list_any (λ (c : Listed). asks_key c.rule) listed ≡ false → let t : Table = record { name = name; columns = map column_as listed } in [] ≡ keys_asked t v
asked_off listed name v off = ap (λ b. cond b (keys_of (map (row_of (map column_as listed)) v.rows)) []) (sym (any_as listed ∙ off))

-- ---- the first fault of a known table

module _ (t : Table) (v : raw.TableValue) (right : is_refused t ≡ false) where
  abbrev with_columns : Option Fault
  with_columns = cond (has_columns t.columns v) (rows_fault t (keys_of (rows_in t v)) [] 1 v.rows) (Some (Columns t.name))

  of_known : value_fault t v ≡ with_columns
  of_known = ap (λ b. cond b (unsupported t.name v.rows) with_columns) right

  pub value_known : (b : Bool) → b ≡ has_columns t.columns v → b ≡ true → value_fault t v ≡ rows_fault t (keys_of (rows_in t v)) [] 1 v.rows
  value_known b is on = of_known ∙ ap (λ h. cond h (rows_fault t (keys_of (rows_in t v)) [] 1 v.rows) (Some (Columns t.name))) (sym is ∙ on)

  pub value_other : (b : Bool) → b ≡ has_columns t.columns v → b ≡ false → value_fault t v ≡ Some (Columns t.name)
  value_other b is off = of_known ∙ ap (λ h. cond h (rows_fault t (keys_of (rows_in t v)) [] 1 v.rows) (Some (Columns t.name))) (sym is ∙ off)

-- ---- its rows

pub has_begun : (cs : List Column) (v : raw.TableValue) → has_columns cs v ≡ true → begins_with cs v.columns ≡ true
has_begun cs v is = back (bytes_eq v.keys (key_places 0 cs)) (begins_with cs v.columns) is

-- a row without a fault suits its columns
pub suits_here : (t : Table) (s : Spelled) → IsSpelled s → begins_with t.columns (meaning s).columns ≡ true → (i : ℕ) → i < length s.rows.items → (number : ℕ) (keys : List Name) (before : List Row) → row_fault t number keys before (raw_row s i) ≡ None → all_suit t.columns (row_of t.columns (raw_row s i)) ≡ true
suits_here t s spelled is i lt number keys before none = suits_row t.name number keys before 1 [] t.columns (raw_row s i) none (row_fits t.columns s spelled is i lt)

-- the keys of all differ
pub spelled_differ : (t : Table) (s : Spelled) → keys_tell t.columns ≡ true → IsSpelled s → has_columns t.columns (meaning s) ≡ true → KeysDiffer t.columns (rows_in t (meaning s))
spelled_differ t s tell spelled is =
    let v = meaning s in
    let spells = spelled.1.spells in
    let keys : v.keys ≡ key_places 0 t.columns = (bytes_eq-Decides v.keys (key_places 0 t.columns)).0 (front (bytes_eq v.keys (key_places 0 t.columns)) (begins_with t.columns v.columns) is) in
    differ t.columns tell v.rows (each_fits t.columns v.page v.columns spells.rows v.rows (has_begun t.columns v is) spells.spelled.rows_are)
    (subst (λ (places : List ℕ). AllPairs (λ j k. j ≢ k) (map (raw.key_of places) v.rows)) keys spells.spelled.keys_apart)
