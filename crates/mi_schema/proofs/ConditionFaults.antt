-- A refused condition stops being one, by the grammar, at the place of its fault.
use Rattle.std.proofs.Common.{◌≡◌, ◌⊎◌, ℕ, zero, suc, ◌+◌, ◌-◌, Bool, true, false, cond, List, [], ◌∷◌, ◌++◌, get_or, Option, Some, None, Result, Ok, Err, refl, sym, ap, ◌∙◌, arith, inl, inr}
use Rattle.std.specs.Prelude.{option_map}
use Rattle.std.specs.List.{slice_get}
use Rattle.mi_text.specs.Maps.{Name}
use Rattle.mi_text.specs.declared.answers.IdtFault.{IdtFault}
use Rattle.mi_base.specs.declared.answers.Fault.{Fault}
use Rattle.mi_base.specs.declared.answers.Fault.TheVariants.{Idt, Columns, Condition}
use Rattle.mi_cond.specs.Place.{IsPlace}
use Rattle.mi_cond.specs.Tree.{Tree}
use Rattle.mi_idt.specs.Cells as raw
use Rattle.mi_idt.specs.Fault.{idt_fault}
use Rattle.mi_rows.specs.declared.field.Bad.{Bad}
use Rattle.mi_rows.specs.declared.field.Bad.TheVariants as bad
use Rattle.mi_rows.specs.declared.column.Kind.{Kind}
use Rattle.mi_rows.specs.declared.column.Kind.TheVariants as kind
use Rattle.mi_rows.specs.Texts.{condition_of}
use Rattle.mi_schema.specs.Laws.{StopsAt}
use Rattle.mi_rows.specs.Rows.{◌or_else◌, has_columns, cell_fault, fault_at, cells_fault, row_fault, rows_fault, unsupported, is_refused, keys_of, rows_in, value_fault, spelled_value, table_fault}
use Rattle.mi_rows.specs.Columns.{Column, Table}
use Rattle.mi_rows.specs.Values.{Row, value_of, row_of, unless, place_of_fault, text_fault, kind_fault, meets}
use Rattle.mi_rows.proofs.ConditionLaws.{stops_exactly}

-- ---- a cell

-- a text of a condition that stops at this place
IsStop : Kind → raw.Cell → ℕ → Type 0
IsStop k x place = (k ≡ kind.Condition) × ((text : List ℕ) × (x ≡ raw.Text text) × IsPlace text place)

not_unless : (b : Bool) (place : ℕ) → unless b ≡ Some (bad.Condition place) → ⊥
not_unless true place e = absurd cc
not_unless false place e = absurd cc

by_unless : (o : Option Bad) (b : Bool) (place : ℕ) → (o or_else unless b) ≡ Some (bad.Condition place) → o ≡ Some (bad.Condition place)
by_unless None b place e = absurd (not_unless b place e)
by_unless (Some f) b place e = e

by_answer : (r : Result Tree ℕ) (place : ℕ) → place_of_fault r ≡ Some (bad.Condition place) → r ≡ Err place
by_answer (Ok tree) place e = absurd cc
by_answer (Err p) place e = cc

text_stops : (k : Kind) (text : List ℕ) (place : ℕ) → text_fault k text ≡ Some (bad.Condition place) → (k ≡ kind.Condition) × IsPlace text place
text_stops kind.Condition text place e = (refl, (stops_exactly text place).0 (by_answer (condition_of text) place e))
text_stops kind.Name text place e = absurd (not_unless _ place e)
text_stops kind.Pattern text place e = absurd (not_unless _ place e)
text_stops kind.Code text place e = absurd (not_unless _ place e)
text_stops other text place e = absurd cc

kind_stops : (k : Kind) (nullable : Bool) (x : raw.Cell) (place : ℕ) → kind_fault k nullable x ≡ Some (bad.Condition place) → IsStop k x place
unfolding IsStop
kind_stops k nullable raw.Nothing place e = absurd (not_unless nullable place e)
kind_stops k nullable (raw.Text text) place e = let s = text_stops k text place e in (s.0, (text, refl, s.1))
kind_stops k nullable (raw.Number z) place e = absurd cc

-- ---- the cells of a row

abbrev kind_at : List Column → ℕ → Option Kind
kind_at cs i = option_map (λ c. c.kind) (slice_get cs i)

record InRow (cs : List Column) (xs : List raw.Cell) (place : ℕ) : Type 0 where
  column : ℕ
  of_conditions : kind_at cs column ≡ Some kind.Condition
  text : List ℕ
  stands : get_or xs column raw.Nothing ≡ raw.Text text
  stops : IsPlace text place

same_place : (o : Option Bad) (name table : Name) (number column row place : ℕ) → option_map (fault_at name number column) o ≡ Some (Condition table row place) → (o ≡ Some (bad.Condition place)) × (number ≡ row)
same_place None name table number column row place e = absurd cc
same_place (Some bad.Value) name table number column row place e = absurd cc
same_place (Some (bad.Condition p)) name table number column row place e = (cc, cc)

first_or : (f g : Option Fault) (x : Fault) → (f or_else g) ≡ Some x → (f ≡ Some x) ⊎ (g ≡ Some x)
first_or None g x e = inr e
first_or (Some f) g x e = inl e

cells_stop : (name table : Name) (number row place : ℕ) (keys : List Name) (before : List Row) (column : ℕ) (front : Row) (cs : List Column) (xs : List raw.Cell)
    → cells_fault name number keys before column front cs xs ≡ Some (Condition table row place) → (number ≡ row) × InRow cs xs place
unfolding IsStop
cells_stop name table number row place keys before column front [] xs e = absurd cc
cells_stop name table number row place keys before column front (c ∷ cs) [] e = absurd cc
cells_stop name table number row place keys before column front (c ∷ cs) (x ∷ xs) e =
    elim (first_or (option_map (fault_at name number column) (cell_fault c keys before front x)) (cells_fault name number keys before (column + 1) (front ++ value_of c.kind x ∷ []) cs xs) (Condition table row place) e) [
      | inl here ↦
          let at = same_place (cell_fault c keys before front x) name table number column row place here in
          let stop = kind_stops c.kind c.nullable x place (by_unless (kind_fault c.kind c.nullable x) (meets c.rule keys before front (value_of c.kind x)) place at.0) in
          (at.1, record { column = zero; of_conditions = ap Some stop.0; text = stop.1.0; stands = stop.1.1; stops = stop.1.2 })
      | inr later ↦
          let at = cells_stop name table number row place keys before (column + 1) (front ++ value_of c.kind x ∷ []) cs xs later in
          (at.0, record { column = suc at.1.column; of_conditions = at.1.of_conditions; text = at.1.text; stands = at.1.stands; stops = at.1.stops })
    ]

-- ---- the rows

rows_stop : (t : Table) (table : Name) (row place : ℕ) (keys : List Name) (before : List Row) (number : ℕ) (rows : List (List raw.Cell))
    → rows_fault t keys before number rows ≡ Some (Condition table row place) → (i : ℕ) × (row ≡ number + i) × InRow t.columns (get_or rows i []) place
rows_stop t table row place keys before number [] e = absurd cc
rows_stop t table row place keys before number (cells ∷ rows) e =
    elim (first_or (row_fault t number keys before cells) (rows_fault t keys (before ++ row_of t.columns cells ∷ []) (number + 1) rows) (Condition table row place) e) [
      | inl here ↦ let at = cells_stop t.name table number row place keys before 1 [] t.columns cells here in (zero, omega (arith, at.0), at.1)
      | inr later ↦ let at = rows_stop t table row place keys (before ++ row_of t.columns cells ∷ []) (number + 1) rows later in (suc at.0, omega (arith, at.1), at.2)
    ]

-- ---- the table

not_idt : (t : Table) (o : Option IdtFault) (table : Name) (row place : ℕ) → option_map (Idt t.name) o ≡ Some (Condition table row place) → ⊥
not_idt t None table row place e = absurd cc
not_idt t (Some f) table row place e = absurd cc

not_unsupported : (name : Name) (rows : List (List raw.Cell)) (table : Name) (row place : ℕ) → unsupported name rows ≡ Some (Condition table row place) → ⊥
not_unsupported name [] table row place e = absurd cc
not_unsupported name (r ∷ rows) table row place e = absurd cc

by_columns : (b : Bool) (name table : Name) (row place : ℕ) (o : Option Fault) → cond b o (Some (Columns name)) ≡ Some (Condition table row place) → o ≡ Some (Condition table row place)
by_columns true name table row place o e = e
by_columns false name table row place o e = absurd cc

by_refused : (b : Bool) (name table : Name) (rows : List (List raw.Cell)) (row place : ℕ) (o : Option Fault) → cond b (unsupported name rows) o ≡ Some (Condition table row place) → o ≡ Some (Condition table row place)
by_refused true name table rows row place o e = absurd (not_unsupported name rows table row place e)
by_refused false name table rows row place o e = e

pub condition_stops : (t : Table) (bytes : List ℕ) (table : Name) (row place : ℕ) → table_fault t (Some bytes) ≡ Some (Condition table row place) → StopsAt t bytes row place
condition_stops t bytes table row place e =
    elim (first_or (option_map (Idt t.name) (idt_fault bytes)) (value_fault t (spelled_value bytes)) (Condition table row place) e) [
      | inl idt ↦ absurd (not_idt t (idt_fault bytes) table row place idt)
      | inr values ↦
          let v : raw.TableValue = spelled_value bytes in
          let rows = by_columns (has_columns t.columns v) t.name table row place (rows_fault t (keys_of (rows_in t v)) [] 1 v.rows) (by_refused (is_refused t) t.name table v.rows row place _ values) in
          let at = rows_stop t table row place (keys_of (rows_in t v)) [] 1 v.rows rows in
          let behind : at.0 ≡ row - 1 = omega (arith, at.1) in
          record {
            column = at.2.column;
            of_conditions = at.2.of_conditions;
            text = at.2.text;
            stands = ap (λ n. get_or (get_or v.rows n []) at.2.column raw.Nothing) (sym behind) ∙ at.2.stands;
            stops = at.2.stops;
          }
    ]
