-- A lawful package has a product code.
use Rattle.std.proofs.Common.{◌≡◌, ℕ, zero, suc, ◌<◌, Bool, true, false, cond, List, [], ◌∷◌, length, get_or, codes, find, Some, refl, sym, ap, ◌∙◌, arith}
use Rattle.std.specs.Prelude.{option_map, unwrap_or}
use Rattle.mi_text.specs.Maps.{Name, same_name}
use Rattle.mi_text.proofs.MapLemmas.{from_same, same_itself}
use Rattle.mi_schema.specs.declared.typed_rows.PropertyRow.{PropertyRow}
use Rattle.mi_schema.specs.Laws.{EachRow}
use Rattle.mi_schema.specs.RowsOf.{behind, rows_in}
use Rattle.mi_rows.specs.Texts.{is_value_of}
use Rattle.mi_schema.proofs.LawfulLaws.{of_tables}
use Rattle.mi_schema.proofs.PackageLaws.{keys_stand, properties_stand, values_stand}
use Rattle.mi_laws.specs.PlainLaws.{LawfulPackagesHaveCodes}

abbrev Entries : Type 0
Entries = List (Name × PropertyRow)

-- the value of the first row of that property
abbrev value_in : Name → List PropertyRow → List ℕ
value_in name rows = unwrap_or (option_map (λ (r : PropertyRow). r.value) (find (λ (r : PropertyRow). same_name name r.property) rows)) []

abbrev HasValue : Name → List PropertyRow → Type 0
HasValue name rows = is_value_of name (value_in name rows) ≡ true

-- the value by whether the first row is that of the property
abbrev value_by : Bool → Name → PropertyRow → List PropertyRow → List ℕ
value_by b name r rows = unwrap_or (option_map (λ (r : PropertyRow). r.value) (cond b (Some r) (find (λ (r : PropertyRow). same_name name r.property) rows))) []

at_first : (name : Name) (r : PropertyRow) (rows : List PropertyRow) → is_value_of r.property r.value ≡ true → same_name name r.property ≡ true → HasValue name (r ∷ rows)
at_first name r rows right same = ap (λ (b : Bool). is_value_of name (value_by b name r rows)) same ∙ ap (λ (q : Name). is_value_of q r.value) (from_same name r.property same) ∙ right

further : (name : Name) (r : PropertyRow) (rows : List PropertyRow) → HasValue name rows → same_name name r.property ≡ false → HasValue name (r ∷ rows)
further name r rows rest other = ap (λ (b : Bool). is_value_of name (value_by b name r rows)) other ∙ rest

-- where each row has a value of its property and one row has this property, the first one has such a value
first_value : (name : Name) (es : Entries) → EachRow es (λ r. is_value_of r.property r.value ≡ true)
    → (i : ℕ) (d : Name × PropertyRow) → i < length es → (get_or es i d).1.property ≡ name → HasValue name (behind es)
first_value name [] each i d lt is = absurd (omega arith)
first_value name (e ∷ es) each zero d lt is = at_first name e.1 (behind es) (each zero e (omega arith)) (ap (same_name name) is ∙ same_itself name)
first_value name (e ∷ es) each (suc i) d lt is = elim (same_name name e.1.property) as (λ b. same_name name e.1.property ≡ b → HasValue name (behind (e ∷ es))) [
  | true ↦ λ same. at_first name e.1 (behind es) (each zero e (omega arith)) same
  | false ↦ λ other. further name e.1 (behind es) (first_value name es (λ n f less. each (suc n) f (omega arith)) i d (omega arith) is) other
] refl

pub lawful_packages_have_codes : LawfulPackagesHaveCodes
unfolding rows_in
lawful_packages_have_codes p lawful =
    let tables = of_tables p lawful in
    let keys = keys_stand p tables.content tables.right_tables tables.is.rows in
    let values = values_stand p tables.content tables.right_tables tables.is.rows in
    let there = (properties_stand p tables).product_code in
    let any : Name × PropertyRow = (codes "ProductCode", there.0) in
    first_value (codes "ProductCode") p.property.entries values.property_value there.1.0 any there.1.1
    (sym (keys.property there.1.0 any there.1.1) ∙ ap (λ (e : Name × PropertyRow). e.0) there.1.2)
