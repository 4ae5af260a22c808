-- What the rows of a package without a fault have: their own keys, their own ids, and a product code.
use Rattle.std.proofs.Common.{◌≡◌, ◌≢◌, ℕ, zero, suc, ◌<◌, ◌^◌, Bool, true, false, cond, ◌||◌, List, [], ◌∷◌, map, length, get_or, codes, Option, Some, None, refl, sym, ap, subst, ◌∙◌, arith}
use Rattle.std.specs.Prelude.{find, option_map, unwrap_or, IfSome, AllPairs}
use Rattle.std.specs.Option.{option_map_or}
use Rattle.std.specs.List.{AllByRecursion}
use Rattle.mi_text.specs.Maps.{Name, same_name}
use Rattle.mi_text.proofs.MapLemmas.{from_same}
use Rattle.mi_text.specs.Guid.{guid_of}
use Rattle.mi_text.specs.declared.guid.Guid.{Guid}
use Rattle.mi_base.specs.declared.answers.Fault.{Fault}
use Rattle.mi_base.specs.declared.answers.Fault.TheVariants.{MissingProperty}
use Rattle.mi_idt.specs.Cells as raw
use Rattle.mi_rows.specs.declared.column.Kind.TheVariants as kind
use Rattle.mi_rows.specs.Rows.{◌or_else◌, spelled_value, table_rows}
use Rattle.mi_rows.specs.Texts.{is_value_of}
use Rattle.mi_rows.specs.Typed.{text_key, keyed, some_code_in}
use Rattle.mi_rows.specs.Values.{Row, text_in, text_at, is_key_in, value_of, row_of, code_of}
use Rattle.mi_rows.proofs.KeyLaws.{text_cells, text_tells}
use Rattle.mi_rows.proofs.SuitLemmas.{or_none}
use Rattle.mi_schema.specs.declared.known.Known.TheVariants as known
use Rattle.mi_schema.specs.declared.typed_rows.ComponentRow.{ComponentRow}
use Rattle.mi_schema.specs.declared.typed_rows.FeatureRow.{FeatureRow}
use Rattle.mi_schema.specs.declared.typed_rows.InstallExecuteSequenceRow.{InstallExecuteSequenceRow}
use Rattle.mi_schema.specs.declared.typed_rows.PropertyRow.{PropertyRow}
use Rattle.mi_schema.specs.Checks.{Content, content_of, rows_at, first_fault, missing_property, missing_fault, tables_fault, package_fault, load_fault}
use Rattle.mi_schema.specs.Laws.{HasOtherCode}
use Rattle.mi_schema.specs.RowsOf.{rows_of_content, folder_rows}
use Rattle.mi_schema.specs.TableRows.{Rows}
use Rattle.mi_schema.specs.Tables.{tables, required_properties}
use Rattle.mi_schema.specs.TypedRows.{component_row, feature_row, install_execute_sequence_row, property_row}
use Rattle.mi_schema.proofs.ApartLaws.{own_keys}
use Rattle.mi_schema.proofs.CellLaws.{AreTables, is_known, value_at, of_table, right_parts}
use Rattle.mi_schema.proofs.KnownTables.{component, feature, install_execute_sequence, property}
use Rattle.mi_schema.proofs.ReferenceLaws.{column_at, suits_here, stands_here}
use Rattle.mi_schema.proofs.ValueLaws.{other_code, text_before, text_there, passes, if_passes}
use Rattle.mi_model.specs.World.{Given}
use Rattle.mi_laws.specs.PlainLaws.{HasProductCode}
use Rattle.mi_laws.specs.Clients.{IsCode}
use Rattle.mi_laws.specs.Walks.{IsLoaded}
use Rattle.mi_laws.proofs.KeyOrderLemmas.{AreEach, IsNew, AreApart}
use Rattle.mi_laws.proofs.PlainCodeLemmas.{code_small}

-- ---- rows by their places, one after the other

-- each row is apart from those after it
each_later : {R : Type 0} (key : R → Name) (row : Row → R) (k : Name) (rows : List Row) → ((r : Row) → text_key r ≡ key (row r)) → ((n : ℕ) → n < length rows → k ≡ text_key (get_or rows n []) → ⊥) → IsNew key k (map row rows)
each_later key row k [] is apart = tt
each_later key row k (r ∷ rows) is apart = (λ e. apart 0 (omega arith) (e ∙ sym (is r)), each_later key row k rows is (λ n lt. apart (suc n) (omega (arith, lt))))

apart_of : {R : Type 0} (key : R → Name) (row : Row → R) (rows : List Row) → ((r : Row) → text_key r ≡ key (row r)) → AllPairs (λ (a b : Name × R). a.0 ≢ b.0) (keyed text_key row rows) → AreApart key (map row rows)
apart_of key row [] is pairs = tt
apart_of {R} key row (r ∷ rows) is pairs = (
  each_later key row (key (row r)) rows is (λ n lt e. pairs 0 (suc n) any (omega arith) (long n lt) (is r ∙ e ∙ sym (ap (λ (p : Name × R). p.0) (at rows n lt)))),
  apart_of key row rows is (λ i j d before within. pairs (suc i) (suc j) d (omega (arith, before)) (omega (arith, within))),
)
  where
    any : Name × R
    any = (text_key r, row r)

    at : (rs : List Row) (n : ℕ) → n < length rs → get_or (keyed text_key row rs) n any ≡ (text_key (get_or rs n []), row (get_or rs n []))
    at [] n lt = absurd (omega arith)
    at (x ∷ rs) zero lt = refl
    at (x ∷ rs) (suc n) lt = at rs n (omega (arith, lt))

    same_long : (rs : List Row) → length (keyed text_key row rs) ≡ length rs
    same_long [] = refl
    same_long (x ∷ rs) = ap suc (same_long rs)

    long : (n : ℕ) → n < length rows → suc n < suc (length (keyed text_key row rows))
    long n lt = let same = same_long rows in omega (arith, same, lt)

-- ---- ids

-- no two rows have one id
abbrev pub AreOther : ComponentRow → ComponentRow → Type 0
AreOther a b = HasOtherCode a.component_id b.component_id

abbrev pub HaveOwnIds : List ComponentRow → Type 0
HaveOwnIds rows = AreEach AreOther rows

other_later : (a : ComponentRow) (rows : List Row) → ((n : ℕ) → n < length rows → AreOther a (component_row (get_or rows n []))) → AllByRecursion (AreOther a) (map component_row rows)
other_later a [] other = tt
other_later a (r ∷ rows) other = (other 0 (omega arith), other_later a rows (λ n lt. other (suc n) (omega (arith, lt))))

ids_of : (rows : List Row) → ((m n : ℕ) → m < n → n < length rows → AreOther (component_row (get_or rows m [])) (component_row (get_or rows n []))) → HaveOwnIds (map component_row rows)
ids_of [] other = tt
ids_of (r ∷ rows) other = (other_later (component_row r) rows (λ n lt. other 0 (suc n) (omega arith) (omega (arith, lt))), ids_of rows (λ m n before lt. other (suc m) (suc n) (omega (arith, before)) (omega (arith, lt))))

-- an id is a code
abbrev pub HasCode : ComponentRow → Type 0
HasCode r = IfSome r.component_id (λ (i : Guid). IsCode i.number)

code_of_text : (o : Option ℕ) → ((n : ℕ) → o ≡ Some n → n < 2 ^ 128) → IsCode (code_of o).number
code_of_text None small = omega arith
code_of_text (Some n) small = small n refl

code_of_cell : (x : raw.Cell) → IfSome (some_code_in (value_of kind.Code x)) (λ (i : Guid). IsCode i.number)
code_of_cell raw.Nothing = tt
code_of_cell (raw.Number z) = tt
code_of_cell (raw.Text text) = code_of_text (guid_of text) (code_small text)

code_of_cells : (cells : List raw.Cell) → HasCode (component_row (row_of component.columns cells))
code_of_cells [] = tt
code_of_cells (x ∷ []) = tt
code_of_cells (x ∷ y ∷ cells) = code_of_cell y

codes_of_rows : (rows : List (List raw.Cell)) → AllByRecursion HasCode (map component_row (map (row_of component.columns) rows))
codes_of_rows [] = tt
codes_of_rows (cells ∷ rows) = (code_of_cells cells, codes_of_rows rows)

codes_of_file : (file : Option (List ℕ)) → AllByRecursion HasCode (map component_row (table_rows component file))
codes_of_file None = tt
codes_of_file (Some bytes) = codes_of_rows (spelled_value bytes).rows

-- ---- the value of a property

abbrev Suits : PropertyRow → Type 0
Suits r = is_value_of r.property r.value ≡ true

abbrev value_in : Name → List PropertyRow → List ℕ
value_in name rows = unwrap_or (option_map (λ (r : PropertyRow). r.value) (find (λ (r : PropertyRow). same_name name r.property) rows)) []

values_suit : (rows : List Row) → ((n : ℕ) → n < length rows → Suits (property_row (get_or rows n []))) → AllByRecursion Suits (map property_row rows)
values_suit [] suits = tt
values_suit (r ∷ rows) suits = (suits 0 (omega arith), values_suit rows (λ n lt. suits (suc n) (omega (arith, lt))))

-- the value of a property that is there suits it
value_suits : (name : Name) (rows : List PropertyRow) → AllByRecursion Suits rows → is_key_in (map (λ (r : PropertyRow). r.property) rows) name ≡ true → is_value_of name (value_in name rows) ≡ true
value_suits name [] all there = cc
value_suits name (r ∷ rows) all there = by (same_name name r.property) refl there (value_suits name rows all.1)
  where
    by : (b : Bool) → same_name name r.property ≡ b → (b || is_key_in (map (λ (r : PropertyRow). r.property) rows) name) ≡ true
        → (is_key_in (map (λ (r : PropertyRow). r.property) rows) name ≡ true → is_value_of name (value_in name rows) ≡ true)
        → is_value_of name (unwrap_or (option_map (λ (r : PropertyRow). r.value) (cond b (Some r) (find (λ (r : PropertyRow). same_name name r.property) rows))) []) ≡ true
    by true same there later = subst (λ (n : Name). is_value_of n r.value ≡ true) (sym (from_same name r.property same)) all.0
    by false same there later = later there

-- a property that isn't missing is there
not_missing : (b : Bool) (name : Name) → cond b None (Some (MissingProperty name)) ≡ None → b ≡ true
not_missing true name e = refl
not_missing false name e = cc

code_required : (rows : List PropertyRow) → first_fault (missing_property rows) required_properties ≡ None → is_key_in (map (λ (r : PropertyRow). r.property) rows) (codes "ProductCode") ≡ true
code_required rows none =
    let f : Name → Option Fault = missing_property rows in
    let one = or_none (f (codes "Manufacturer")) _ none in
    let two = or_none (f (codes "ProductCode")) _ one.1 in
    not_missing _ (codes "ProductCode") two.0

-- ---- the rows of a package without a fault

pub record AreLawful (rows : Rows) : Type 0 where
  pub components : AreApart (λ (r : ComponentRow). r.component) rows.component
  pub features : AreApart (λ (r : FeatureRow). r.feature) rows.feature
  pub actions : AreApart (λ (r : InstallExecuteSequenceRow). r.action) rows.install_execute_sequence
  pub ids : HaveOwnIds rows.component
  pub codes_are : AllByRecursion HasCode rows.component
  pub product : HasProductCode rows

module _ (content : Content) (are : AreTables content) where
  value_passes : (n : ℕ) → n < length (rows_at content property) → Suits (property_row (get_or (rows_at content property) n []))
  value_passes n lt =
      let name : List ℕ = text_at (get_or (rows_at content property) n []) 0 in
      passes (λ value. is_value_of name value ≡ true) (text_in (value_at (rows_at content property) n 1)) (text_there (column_at property 1) (value_at (rows_at content property) n 1) refl refl (suits_here content are property (is_known known.Property) 1 n lt refl))
      (if_passes (is_value_of name) (text_in (value_at (rows_at content property) n 1)) (ap (λ (text : List ℕ). option_map_or (is_value_of text) (text_in (value_at (rows_at content property) n 1)) true) (sym (text_before (get_or (rows_at content property) n []))) ∙ (stands_here content are property (is_known known.Property) 1 n lt refl).0))

  lawful_rows : package_fault (rows_of_content content) ≡ None → AreLawful (rows_of_content content)
  unfolding rows_of_content
  lawful_rows right = record {
    components = apart_of (λ (r : ComponentRow). r.component) component_row (rows_at content component) (λ r. refl)
        (own_keys text_key component_row text_cells component (rows_at content component) (of_table content are component (is_known known.Component)) refl (text_tells component.columns refl) (keyed text_key component_row (rows_at content component)) refl);
    features = apart_of (λ (r : FeatureRow). r.feature) feature_row (rows_at content feature) (λ r. refl)
        (own_keys text_key feature_row text_cells feature (rows_at content feature) (of_table content are feature (is_known known.Feature)) refl (text_tells feature.columns refl) (keyed text_key feature_row (rows_at content feature)) refl);
    actions = apart_of (λ (r : InstallExecuteSequenceRow). r.action) install_execute_sequence_row (rows_at content install_execute_sequence) (λ r. refl)
        (own_keys text_key install_execute_sequence_row text_cells install_execute_sequence (rows_at content install_execute_sequence) (of_table content are install_execute_sequence (is_known known.InstallExecuteSequence)) refl (text_tells install_execute_sequence.columns refl) (keyed text_key install_execute_sequence_row (rows_at content install_execute_sequence)) refl);
    ids = ids_of (rows_at content component) (λ m n before lt. other_code (rows_at content component) m n before lt (stands_here content are component (is_known known.Component) 1 n lt refl).0);
    codes_are = codes_of_file (content component.name);
    product = value_suits (codes "ProductCode") (map property_row (rows_at content property)) (values_suit (rows_at content property) value_passes)
        (code_required (map property_row (rows_at content property)) (right_parts (rows_of_content content) right).required);
  }

folder_lawful : (content : Content) → (missing_fault content or_else tables_fault content tables or_else package_fault (rows_of_content content)) ≡ None → AreLawful (rows_of_content content)
folder_lawful content none =
    let rest = or_none (missing_fault content) (tables_fault content tables or_else package_fault (rows_of_content content)) none in
    let parts = or_none (tables_fault content tables) (package_fault (rows_of_content content)) rest.1 in
    lawful_rows content parts.0 parts.1

pub loaded_lawful : (g : Given) → IsLoaded g → AreLawful g.rows
unfolding load_fault folder_rows
loaded_lawful g loaded = subst AreLawful (sym loaded.rows) (folder_lawful (content_of g.files g.folder) loaded.right)
