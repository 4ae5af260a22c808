-- The values that the fields of a row are.
use Rattle.std.proofs.Common.{◌≡◌, ℕ, pos, zero, suc, ◌<◌, ◌≤◌, length, get_or, arith, Bool, true, false, cond, ◌||◌, List, [], ◌∷◌, ◌++◌, map, Option, Some, None, refl, sym, ap, subst, ◌∙◌}
use Rattle.std.specs.Prelude.{option_map, unwrap_or, is_none, not}
use Rattle.std.specs.declared.alloc.Global.{Global}
use Rattle.std.specs.Prelude.{string_bytes, String}
use Rattle.std.specs.HashSet as bag
use Rattle.std.specs.HashSet.{HashSet, contains_text}
use Rattle.std.specs.Str.{bytes_eq}
use Rattle.std.specs.String.{string_eq}
use Rattle.std.proofs.lemmas.List.Folds.{list_any-append}
use Rattle.std.proofs.lemmas.Map.Text.{hash_set_updates_text, is_eq-slice_cmp}
use Rattle.std.specs.Cmp.{eq_by_cmp_equiv}
use Rattle.mi_text.proofs.MapLemmas.{names_total}
use Rattle.mi_text.specs.Maps.{Name, same_name}
use Rattle.mi_cond.specs.Tree.{Tree}
use Rattle.mi_idt.specs.Cells as raw
use Rattle.mi_idt.specs.Fields.{unescaped}
use Rattle.mi_idt.specs.Means.{Shows, text_shown}
use Rattle.mi_idt.specs.Raw.{text_of}
use Rattle.mi_idt.proofs.Numbers.{is_integer}
use Rattle.mi_rows.specs.declared.column.Kind.{Kind}
use Rattle.mi_rows.specs.declared.column.Kind.TheVariants as kind
use Rattle.mi_rows.specs.declared.column.Rule.{Rule}
use Rattle.mi_rows.specs.declared.column.Rule.TheVariants as rule
use Rattle.mi_rows.specs.declared.field.Field.{Field}
use Rattle.mi_rows.specs.declared.column.Column.{Column as Listed}
use Rattle.mi_rows.specs.Cells.{Cell, Integer}
use Rattle.mi_rows.specs.Fields.{field_value, values_of, shown_value, last_condition}
use Rattle.mi_rows.specs.Reads.{FitsKind, KnowsKeys}
use Rattle.mi_rows.specs.declared.field.Bad.{Bad}
use Rattle.mi_rows.specs.Rows.{◌or_else◌, cell_fault}
use Rattle.mi_rows.specs.Columns.{column_as}
use Rattle.mi_rows.specs.Typed.{some_condition_in}
use Rattle.mi_rows.specs.Values.{Row, cell_at, value_of, text_value, row_of, text_at, text_in, is_key_in, takes_any, kind_fault, meets, unless}
use Rattle.mi_rows.proofs.FitLemmas.{AllFit}

pub cell_there : (row : List Field) (column : ℕ) (f : Field) → column < length row → f ≡ get_or row column f → cell_at (values_of row) column ≡ field_value f
cell_there [] column f lt is = absurd (omega (arith, lt))
cell_there (g ∷ row) zero f lt is = ap field_value (sym is)
cell_there (g ∷ row) (suc column) f lt is = cell_there row column f (omega (arith, lt)) is

pub cell_absent : (row : List Field) (column : ℕ) → length row ≤ column → cell_at (values_of row) column ≡ None
cell_absent [] column le = refl
cell_absent (g ∷ row) zero le = absurd (omega (arith, le))
cell_absent (g ∷ row) (suc column) le = cell_absent row column (omega (arith, le))

-- what a field that is shown is worth
shown_as : (k : Kind) (shown : Option (List ℕ)) (x : raw.Cell) → Shows shown x → FitsKind k x → option_map (shown_value k) shown ≡ value_of k x
shown_as k None raw.Nothing shows fits = refl
shown_as k None (raw.Text t) shows fits = absurd shows
shown_as k None (raw.Number z) shows fits = absurd shows
shown_as k (Some text) raw.Nothing shows fits = absurd shows
shown_as kind.Integer (Some text) (raw.Text t) shows fits = absurd fits
shown_as kind.Integer (Some text) (raw.Number z) shows fits = ap (λ o. Some (Integer (unwrap_or o (pos 0)))) (is_integer 2147483647 text z shows)
shown_as kind.Text (Some text) (raw.Text t) shows fits = ap (λ t. Some (text_value kind.Text t)) shows
shown_as kind.Text (Some text) (raw.Number z) shows fits = absurd fits
shown_as kind.Name (Some text) (raw.Text t) shows fits = ap (λ t. Some (text_value kind.Name t)) shows
shown_as kind.Name (Some text) (raw.Number z) shows fits = absurd fits
shown_as kind.Pattern (Some text) (raw.Text t) shows fits = ap (λ t. Some (text_value kind.Pattern t)) shows
shown_as kind.Pattern (Some text) (raw.Number z) shows fits = absurd fits
shown_as kind.Formatted (Some text) (raw.Text t) shows fits = ap (λ t. Some (text_value kind.Formatted t)) shows
shown_as kind.Formatted (Some text) (raw.Number z) shows fits = absurd fits
shown_as kind.Condition (Some text) (raw.Text t) shows fits = ap (λ t. Some (text_value kind.Condition t)) shows
shown_as kind.Condition (Some text) (raw.Number z) shows fits = absurd fits
shown_as kind.Code (Some text) (raw.Text t) shows fits = ap (λ t. Some (text_value kind.Code t)) shows
shown_as kind.Code (Some text) (raw.Number z) shows fits = absurd fits

pub value_shown : (f : Field) (x : raw.Cell) → Shows (text_shown f.text.now) x → FitsKind f.kind x → field_value f ≡ value_of f.kind x
value_shown f x shows fits = shown_as f.kind (text_shown f.text.now) x shows fits

-- a text that is shown isn't empty
pub some_shown : (text field : List ℕ) → Some text ≡ text_of field → text_shown text ≡ Some text
some_shown text [] is = absurd cc
some_shown text (b ∷ bs) is = let same : text ≡ unescaped b ∷ map unescaped bs = cc in ap text_shown same ∙ ap Some (sym same)

-- a field of its kind is a value of its column where it meets the rule
pub judged : (c : Listed) (f : Field) (x : raw.Cell) → f.kind ≡ c.kind → Shows (text_shown f.text.now) x → FitsKind c.kind x → (keys : List Name) (before : List Row) (front : Row) → kind_fault f.kind c.nullable x ≡ None
    → (b : Bool) → b ≡ meets c.rule keys before front (field_value f) → cell_fault (column_as c) keys before front x ≡ unless b
judged c f x same shows fits keys before front none b is =
    let at : value_of c.kind x ≡ field_value f = ap (λ (k : Kind). value_of k x) (sym same) ∙ sym (value_shown f x shows (subst (λ (k : Kind). FitsKind k x) (sym same) fits)) in
    let first : kind_fault c.kind c.nullable x ≡ None = ap (λ (k : Kind). kind_fault k c.nullable x) (sym same) ∙ none in
    ap (λ (o : Option Bad). o or_else unless (meets c.rule keys before front (value_of c.kind x))) first ∙ ap (λ (v : Option Cell). unless (meets c.rule keys before front v)) at ∙ ap unless (sym is)

-- a field of a free column that takes any text, or integers
any_fits : (k : Kind) (nullable : Bool) (shown : Option (List ℕ)) (x : raw.Cell) → takes_any k ≡ true → (nullable || not (is_none shown)) ≡ true → Shows shown x → kind_fault k nullable x ≡ None
any_fits k true None raw.Nothing any may shows = refl
any_fits k false None raw.Nothing any may shows = absurd cc
any_fits k nullable (Some t) raw.Nothing any may shows = absurd shows
any_fits kind.Text nullable shown (raw.Text t) any may shows = refl
any_fits kind.Formatted nullable shown (raw.Text t) any may shows = refl
any_fits kind.Integer nullable shown (raw.Text t) any may shows = refl
any_fits kind.Name nullable shown (raw.Text t) any may shows = absurd cc
any_fits kind.Pattern nullable shown (raw.Text t) any may shows = absurd cc
any_fits kind.Condition nullable shown (raw.Text t) any may shows = absurd cc
any_fits kind.Code nullable shown (raw.Text t) any may shows = absurd cc
any_fits k nullable shown (raw.Number z) any may shows = refl

no_condition : (k : Kind) (shown : Option (List ℕ)) → takes_any k ≡ true → None ≡ some_condition_in (option_map (shown_value k) shown)
no_condition k None any = refl
no_condition kind.Text (Some t) any = refl
no_condition kind.Formatted (Some t) any = refl
no_condition kind.Integer (Some t) any = refl
no_condition kind.Name (Some t) any = absurd cc
no_condition kind.Pattern (Some t) any = absurd cc
no_condition kind.Condition (Some t) any = absurd cc
no_condition kind.Code (Some t) any = absurd cc

pub free_value : (c : Listed) (f : Field) (x : raw.Cell) → f.kind ≡ c.kind → Shows (text_shown f.text.now) x → FitsKind c.kind x → (keys : List Name) (before : List Row) (front : Row)
    → c.rule ≡ rule.Free → takes_any c.kind ≡ true → (c.nullable || not (is_none (text_shown f.text.now))) ≡ true → (cell_fault (column_as c) keys before front x ≡ None) × (None ≡ some_condition_in (field_value f))
free_value c f x same shows fits keys before front free any may =
    let any_f : takes_any f.kind ≡ true = ap takes_any same ∙ any in
    let met : true ≡ meets c.rule keys before front (field_value f) = sym (ap (λ (r : Rule). meets r keys before front (field_value f)) free) in
    (judged c f x same shows fits keys before front (any_fits f.kind c.nullable (text_shown f.text.now) x any_f may shows) true met, no_condition f.kind (text_shown f.text.now) any_f)

-- one value more
pub last_more : (row : Row) (x : Option Cell) → last_condition (row ++ x ∷ []) ≡ (some_condition_in x or_else last_condition row)
last_more [] x = nothing (some_condition_in x) where
  nothing : (o : Option Tree) → (None or_else o) ≡ (o or_else None)
  nothing None = refl
  nothing (Some tree) = refl
last_more (y ∷ row) x = ap (λ (o : Option Tree). o or_else some_condition_in y) (last_more row x) ∙ turned (some_condition_in x) (last_condition row) (some_condition_in y) where
  turned : (a b c : Option Tree) → ((a or_else b) or_else c) ≡ (a or_else (b or_else c))
  turned None b c = refl
  turned (Some tree) b c = refl

-- the text of the first column
pub key_field : (listed : List Listed) (d : Listed) (cells : List raw.Cell) (f : Field) → 1 ≤ length listed → AllFit (map column_as listed) cells → f.kind ≡ (get_or listed 0 d).kind → Shows (text_shown f.text.now) (get_or cells 0 raw.Nothing)
    → text_at (row_of (map column_as listed) cells) 0 ≡ unwrap_or (text_in (field_value f)) []
key_field [] d cells f some fit same shows = absurd (omega (arith, some))
key_field (k ∷ ks) d [] f some fit same shows = absurd fit
key_field (k ∷ ks) d (x ∷ xs) f some fit same shows =
    sym (ap (λ v. unwrap_or (text_in v) []) (value_shown f x shows (subst (λ (k : Kind). FitsKind k x) (sym same) fit.0) ∙ ap (λ (k : Kind). value_of k x) same))

-- the keys that are held, and one more
pub knows_more : {S : Type 0} (texts after : HashSet (String Global) S) (keys : List Name) (key : Name) → KnowsKeys texts keys → bag.UpdatesBy string_eq (λ k. bytes_eq key (string_bytes k)) texts after true → KnowsKeys after (keys ++ key ∷ [])
knows_more texts after keys key knows updates q =
    hash_set_updates_text key texts after true updates q ∙ ap (λ b. cond b true (contains_text texts q)) (sym (eq_names q key)) ∙ ap (λ b. cond (same_name q key) true b) (knows q) ∙ turned (same_name q key) (is_key_in keys q)
    ∙ sym (list_any-append (same_name q) keys (key ∷ []))
  where
    eq_names : (q k : Name) → same_name q k ≡ bytes_eq k q
    eq_names q k = (eq_by_cmp_equiv names_total).symm q k ∙ is_eq-slice_cmp k q

    turned : (a b : Bool) → cond a true b ≡ (b || (a || false))
    turned true true = refl
    turned true false = refl
    turned false true = refl
    turned false false = refl
