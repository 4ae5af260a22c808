-- What the values of typed rows meet.
use Rattle.std.proofs.Common.{◌≡◌, ◌&&◌, ◌||◌, not, ℕ, ℤ, zero, suc, ◌<◌, ◌≤ℤ◌, Bool, true, false, List, [], ◌∷◌, length, take, get_or, Option, Some, None, is_some, is_none, refl, sym, ap, subst, ◌∙◌, arith}
use Rattle.std.specs.Prelude.{unwrap_or, int_le, ◌==◌, IfSome, AllPairs}
use Rattle.std.specs.Option.{option_map_or}
use Rattle.std.specs.List.{list_any}
use Rattle.std.proofs.lemmas.Bool.Decides.{nat_tests}
use Rattle.std.proofs.lemmas.Int.{ints}
use Rattle.mi_text.specs.FileNames.{is_file_name, is_file_pattern}
use Rattle.mi_text.specs.declared.guid.Guid.{Guid}
use Rattle.mi_rows.specs.Cells.{Cell}
use Rattle.mi_rows.specs.Cells as cell
use Rattle.mi_rows.specs.declared.column.Kind.{Kind}
use Rattle.mi_rows.specs.declared.column.Kind.TheVariants as kind
use Rattle.mi_schema.specs.Laws.{IsWithin, HasOtherCode}
use Rattle.mi_rows.specs.Typed.{keyed, some_number_in, some_code_in}
use Rattle.mi_rows.proofs.Words.{has_text}
use Rattle.mi_rows.specs.Values.{suits, suits_kind, Row, cell_at, text_in, text_at, number_in, is_root, has_code, code_in, same_code, is_new_code}
use Rattle.mi_rows.specs.Columns.{Column}
use Rattle.mi_schema.proofs.CellLaws.{OfKind}
use Rattle.mi_rows.proofs.FitLemmas.{front, back}
use Rattle.mi_schema.proofs.ReferenceLaws.{keyed_at, keyed_long}

-- ---- pairs of rows

pub pairs_keyed : {K R : Type 0} (key : Row → K) (row : Row → R) (P : K × R → K × R → Type 0) (rows : List Row) (entries : List (K × R)) → entries ≡ keyed key row rows
    → ((m n : ℕ) → m < n → n < length rows → P (key (get_or rows m []), row (get_or rows m [])) (key (get_or rows n []), row (get_or rows n []))) → AllPairs P entries
pairs_keyed key row P rows entries is h = subst (AllPairs P) (sym is) (λ m n d before lt.
    let there : n < length rows = let long = keyed_long key row rows in omega (arith, long, lt) in
    let also : m < length rows = omega (arith, there, before) in
    subst (λ a. P a (get_or (keyed key row rows) n d)) (sym (keyed_at key row rows m d also)) (subst (P (key (get_or rows m []), row (get_or rows m []))) (sym (keyed_at key row rows n d there)) (h m n before there)))

-- an earlier row that passes is among those before
pub any_before : (test : Row → Bool) (rows : List Row) (m n : ℕ) → m < n → n < length rows → test (get_or rows m []) ≡ true → list_any test (take n rows) ≡ true
any_before test [] m n before lt on = absurd (omega arith)
any_before test (r ∷ rows) m zero before lt on = absurd (omega arith)
any_before test (r ∷ rows) zero (suc n) before lt on = ap (λ b. b || list_any test (take n rows)) on
any_before test (r ∷ rows) (suc m) (suc n) before lt on = later (test r) (list_any test (take n rows)) (any_before test rows m n (omega arith) (omega arith) on)
  where
    later : (a b : Bool) → b ≡ true → (a || b) ≡ true
    later true b e = refl
    later false b e = e

-- a second root
pub one_root : (a b : Bool) → not (a && b) ≡ true → b ≡ true → a ≡ false
one_root true true e on = cc
one_root true false e on = cc
one_root false b e on = refl

not_both : (b : Bool) → not b ≡ true → b ≡ true → ⊥
not_both true e on = cc
not_both false e on = cc

same_number : (n : ℕ) → (n == n) ≡ true
same_number n = grind (arith, nat_tests)

code_seen : (code : Guid) (x : Option Cell) → some_code_in x ≡ Some code → same_code code.number (code_in x) ≡ true
code_seen code None e = cc
code_seen code (Some (cell.Text text)) e = cc
code_seen code (Some (cell.Integer z)) e = cc
code_seen code (Some (cell.Condition text tree)) e = cc
code_seen code (Some (cell.Code other)) e = let same : other ≡ code = cc in ap (λ (g : Guid). code.number == g.number) same ∙ same_number code.number

new_code : (before : List Row) (code : Guid) (x : Option Cell) → is_new_code before x ≡ true → some_code_in x ≡ Some code → list_any (has_code code.number) before ≡ true → ⊥
new_code before code None new e = cc
new_code before code (Some (cell.Text text)) new e = cc
new_code before code (Some (cell.Integer z)) new e = cc
new_code before code (Some (cell.Condition text tree)) new e = cc
new_code before code (Some (cell.Code other)) new e = λ seen.
    let same : other ≡ code = cc in
    not_both (list_any (has_code code.number) before) (sym (ap (λ (g : Guid). not (list_any (has_code g.number) before)) same) ∙ new) seen

-- the code of a row is none of an earlier one
pub other_code : (rows : List Row) (m n : ℕ) → m < n → n < length rows → is_new_code (take n rows) (cell_at (get_or rows n []) 1) ≡ true → HasOtherCode (some_code_in (cell_at (get_or rows m []) 1)) (some_code_in (cell_at (get_or rows n []) 1))
other_code rows m n before lt new = by (some_code_in (cell_at (get_or rows m []) 1)) refl
  where
    by : (o : Option Guid) → some_code_in (cell_at (get_or rows m []) 1) ≡ o → HasOtherCode o (some_code_in (cell_at (get_or rows n []) 1))
    by None is = tt
    by (Some code) is = λ same. new_code (take n rows) code (cell_at (get_or rows n []) 1) new same (any_before (has_code code.number) rows m n before lt (code_seen code (cell_at (get_or rows m []) 1) is))

-- ---- the values before a value in its row

pub text_before : (row : Row) → text_at (take 1 row) 0 ≡ text_at row 0
text_before [] = refl
text_before (x ∷ xs) = refl

pub number_before : (row : Row) → number_in (cell_at (take 1 row) 0) ≡ number_in (cell_at row 0)
number_before [] = refl
number_before (x ∷ xs) = refl

pub root_before : (row : Row) → is_root (take 2 row) ≡ is_root row
root_before [] = refl
root_before (x ∷ []) = refl
root_before (x ∷ y ∷ xs) = refl

-- ---- texts

-- a value that isn't null is of its kind
pub kind_suits : (k : Kind) (c : Column) (x : Option Cell) → c.kind ≡ k → suits c x ≡ true → IfSome x (λ v. suits_kind k v ≡ true)
kind_suits k c None is on = tt
kind_suits k c (Some v) is on = sym (ap (λ (l : Kind). suits_kind l v) is) ∙ on

text_of : (k : Kind) (x : Cell) → has_text k ≡ true → suits_kind k x ≡ true → is_some (text_in (Some x)) ≡ true
text_of k (cell.Text text) has on = refl
text_of k (cell.Condition text tree) has on = refl
text_of kind.Integer (cell.Integer z) has on = cc
text_of other (cell.Integer z) has on = cc
text_of kind.Code (cell.Code code) has on = cc
text_of other (cell.Code code) has on = cc

-- a value of a column of texts that allows no null has one
pub text_there : (c : Column) (x : Option Cell) → has_text c.kind ≡ true → c.nullable ≡ false → suits c x ≡ true → is_some (text_in x) ≡ true
text_there c None has off on = let wrong : true ≡ false = sym on ∙ off in cc
text_there c (Some v) has off on = text_of c.kind v has on

-- what holds of a text holds of the text that is there
pub passes : (P : List ℕ → Type 0) (o : Option (List ℕ)) → is_some o ≡ true → IfSome o P → P (unwrap_or o [])
passes P None some h = let wrong : false ≡ true = some in absurd cc
passes P (Some text) some h = h

pub if_passes : (test : List ℕ → Bool) (o : Option (List ℕ)) → option_map_or test o true ≡ true → IfSome o (λ text. test text ≡ true)
if_passes test None e = tt
if_passes test (Some text) e = e

pub if_name : (x : Option Cell) → IfSome x (λ v. suits_kind kind.Name v ≡ true) → OfKind x kind.Name → IfSome (text_in x) (λ text. is_file_name text ≡ true)
if_name None on is = tt
if_name (Some (cell.Text text)) on is = is
if_name (Some (cell.Integer z)) on is = tt
if_name (Some (cell.Code code)) on is = tt
if_name (Some (cell.Condition text tree)) on is = let wrong : false ≡ true = on in absurd cc

pub if_pattern : (x : Option Cell) → IfSome x (λ v. suits_kind kind.Pattern v ≡ true) → OfKind x kind.Pattern → IfSome (text_in x) (λ text. is_file_pattern text ≡ true)
if_pattern None on is = tt
if_pattern (Some (cell.Text text)) on is = is
if_pattern (Some (cell.Integer z)) on is = tt
if_pattern (Some (cell.Code code)) on is = tt
if_pattern (Some (cell.Condition text tree)) on is = let wrong : false ≡ true = on in absurd cc

-- ---- numbers

at_most : (a b : ℤ) → int_le a b ≡ true → a ≤ℤ b
at_most a b e = grind (arith, ints)

in_bounds : (low high z : ℤ) → (int_le low z && int_le z high) ≡ true → IsWithin low high z
in_bounds low high z e = (at_most low z (front (int_le low z) (int_le z high) e), at_most z high (back (int_le low z) (int_le z high) e))

pub within : (low high : ℤ) (x : Option Cell) → is_some x ≡ true → (is_none x || (int_le low (number_in x) && int_le (number_in x) high)) ≡ true → IsWithin low high (number_in x)
within low high None some e = let wrong : false ≡ true = some in absurd cc
within low high (Some v) some e = in_bounds low high (number_in (Some v)) e

pub if_within : (low high : ℤ) (x : Option Cell) → (is_none x || (int_le low (number_in x) && int_le (number_in x) high)) ≡ true → IfSome (some_number_in x) (IsWithin low high)
if_within low high None e = tt
if_within low high (Some (cell.Integer z)) e = in_bounds low high z e
if_within low high (Some (cell.Text text)) e = tt
if_within low high (Some (cell.Code code)) e = tt
if_within low high (Some (cell.Condition text tree)) e = tt
